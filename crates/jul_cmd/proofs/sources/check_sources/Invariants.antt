use Rattle.std.proofs.Common.{◌≡◌, drop}
use Rattle.jul_cmd.specs.Suited.{refusal_of_sources}
use Rattle.jul_cmd.proofs.sources.check_sources.Given as goal

-- the rest decides
abbrev pub invariant-loop-source : goal.invariant-loop-source
invariant-loop-source l = refusal_of_sources l.n (drop l.source-index l.sources) ≡ refusal_of_sources l.n l.sources
