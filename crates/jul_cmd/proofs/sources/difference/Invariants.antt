use Rattle.std.proofs.Common.{◌≡◌, drop}
use Rattle.jul_cmd.specs.Checking.{difference_at}
use Rattle.jul_cmd.proofs.sources.difference.Given as goal

-- the rest decides
abbrev pub invariant-loop-at : goal.invariant-loop-at
invariant-loop-at l = difference_at l.at (drop l.at l.named) (drop l.at l.given) ≡ difference_at 0 l.named l.given
