use Rattle.std.proofs.Common.{ℕ, ◌<◌, get_or}
use Rattle.jul_base.specs.Graph.{vertices}
use Rattle.jul_dist.proofs.tests.from.Given as goal

abbrev pub invariant-loop-source : goal.invariant-loop-source
invariant-loop-source g l = (k d : ℕ) → k < l.source-index → get_or l.sources k d < vertices l.rows
