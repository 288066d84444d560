use Rattle.std.proofs.Common.{drop}
use Rattle.jul_adj.specs.Values.{Rises}
use Rattle.jul_adj.proofs.values.rises.Given as goal

abbrev pub invariant-loop-value : goal.invariant-loop-value
invariant-loop-value l = Rises l.before (drop l.value-index l.values) → Rises l.fn.from l.values
