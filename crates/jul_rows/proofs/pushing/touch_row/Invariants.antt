use Rattle.std.proofs.Common.{◌≡◌, ◌+◌}
use Rattle.jul_base.specs.Graph.{row_start}
use Rattle.jul_rows.proofs.pushing.touch_row.Given as goal

abbrev pub invariant-loop-v : goal.invariant-loop-v
invariant-loop-v g l = l.place ≡ row_start l.rows l.u + l.v-index
