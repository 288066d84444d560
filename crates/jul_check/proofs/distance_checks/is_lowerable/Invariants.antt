use Rattle.std.proofs.Common.{◌≡◌, ◌+◌, false}
use Rattle.std.specs.List.{list_any, range_with_len}
use Rattle.jul_base.specs.Graph.{row_start}
use Rattle.jul_check.specs.DistanceChecks.{is_lowered}
use Rattle.jul_check.proofs.distance_checks.is_lowerable.Given as goal

abbrev pub invariant-loop-w : goal.invariant-loop-w
invariant-loop-w l = record {
  place : l.place ≡ row_start l.rows l.v + l.w-index;
  none : list_any (is_lowered l.rows l.dist l.v) (range_with_len (row_start l.rows l.v) l.w-index) ≡ false;
}
