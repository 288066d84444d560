use Rattle.std.proofs.Common.{◌≡◌, ◌+◌, ◌||◌}
use Rattle.jul_base.specs.Graph.{vertices, row_start}
use Rattle.jul_check.specs.Marks.{AreMarks}
use Rattle.jul_check.specs.TreeMarks.{is_marked, is_marked_in_row}
use Rattle.jul_check.proofs.tree_marks.mark_row.Given as goal

abbrev pub invariant-loop-v : goal.invariant-loop-v
invariant-loop-v l = record {
  place : l.place ≡ row_start l.rows l.u + l.v-index;
  marks : AreMarks (vertices l.rows) (λ v. is_marked l.rows l.d l.u v || is_marked_in_row l.rows l.d l.u l.v-index v) l.marks.items;
}
