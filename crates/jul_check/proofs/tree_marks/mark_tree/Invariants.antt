use Rattle.jul_base.specs.Graph.{vertices}
use Rattle.jul_check.specs.Marks.{AreMarks}
use Rattle.jul_check.specs.TreeMarks.{is_marked}
use Rattle.jul_check.proofs.tree_marks.mark_tree.Given as goal

abbrev pub invariant-loop-u : goal.invariant-loop-u
invariant-loop-u l = AreMarks (vertices l.rows) (is_marked l.rows l.d l.u) l.marks.items
