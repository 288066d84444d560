use Rattle.std.proofs.Common.{take}
use Rattle.jul_base.specs.Graph.{row}
use Rattle.jul_check.specs.CoverMarks.{HasMarked}
use Rattle.jul_check.proofs.cover_marks.mark_row.Given as goal

abbrev pub invariant-loop-w : goal.invariant-loop-w
invariant-loop-w l = HasMarked l.rows l.c l.s (take l.w-index (row l.rows l.s)) l.marks
