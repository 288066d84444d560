use Rattle.std.proofs.Common.{[]}
use Rattle.jul_check.specs.CoverMarks.{HasMarked}
use Rattle.jul_check.proofs.cover_marks.mark_all.Given as goal

abbrev pub invariant-loop-s : goal.invariant-loop-s
invariant-loop-s l = HasMarked l.rows l.c l.s [] l.marks
