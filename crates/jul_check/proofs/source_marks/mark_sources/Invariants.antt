use Rattle.std.proofs.Common.{take}
use Rattle.jul_base.specs.Sets.{has}
use Rattle.jul_check.specs.Marks.{AreMarks}
use Rattle.jul_check.proofs.source_marks.mark_sources.Given as goal

abbrev pub invariant-loop-s : goal.invariant-loop-s
invariant-loop-s l = AreMarks l.n (has (take l.s-index l.sources)) l.marks.items
