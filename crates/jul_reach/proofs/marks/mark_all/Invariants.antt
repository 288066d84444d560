use Rattle.std.proofs.Common.{take}
use Rattle.jul_reach.proofs.MarkLaws.{HasMarked}
use Rattle.jul_reach.proofs.marks.mark_all.Given as goal

abbrev pub invariant-loop-id : goal.invariant-loop-id
invariant-loop-id l = HasMarked l.fn.marks l.marks (take l.id-index l.ids)
