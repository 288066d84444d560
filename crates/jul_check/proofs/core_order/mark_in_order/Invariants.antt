use Rattle.jul_check.proofs.CoreOrderLaws.{MarksSoFar}
use Rattle.jul_check.proofs.core_order.mark_in_order.Given as goal

abbrev pub invariant-loop-v : goal.invariant-loop-v
invariant-loop-v l = MarksSoFar l.c l.n l.order l.v-index l.marks.items l.greatest
