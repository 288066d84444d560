use Rattle.std.proofs.Common.{length}
use Rattle.jul_dist.proofs.GroupLaws.{AreMoved}
use Rattle.jul_dist.proofs.moving.move_all.Given as goal

abbrev pub invariant-groups : goal.invariant-groups
invariant-groups l = AreMoved l.delta l.values l.ids l.rest l.fn.buckets l.buckets

abbrev pub decreases-groups : goal.decreases-groups
decreases-groups l = length l.rest
