use Rattle.std.proofs.Common.{◌≡◌, take}
use Rattle.jul_dist.specs.Moving.{moves_of}
use Rattle.jul_dist.proofs.moving.moves_to.Given as goal

abbrev pub invariant-loop-v : goal.invariant-loop-v
invariant-loop-v l = l.moves.items ≡ moves_of l.buckets l.delta l.values (take l.v-index l.ids)
