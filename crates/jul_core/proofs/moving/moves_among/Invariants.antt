use Rattle.std.proofs.Common.{◌≡◌, take}
use Rattle.std.specs.List.{flat_map}
use Rattle.jul_core.specs.PeelMoves.{move_of}
use Rattle.jul_core.proofs.moving.moves_among.Given as goal

abbrev pub invariant-loop-v : goal.invariant-loop-v
invariant-loop-v l = l.moves.items ≡ flat_map (move_of l.buckets.places l.bucket) (take l.v-index l.counts)
