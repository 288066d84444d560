use Rattle.std.proofs.Common.{◌≡◌, take}
use Rattle.std.specs.List.{flat_map}
use Rattle.jul_count.specs.Packs.{alone}
use Rattle.jul_count.proofs.packing.pack_each.Given as goal

abbrev pub invariant-loop-s : goal.invariant-loop-s
invariant-loop-s g l = l.packs.items ≡ flat_map (alone (g.K.Keep.kept l.test) l.rows) (take l.s-index l.sets)
