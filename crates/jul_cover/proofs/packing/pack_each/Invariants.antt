use Rattle.std.proofs.Common.{take}
use Rattle.jul_cover.specs.PackedSets.{HasPacked}
use Rattle.jul_cover.proofs.packing.pack_each.Given as goal

abbrev pub invariant-loop-s : goal.invariant-loop-s
invariant-loop-s l = HasPacked l.by (take l.s-index l.listed) l.fn.p l.p
