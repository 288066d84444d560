use Rattle.std.proofs.Common.{◌≡◌, take}
use Rattle.jul_cover.specs.PackedSets.{pack_at}
use Rattle.jul_cover.specs.Keeping.{holders_of}
use Rattle.jul_cover.proofs.touching.touched_by.Given as goal

abbrev pub invariant-loop-s : goal.invariant-loop-s
invariant-loop-s l = l.touched.items ≡ holders_of (pack_at l.packs) l.holders (take l.s-index l.sets)
