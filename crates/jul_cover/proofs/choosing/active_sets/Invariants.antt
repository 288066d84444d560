use Rattle.std.proofs.Common.{◌≡◌, take}
use Rattle.jul_cover.specs.PackedSets.{pack_at}
use Rattle.jul_cover.specs.Choosing.{active_of}
use Rattle.jul_cover.proofs.choosing.active_sets.Given as goal

abbrev pub invariant-loop-s : goal.invariant-loop-s
invariant-loop-s l = l.active.items ≡ active_of (pack_at l.packs) l.bucket (take l.s-index l.drawn)
