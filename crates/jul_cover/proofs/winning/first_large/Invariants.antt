use Rattle.std.proofs.Common.{◌≡◌, drop}
use Rattle.std.specs.List.{find}
use Rattle.jul_cover.specs.PackedSets.{pack_at}
use Rattle.jul_cover.specs.Keeping.{is_large}
use Rattle.jul_cover.proofs.winning.first_large.Given as goal

abbrev pub invariant-loop-s : goal.invariant-loop-s
invariant-loop-s l = find (is_large (pack_at l.packs) l.bucket) l.sets ≡ find (is_large (pack_at l.packs) l.bucket) (drop l.s-index l.sets)
