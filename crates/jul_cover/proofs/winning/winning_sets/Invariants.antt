use Rattle.std.proofs.Common.{◌≡◌, take}
use Rattle.jul_cover.specs.PackedSets.{pack_at}
use Rattle.jul_cover.specs.Keeping.{winning_of}
use Rattle.jul_cover.proofs.winning.winning_sets.Given as goal

abbrev pub invariant-loop-s : goal.invariant-loop-s
invariant-loop-s l = l.winning.items ≡ winning_of (pack_at l.packs) l.holders l.bucket (take l.s-index l.candidates)
