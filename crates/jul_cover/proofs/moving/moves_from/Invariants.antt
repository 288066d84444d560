use Rattle.std.proofs.Common.{◌≡◌, take}
use Rattle.jul_cover.specs.PackedSets.{pack_at}
use Rattle.jul_cover.specs.KeptTurns.{leaving_of}
use Rattle.jul_cover.proofs.moving.moves_from.Given as goal

abbrev pub invariant-loop-s : goal.invariant-loop-s
invariant-loop-s l = l.moves.items ≡ leaving_of (pack_at l.packs) l.columns.round.items l.buckets.places l.bucket (take l.s-index l.listed)
