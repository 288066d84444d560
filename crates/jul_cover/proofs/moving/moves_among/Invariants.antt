use Rattle.std.proofs.Common.{◌≡◌, take}
use Rattle.jul_cover.specs.PackedSets.{pack_at}
use Rattle.jul_cover.specs.CoverMoves.{moves_of}
use Rattle.jul_cover.proofs.moving.moves_among.Given as goal

abbrev pub invariant-loop-s : goal.invariant-loop-s
invariant-loop-s l = l.moves.items ≡ moves_of (pack_at l.packs) l.columns.round.items (take l.s-index l.group)
