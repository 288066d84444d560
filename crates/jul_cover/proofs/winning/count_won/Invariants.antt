use Rattle.std.proofs.Common.{◌≡◌, ◌≤◌, take}
use Rattle.jul_cover.specs.PackedSets.{pack_at}
use Rattle.jul_cover.specs.Keeping.{won_by}
use Rattle.jul_cover.proofs.winning.count_won.Given as goal

abbrev pub invariant-loop-e : goal.invariant-loop-e
invariant-loop-e l = (l.won ≡ won_by (pack_at l.packs) l.holders l.bucket l.s (take l.e-index l.elements)) × (l.won ≤ l.e-index)
