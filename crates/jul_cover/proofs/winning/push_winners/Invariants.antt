use Rattle.std.proofs.Common.{◌≡◌, ◌++◌, take}
use Rattle.std.specs.List.{flat_map}
use Rattle.jul_cover.specs.PackedSets.{pack_at}
use Rattle.jul_cover.specs.Keeping.{winner_in, listed}
use Rattle.jul_cover.proofs.winning.push_winners.Given as goal

abbrev pub invariant-loop-e : goal.invariant-loop-e
invariant-loop-e l = l.winners.items ≡ l.fn.winners.items ++ flat_map (λ e. listed (winner_in (pack_at l.packs) l.holders l.bucket e)) (take l.e-index l.elements)
