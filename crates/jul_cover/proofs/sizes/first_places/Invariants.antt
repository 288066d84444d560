use Rattle.std.proofs.Common.{◌≡◌, ℕ, ◌<◌, length, get_or}
use Rattle.jul_base.specs.CoverRounds.{set_at}
use Rattle.jul_cover.specs.CoverMoves.{place_for}
use Rattle.jul_cover.proofs.sizes.first_places.Given as goal

abbrev pub invariant-loop-s : goal.invariant-loop-s
invariant-loop-s l = (length l.places.items ≡ l.s) × ((k : ℕ) → k < l.s → get_or l.places.items k 0 ≡ place_for (length (set_at l.sets k)))
