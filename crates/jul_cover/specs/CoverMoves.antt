-- Where the drawn sets go after a round.
use Rattle.std.specs.Prelude.{◌≡◌, ◌≢◌, ℕ, ◌<◌, ◌==◌, List, [], ◌∷◌, length, slice_index, if◌then◌else◌}
use Rattle.std.specs.List.{flat_map}
use Rattle.jul_base.specs.declared.limits.TheConstants.{NONE}
use Rattle.jul_base.specs.CoverRounds.{set_at, floor_log2}
use Rattle.jul_bucket.specs.Orders.{IsNotBehind}
use Rattle.jul_bucket.specs.States.{State}

-- the bucket of a set of so many elements, NONE for none
abbrev pub place_for : ℕ → ℕ
place_for size = if size == 0 then NONE else floor_log2 size

-- each set is in the bucket of its size
pub record AreSizes (sets : List (List ℕ)) (places : List ℕ) : Type 0 where
  pub size : length places ≡ length sets
  pub each : (s : ℕ) → s < length sets → slice_index places s ≡ place_for (length (set_at sets s))

-- the bucket of what is left of a set, NONE for one that was chosen
abbrev pub next_place : (ℕ → List ℕ) → List ℕ → ℕ → ℕ
next_place pack round s = if slice_index round s == NONE then place_for (length (pack s)) else NONE

-- the move of a set that has left its bucket, or none
abbrev pub move_of : (ℕ → List ℕ) → List ℕ → ℕ → List (ℕ × ℕ)
move_of pack round s = if next_place pack round s == NONE then [] else ((s, next_place pack round s) ∷ [])

-- the moves of some sets, in order
abbrev pub moves_of : (ℕ → List ℕ) → List ℕ → List ℕ → List (ℕ × ℕ)
moves_of pack round listed = flat_map (move_of pack round) listed

-- a set of which may be asked where it goes: it is in no bucket, and where it goes isn't behind the front
pub record CanMove (s : State) (n : ℕ) (pack : ℕ → List ℕ) (round : List ℕ) (set : ℕ) : Type 0 where
  pub in_range : set < n
  pub drawn : slice_index s.places set ≡ NONE
  pub not_behind : next_place pack round set ≢ NONE → IsNotBehind s.order (next_place pack round set) s.front
