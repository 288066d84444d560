-- From counts to new places: the moves of a round.
use Rattle.std.specs.Prelude.{◌≡◌, ℕ, ◌-◌, ◌<◌, ◌==◌, max, ◌≢◌, List, [], ◌∷◌, length, All, slice_index, if◌then◌else◌}
use Rattle.jul_bucket.specs.declared.orders.Order.TheVariants.{Increasing}
use Rattle.jul_bucket.specs.States.{State}
use Rattle.jul_base.specs.declared.limits.TheConstants.{NONE}

-- a move for each vertex counted that is in a bucket: its place less its count, down to the bucket drawn
abbrev pub moves_of : List ℕ → ℕ → List (ℕ × ℕ) → List (ℕ × ℕ)
moves_of places bucket [] = []
moves_of places bucket (e ∷ es) =
    if slice_index places e.0 == NONE then moves_of places bucket es
    else ((e.0, max bucket (slice_index places e.0 - e.1)) ∷ moves_of places bucket es)

-- the move of one vertex counted, or none where it is in no bucket
abbrev pub move_of : List ℕ → ℕ → ℕ × ℕ → List (ℕ × ℕ)
move_of places bucket e = if slice_index places e.0 == NONE then [] else ((e.0, max bucket (slice_index places e.0 - e.1)) ∷ [])

-- a vertex counted that loses some places, and if it is in a bucket, then in a later one than the one drawn
pub record IsAhead (places : List ℕ) (bucket : ℕ) (e : ℕ × ℕ) : Type 0 where
  pub in_range : e.0 < length places
  pub some : 0 < e.1
  pub later : slice_index places e.0 ≢ NONE → bucket < slice_index places e.0

-- what a worker asks for before it makes moves
pub record CanLower (s : State) (bucket : ℕ) (counts : List (ℕ × ℕ)) : Type 0 where
  pub order : s.order ≡ Increasing
  pub front : s.front ≡ bucket
  pub ahead : All (IsAhead s.places bucket) counts
