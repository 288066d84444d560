-- What the root finds in the words after a round, and where the vertices go whose numbers fell.
use Rattle.std.specs.Prelude.{◌≡◌, ◌≢◌, ℕ, ◌+◌, ◌*◌, ◌/◌, ◌<◌, ◌≤◌, ◌==◌, ◌↔◌, not, min, List, [], ◌∷◌, length, sum, count_by, Contains, slice_index}
use Rattle.std.specs.List.{flat_map}
use Rattle.jul_base.specs.declared.limits.TheConstants.{NONE}
use Rattle.jul_bucket.specs.declared.draws.Dest.{Dest}
use Rattle.jul_bucket.specs.declared.draws.Dest.TheVariants.{Null, Open, Overflow}
use Rattle.jul_bucket.specs.Orders.{IsNotBehind}
use Rattle.jul_bucket.specs.States.{State, dest_of}

-- how many vertices are in some bucket
abbrev pub placed : List ℕ → ℕ
placed places = count_by (λ p. not (p == NONE)) places

-- falls with each round
abbrev pub remaining : List ℕ → List ℕ → ℕ
remaining values places = 2 * sum values + placed places

-- The numbers of these vertices are those that were loaded where they were greater, and the others are as before. The
-- vertices whose numbers fell are listed, no more often than the sum has fallen
pub record HasTaken (loaded : ℕ → ℕ) (old new ids fell : List ℕ) : Type 0 where
  pub size : length new ≡ length old
  pub lowered : (v : ℕ) → v < length old → Contains ids v → slice_index new v ≡ min (loaded v) (slice_index old v)
  pub kept : (v : ℕ) → (Contains ids v → ⊥) → slice_index new v ≡ slice_index old v
  pub fell_are : (v : ℕ) → Contains fell v ↔ (v < length old) × (slice_index new v < slice_index old v)
  pub less : sum new + length fell ≤ sum old

-- the bucket of a vertex's number
abbrev pub bucket_of : ℕ → List ℕ → ℕ → ℕ
bucket_of delta values v = slice_index values v / delta

-- the move, unless it leads nowhere
abbrev pub move_to : Dest → ℕ × ℕ → List (ℕ × ℕ)
move_to Null move = []
move_to (Open i) move = move ∷ []
move_to Overflow move = move ∷ []

-- the move of a vertex to the bucket of its number
abbrev pub move_of : State → ℕ → List ℕ → ℕ → List (ℕ × ℕ)
move_of s delta values v = move_to (dest_of s (slice_index s.places v) (bucket_of delta values v)) (v, bucket_of delta values v)

-- the moves of some vertices, in order
abbrev pub moves_of : State → ℕ → List ℕ → List ℕ → List (ℕ × ℕ)
moves_of s delta values ids = flat_map (move_of s delta values) ids

-- a vertex of which may be asked where it goes: it has a place, and the bucket of its number isn't behind the front
pub record CanGo (s : State) (delta : ℕ) (values : List ℕ) (v : ℕ) : Type 0 where
  pub in_places : v < length s.places
  pub in_values : v < length values
  pub not_behind : IsNotBehind s.order (bucket_of delta values v) s.front

-- These vertices have the buckets of their numbers as their places, and nothing else has changed. No more vertices than
-- these have a place that had none
pub record HasMoved (delta : ℕ) (values ids : List ℕ) (old new : State) : Type 0 where
  pub state_is : new ≡ record old { places = new.places }
  pub size : length new.places ≡ length old.places
  pub there : (v : ℕ) → v < length old.places → Contains ids v → bucket_of delta values v ≢ NONE → slice_index new.places v ≡ bucket_of delta values v
  pub still : (v : ℕ) → v < length old.places → (Contains ids v → ⊥) → slice_index new.places v ≡ slice_index old.places v
  pub few : placed new.places ≤ placed old.places + length ids
