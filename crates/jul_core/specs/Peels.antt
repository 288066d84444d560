-- What a peeling by buckets keeps from round to round.
use Rattle.jul_count.specs.Counts.{reaching}
use Rattle.std.specs.Prelude.{◌≡◌, ◌≢◌, ℕ, ◌-◌, ◌<◌, max, List, [], length, map, Contains, slice_index, if◌then◌else◌}
use Rattle.std.specs.List.{slice_index_or}
use Rattle.jul_bucket.specs.declared.draws.Draw.{Draw}
use Rattle.jul_bucket.specs.Places.{ids_at}
use Rattle.jul_base.specs.declared.graphs.RawGraph.{RawGraph}
use Rattle.jul_base.specs.declared.limits.TheConstants.{NONE}
use Rattle.jul_base.specs.declared.results.Cores.{Cores}
use Rattle.jul_base.specs.Numbers.{below}
use Rattle.jul_base.specs.Graph.{vertices, row}
use Rattle.jul_base.specs.Sets.{has}
use Rattle.jul_base.specs.Coreness.{inner_degree, IsCoreness}
use Rattle.jul_base.specs.Levels.{Peeling, next_bound, taken, peeling, IsLevel}

-- the bucket of a vertex that is left: the greater of the bound and its inner degree among those left
abbrev pub place_in : RawGraph → Peeling → ℕ → ℕ
place_in g p v = if has p.left v then max p.bound (inner_degree g p.left v) else NONE

-- a column with the bucket of each vertex
pub record ArePlaces (g : RawGraph) (p : Peeling) (places : List ℕ) : Type 0 where
  pub size : length places ≡ vertices g
  pub each : (v : ℕ) → v < vertices g → slice_index places v ≡ place_in g p v

-- the draw of a round: its level, in the bucket of its bound
abbrev pub draw_in : RawGraph → Peeling → Draw
draw_in g p = record { bucket = next_bound g p; ids = taken g p }

-- the draws of the rounds before round t
abbrev pub draws_before : RawGraph → ℕ → List Draw
draws_before g t = map (λ i. draw_in g (peeling g i)) (below t)

-- what is kept before round t
pub record IsPeeled (g : RawGraph) (t : ℕ) (places : List ℕ) (draws : List Draw) : Type 0 where
  pub places_are : ArePlaces g (peeling g t) places
  pub draws_are : draws ≡ draws_before g t

-- a bucket was drawn, and the place of each other vertex lost what reaches it from the drawn ids, down to the bucket
pub record IsLowered (g : RawGraph) (old : List ℕ) (bucket : ℕ) (new : List ℕ) : Type 0 where
  pub size : length new ≡ length old
  pub gone : (v : ℕ) → v < length old → slice_index old v ≡ NONE → slice_index new v ≡ NONE
  pub drawn : (v : ℕ) → v < length old → slice_index old v ≡ bucket → slice_index new v ≡ NONE
  pub left : (v : ℕ) → v < length old → slice_index old v ≢ NONE → slice_index old v ≢ bucket →
      slice_index new v ≡ max bucket (slice_index old v - reaching g (ids_at old bucket) v)

-- each vertex is in the bucket of its degree
pub record AreDegrees (g : RawGraph) (places : List ℕ) : Type 0 where
  pub size : length places ≡ vertices g
  pub each : (v : ℕ) → v < vertices g → slice_index places v ≡ length (row g v)

-- draw number t
abbrev pub draw_at : List Draw → ℕ → Draw
draw_at draws t = slice_index_or draws t (record { bucket = 0; ids = [] })

-- v stands in draw number t and in no other: that is its level, and the bucket is its coreness
pub record IsDrawnAt (g : RawGraph) (draws : List Draw) (v t : ℕ) : Type 0 where
  pub early : t < length draws
  pub held : Contains (draw_at draws t).ids v
  pub once : (u : ℕ) → u < length draws → Contains (draw_at draws u).ids v → u ≡ t
  pub level : IsLevel g v t
  pub core : IsCoreness g v (draw_at draws t).bucket

-- the columns are right for each vertex that some draw holds
pub record AreCoredBy (g : RawGraph) (draws : List Draw) (columns : Cores) : Type 0 where
  pub core_size : length columns.core ≡ vertices g
  pub level_size : length columns.level ≡ vertices g
  pub levels : (v t : ℕ) → v < vertices g → t < length draws → Contains (draw_at draws t).ids v → slice_index columns.level v ≡ t
  pub cores : (v t : ℕ) → v < vertices g → t < length draws → Contains (draw_at draws t).ids v → slice_index columns.core v ≡ (draw_at draws t).bucket

-- a number was written at each of the listed ids, and nothing else was changed
pub record AreWritten (ids : List ℕ) (x : ℕ) (old new : List ℕ) : Type 0 where
  pub size : length new ≡ length old
  pub at : (v : ℕ) → v < length old → Contains ids v → slice_index new v ≡ x
  pub other : (v : ℕ) → v < length old → (Contains ids v → ⊥) → slice_index new v ≡ slice_index old v

-- each vertex has its level and its coreness
pub record AreCores (g : RawGraph) (columns : Cores) : Type 0 where
  pub core_size : length columns.core ≡ vertices g
  pub level_size : length columns.level ≡ vertices g
  pub levels : (v : ℕ) → v < vertices g → IsLevel g v (slice_index columns.level v)
  pub cores : (v : ℕ) → v < vertices g → IsCoreness g v (slice_index columns.core v)
