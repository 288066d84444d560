-- Least distances from a list of sources.
use Rattle.std.specs.Prelude.{◌≡◌, ◌≢◌, ℕ, ◌+◌, ◌<◌, ◌≤◌, List, Contains, slice_index}
use Rattle.jul_base.specs.declared.graphs.RawGraph.{RawGraph}
use Rattle.jul_base.specs.declared.limits.TheConstants.{NONE}
use Rattle.jul_base.specs.Numbers.{IsLeastOrNone, IsColumn}
use Rattle.jul_base.specs.Graph.{vertices, target, weight, IsPlaceOf}
use Rattle.jul_base.specs.Walks.{IsWalk, walk_sum}

-- x is the sum of weights of a walk from some source to v
pub record IsWalkSum (g : RawGraph) (sources : List ℕ) (v x : ℕ) : Type 0 where
  pub source : ℕ
  pub is_source : Contains sources source
  pub walk : List ℕ
  pub is_walk : IsWalk g source walk v
  pub sum : walk_sum g walk ≡ x

-- the least sum of weights of a walk from a source to v, NONE where there is no walk from any source
abbrev pub IsDistance : RawGraph → List ℕ → ℕ → ℕ → Type 0
IsDistance g sources v = IsLeastOrNone (IsWalkSum g sources v)

-- a column with the distance of each vertex
abbrev pub AreDistances : RawGraph → List ℕ → List ℕ → Type 0
AreDistances g sources = IsColumn (vertices g) (IsDistance g sources)

-- no place of a vertex that has a number lowers the number of its target
abbrev pub IsClosedAt : RawGraph → List ℕ → ℕ → ℕ → Type 0
IsClosedAt g dist u p = slice_index dist u ≢ NONE →
    (slice_index dist (target g p) ≢ NONE) × (slice_index dist (target g p) ≤ slice_index dist u + weight g p)

-- no place lowers the number of its target
abbrev pub IsClosed : RawGraph → List ℕ → Type 0
IsClosed g dist = (u p : ℕ) → IsPlaceOf g u p → IsClosedAt g dist u p

-- each number that stands in the column is the sum of a walk from a source
abbrev pub AreWalkSums : RawGraph → List ℕ → List ℕ → Type 0
AreWalkSums g sources dist = (v : ℕ) → v < vertices g → slice_index dist v ≢ NONE → IsWalkSum g sources v (slice_index dist v)
