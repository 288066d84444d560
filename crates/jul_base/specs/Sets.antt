-- Sets: the distinct targets of each row.
use Rattle.std.specs.Prelude.{ℕ, ◌<◌, Bool, List, [], length, map, All, Contains, ◌==◌}
use Rattle.std.specs.List.{filter, list_any, slice_index_or}
use Rattle.std.specs.List.Sorted.{IsStrictlyIncreasing}
use Rattle.jul_base.specs.declared.graphs.RawGraph.{RawGraph}
use Rattle.jul_base.specs.Numbers.{below}
use Rattle.jul_base.specs.Graph.{vertices, row}

-- whether x stands in the list
abbrev pub has : List ℕ → ℕ → Bool
has xs x = list_any (λ y. y == x) xs

-- set s: the distinct targets of the row of s, in increasing order
abbrev pub set_of : RawGraph → ℕ → List ℕ
set_of g s = filter (has (row g s)) (below (vertices g))

-- the set of each vertex
abbrev pub sets_of : RawGraph → List (List ℕ)
sets_of g = map (set_of g) (below (vertices g))

-- a set for each of so many vertices: increasing lists of such vertices
pub record AreSets (sets : List (List ℕ)) : Type 0 where
  pub increasing : (s : ℕ) → s < length sets → IsStrictlyIncreasing (slice_index_or sets s [])
  pub within : (s : ℕ) → s < length sets → All (λ e. e < length sets) (slice_index_or sets s [])

-- e stands in one of the sets
abbrev pub IsElementOf : List (List ℕ) → ℕ → Type 0
IsElementOf sets e = (s : ℕ) × (s < length sets) × Contains (slice_index_or sets s []) e

-- e is an element: it stands in some set of the graph
abbrev pub IsElement : RawGraph → ℕ → Type 0
IsElement g e = (s : ℕ) × (s < vertices g) × Contains (set_of g s) e
