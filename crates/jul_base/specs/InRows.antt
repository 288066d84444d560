-- In-rows: for each vertex the places that lead to it, and their sources.
use Rattle.std.specs.Prelude.{◌≡◌, ℕ, ◌<◌, List, [], length, slice_index, ◌==◌}
use Rattle.std.specs.List.{filter, slice_index_or}
use Rattle.jul_base.specs.declared.graphs.RawGraph.{RawGraph}
use Rattle.jul_base.specs.Numbers.{below}
use Rattle.jul_base.specs.Graph.{vertices, places, target, IsPlaceOf}

-- the places that lead to v, in increasing order
abbrev pub in_places : RawGraph → ℕ → List ℕ
in_places g v = filter (λ p. target g p == v) (below (places g))

-- us are the sources of the places ps, one for one
pub record AreSources (g : RawGraph) (us ps : List ℕ) : Type 0 where
  pub size : length us ≡ length ps
  pub each : (k : ℕ) → k < length ps → IsPlaceOf g (slice_index us k) (slice_index ps k)

-- for each vertex a list of places and the list of their sources
pub record InEdges : Type 0 where
  pub places : List (List ℕ)
  pub sources : List (List ℕ)

-- each vertex has exactly the places that lead to it, in increasing order, and their sources
pub record IsFlip (g : RawGraph) (edges : InEdges) : Type 0 where
  pub size : length edges.places ≡ vertices g
  pub as_many : length edges.sources ≡ vertices g
  pub places : (v : ℕ) → v < vertices g → slice_index_or edges.places v [] ≡ in_places g v
  pub sources : (v : ℕ) → v < vertices g →
      AreSources g (slice_index_or edges.sources v []) (in_places g v)
