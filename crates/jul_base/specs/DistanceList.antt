-- The least distances from a list of sources as one term: all edges relaxed until nothing changes.
use Rattle.std.specs.Prelude.{ℕ, zero, suc, ◌+◌, ◌-◌, List, [], ◌∷◌, map, sum, slice_index, slice_set, nat_lt, if◌then◌else◌}
use Rattle.std.specs.List.{flat_map, range_with_len}
use Rattle.jul_base.specs.declared.graphs.RawGraph.{RawGraph}
use Rattle.jul_base.specs.Numbers.{below}
use Rattle.jul_base.specs.Graph.{vertices, row_start, row_end, target, weight}
use Rattle.jul_base.specs.Sources.{first_numbers}

-- a place with its source
pub record Edge : Type 0 where
  pub source : ℕ
  pub place : ℕ

-- place p of u
abbrev pub edge : ℕ → ℕ → Edge
edge u p = record { source = u; place = p }

-- the places of u
abbrev pub edges_of : RawGraph → ℕ → List Edge
edges_of g u = map (edge u) (range_with_len (row_start g u) (row_end g u - row_start g u))

-- the places of all vertices, in file order
abbrev pub all_edges : RawGraph → List Edge
all_edges g = flat_map (edges_of g) (below (vertices g))

-- the number of the source and the weight, together
abbrev pub offered : RawGraph → List ℕ → Edge → ℕ
offered g dist e = slice_index dist e.source + weight g e.place

-- the column where the target has what is offered, if that is less
abbrev pub relaxed : RawGraph → Edge → List ℕ → List ℕ
relaxed g e dist =
    if nat_lt (offered g dist e) (slice_index dist (target g e.place)) then slice_set dist (target g e.place) (offered g dist e) else dist

-- some edges relaxed, one after another
abbrev pub relaxed_all : RawGraph → List Edge → List ℕ → List ℕ
relaxed_all g [] dist = dist
relaxed_all g (e ∷ es) dist = relaxed_all g es (relaxed g e dist)

-- all edges relaxed, so many times
abbrev pub relaxed_times : RawGraph → ℕ → List ℕ → List ℕ
relaxed_times g zero dist = dist
relaxed_times g (suc k) dist = relaxed_times g k (relaxed_all g (all_edges g) dist)

-- the least distance of each vertex: each time that something is relaxed the sum falls, so by then nothing is
unfoldable pub distance_list : RawGraph → List ℕ → List ℕ
distance_list g sources =
    let first = first_numbers (vertices g) sources in relaxed_times g (sum first) first
