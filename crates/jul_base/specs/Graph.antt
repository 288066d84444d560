-- A graph: its vertices, its places in file order, and the row of each vertex.
use Rattle.std.specs.Prelude.{◌≡◌, ℕ, ◌+◌, ◌<◌, ◌≤◌, List, length, slice_index, slice_range, All, if◌then◌else◌, nat_lt, ◌==◌, count_by}
use Rattle.jul_base.specs.declared.graphs.RawGraph.{RawGraph}
use Rattle.jul_base.specs.declared.limits.TheConstants.{MAX_N, MAX_M, MAX_W}

-- how many vertices and how many places there are
abbrev pub vertices : RawGraph → ℕ
vertices g = length g.offsets

abbrev pub places : RawGraph → ℕ
places g = length g.targets

-- the places of v are those from its offset to that of the next vertex, or to the last place
abbrev pub row_start : RawGraph → ℕ → ℕ
row_start g v = slice_index g.offsets v

abbrev pub row_end : RawGraph → ℕ → ℕ
row_end g v = if nat_lt (v + 1) (vertices g) then slice_index g.offsets (v + 1) else places g

abbrev pub target : RawGraph → ℕ → ℕ
target g p = slice_index g.targets p

-- each weight is 1 where the file has none
abbrev pub weight : RawGraph → ℕ → ℕ
weight g p = if g.weighted then slice_index g.weights p else 1

-- v is the source of place p
pub record IsPlaceOf (g : RawGraph) (v p : ℕ) : Type 0 where
  pub vertex : v < vertices g
  pub from : row_start g v ≤ p
  pub to : p < row_end g v

-- the targets of the places of v, in file order
abbrev pub row : RawGraph → ℕ → List ℕ
row g v = slice_range g.targets (row_start g v) (row_end g v)

-- how often w stands in the row of u
abbrev pub count : RawGraph → ℕ → ℕ → ℕ
count g u w = count_by (λ x. x == w) (row g u)

-- what a graph of a file keeps
pub record IsLawful (g : RawGraph) : Type 0 where
  pub few_vertices : vertices g ≤ MAX_N
  pub few_places : places g ≤ MAX_M
  pub first : slice_index g.offsets 0 ≡ 0
  pub rising : (v : ℕ) → v + 1 < vertices g → slice_index g.offsets v ≤ slice_index g.offsets (v + 1)
  pub within : All (λ o. o ≤ places g) g.offsets
  pub targets : All (λ w. w < vertices g) g.targets
  pub weights : length g.weights ≡ (if g.weighted then places g else 0)
  pub light : All (λ w. w ≤ MAX_W) g.weights
  pub empty : vertices g ≡ 0 → places g ≡ 0

-- the lists of a graph are as long as they may be, and fit together
pub record FitsSizes (g : RawGraph) : Type 0 where
  pub few_vertices : vertices g ≤ MAX_N
  pub few_places : places g ≤ MAX_M
  pub weights : length g.weights ≡ (if g.weighted then places g else 0)
  pub empty : vertices g ≡ 0 → places g ≡ 0
