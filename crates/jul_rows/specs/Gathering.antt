-- Sets that are gathered row by row, and marks for the elements of sets.
use Rattle.std.specs.Prelude.{◌≡◌, ◌↔◌, ℕ, ◌+◌, ◌<◌, ◌≤◌, List, length, slice_index}
use Rattle.std.specs.Prelude.{Bool, false, IsTrue}
use Rattle.std.specs.List.{slice_index_or}
use Rattle.jul_base.specs.declared.graphs.RawGraph.{RawGraph}
use Rattle.jul_base.specs.Graph.{vertices, places, row_start}
use Rattle.jul_base.specs.Sets.{set_of, IsElementOf}
use Rattle.jul_rows.specs.declared.distinct.Gathering.{Gathering}
use Rattle.jul_rows.specs.Cuts.{part, IsCut}

-- the first s sets of g, one after another
pub record IsGathered (g : RawGraph) (s : ℕ) (bounds items : List ℕ) : Type 0 where
  pub size : length bounds ≡ s + 1
  pub first : slice_index bounds 0 ≡ 0
  pub last : slice_index bounds s ≡ length items
  pub cut : IsCut bounds (length items)
  pub each : (r : ℕ) → r < s → part bounds items r ≡ set_of g r
  pub room : length items ≤ places g
  pub room_before : s < vertices g → length items ≤ row_start g s

abbrev pub HasGathered : RawGraph → ℕ → Gathering → Type 0
HasGathered g s gathering = IsGathered g s gathering.bounds.items gathering.items.items

-- a mark for each vertex, set exactly where the vertex stands in a set
pub record AreMarks (sets : List (List ℕ)) (marks : List Bool) : Type 0 where
  pub size : length marks ≡ length sets
  pub each : (v : ℕ) → v < length marks →
      (IsTrue (slice_index_or marks v false) ↔ IsElementOf sets v)
