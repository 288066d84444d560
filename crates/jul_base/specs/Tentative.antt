-- Tentative distances: what a column keeps while places are relaxed.
use Rattle.std.specs.Prelude.{◌≡◌, ◌≢◌, ℕ, ◌+◌, ◌*◌, ◌<◌, ◌≤◌, not, List, Contains, length, slice_index, count_by, ◌==◌}
use Rattle.jul_base.specs.declared.graphs.RawGraph.{RawGraph}
use Rattle.jul_base.specs.declared.limits.TheConstants.{NONE, MAX_W}
use Rattle.jul_base.specs.Graph.{vertices}
use Rattle.jul_base.specs.Distances.{AreWalkSums}

-- how many numbers stand in the column
abbrev pub reached : List ℕ → ℕ
reached dist = count_by (λ d. not (d == NONE)) dist

-- no number is large: each vertex but the first was reached by one place from another that was reached
pub record IsBounded (g : RawGraph) (dist : List ℕ) : Type 0 where
  pub size : length dist ≡ vertices g
  pub bound : (v : ℕ) → v < vertices g → slice_index dist v ≢ NONE → slice_index dist v + MAX_W ≤ reached dist * MAX_W

-- no number is large, the sources have 0, and each number is the sum of a walk from a source
pub record IsTentative (g : RawGraph) (sources dist : List ℕ) : Type 0 where
  pub bounded : IsBounded g dist
  pub starts : (s : ℕ) → Contains sources s → slice_index dist s ≡ 0
  pub sums : AreWalkSums g sources dist
