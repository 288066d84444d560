-- How many places lead from some vertices to each target.
use Rattle.std.specs.Prelude.{◌≡◌, ◌≢◌, ℕ, ◌<◌, List, map, All, Contains}
use Rattle.std.specs.List.{sum_by, AllPairs}
use Rattle.std.specs.List.Sorted.{IsStrictlyIncreasing}
use Rattle.jul_base.specs.declared.graphs.RawGraph.{RawGraph}
use Rattle.jul_base.specs.Graph.{vertices, count}

-- how many places lead from the listed vertices to v
abbrev pub reaching : RawGraph → List ℕ → ℕ → ℕ
reaching g ids v = sum_by (λ u. count g u v) ids

-- the vertices of a list of counts
abbrev pub counted : List (ℕ × ℕ) → List ℕ
counted counts = map (λ (e : ℕ × ℕ). e.0) counts

-- no number stands twice in a list
abbrev pub AreApart : List ℕ → Type 0
AreApart ids = AllPairs (λ a b. a ≢ b) ids

-- each vertex that the listed ones lead to and no other, with how many places lead to it
pub record CountEach (g : RawGraph) (ids : List ℕ) (counts : List (ℕ × ℕ)) : Type 0 where
  pub within : All (λ (e : ℕ × ℕ). e.0 < vertices g) counts
  pub some : All (λ (e : ℕ × ℕ). 0 < e.1) counts
  pub exact : All (λ (e : ℕ × ℕ). e.1 ≡ reaching g ids e.0) counts
  pub all : (v : ℕ) → v < vertices g → 0 < reaching g ids v → Contains (counted counts) v

-- the same, each vertex once and in increasing order
pub record AreCounts (g : RawGraph) (ids : List ℕ) (counts : List (ℕ × ℕ)) : Type 0 where
  pub rises : IsStrictlyIncreasing (counted counts)
  pub each : CountEach g ids counts

-- the same, each vertex once and in any order
pub record AreNotedCounts (g : RawGraph) (ids : List ℕ) (counts : List (ℕ × ℕ)) : Type 0 where
  pub apart : AreApart (counted counts)
  pub each : CountEach g ids counts
