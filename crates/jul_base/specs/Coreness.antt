-- The coreness of a vertex, counting places.
use Rattle.std.specs.Prelude.{ℕ, ◌<◌, ◌≤◌, List, All, Contains, count_by, ◌==◌}
use Rattle.std.specs.List.{list_any}
use Rattle.jul_base.specs.declared.graphs.RawGraph.{RawGraph}
use Rattle.jul_base.specs.Numbers.{IsGreatest}
use Rattle.jul_base.specs.Graph.{vertices, row}

-- how many places of u lead to a vertex of the list
abbrev pub inner_degree : RawGraph → List ℕ → ℕ → ℕ
inner_degree g s u = count_by (λ w. list_any (λ x. x == w) s) (row g u)

-- a list of vertices whose members each have at least k places that lead into it
pub record IsCore (g : RawGraph) (k : ℕ) (s : List ℕ) : Type 0 where
  pub vertices : All (λ u. u < vertices g) s
  pub degrees : All (λ u. k ≤ inner_degree g s u) s

-- the greatest k for which v stands in such a list
abbrev pub IsCoreness : RawGraph → ℕ → ℕ → Type 0
IsCoreness g v = IsGreatest (λ k. (s : List ℕ) × IsCore g k s × Contains s v)
