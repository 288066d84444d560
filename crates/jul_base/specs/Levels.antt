-- Peeling in rounds: the level of a vertex is the round in which it is taken away.
use Rattle.std.specs.Prelude.{ℕ, zero, suc, List, [], ◌∷◌, min, max, map, Contains, nat_le, nat_lt}
use Rattle.std.specs.List.{fold, filter}
use Rattle.jul_base.specs.declared.graphs.RawGraph.{RawGraph}
use Rattle.jul_base.specs.Numbers.{below}
use Rattle.jul_base.specs.Graph.{vertices}
use Rattle.jul_base.specs.Coreness.{inner_degree}

-- the least number of a list, 0 where it is empty
abbrev pub least_of : List ℕ → ℕ
least_of [] = 0
least_of (x ∷ xs) = fold min x xs

-- the vertices that are left, and the bound of the rounds so far
pub record Peeling : Type 0 where
  pub left : List ℕ
  pub bound : ℕ

-- the greater of the bound so far and the least inner degree among the vertices left
abbrev pub next_bound : RawGraph → Peeling → ℕ
next_bound g p = max p.bound (least_of (map (inner_degree g p.left) p.left))

-- the vertices left of an inner degree up to the next bound
abbrev pub taken : RawGraph → Peeling → List ℕ
taken g p = filter (λ u. nat_le (inner_degree g p.left u) (next_bound g p)) p.left

abbrev pub after_round : RawGraph → Peeling → Peeling
after_round g p = record { left = filter (λ u. nat_lt (next_bound g p) (inner_degree g p.left u)) p.left; bound = next_bound g p }

-- before round t
abbrev pub peeling : RawGraph → ℕ → Peeling
peeling g zero = record { left = below (vertices g); bound = 0 }
peeling g (suc t) = after_round g (peeling g t)

abbrev pub IsLevel : RawGraph → ℕ → ℕ → Type 0
IsLevel g v t = Contains (taken g (peeling g t)) v
