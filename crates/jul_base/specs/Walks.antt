-- Walks along places.
use Rattle.std.specs.Prelude.{◌≡◌, ℕ, List, [], ◌∷◌}
use Rattle.std.specs.List.{sum_by}
use Rattle.jul_base.specs.declared.graphs.RawGraph.{RawGraph}
use Rattle.jul_base.specs.Graph.{target, weight, IsPlaceOf}

-- a walk from u to v: its first place begins at u, each other where the one before ends, and the last ends at v
abbrev pub IsWalk : RawGraph → ℕ → List ℕ → ℕ → Type 0
IsWalk g u [] v = u ≡ v
IsWalk g u (p ∷ ps) v = IsPlaceOf g u p × IsWalk g (target g p) ps v

abbrev pub walk_sum : RawGraph → List ℕ → ℕ
walk_sum g ps = sum_by (weight g) ps
