-- Walks, one after another.
use Rattle.std.proofs.Common.{◌≡◌, ℕ, ◌+◌, List, [], ◌∷◌, ◌++◌, sym, subst, refl}
use Rattle.std.proofs.lemmas.List.Sums.{sum_by-cons, sum_by_push}
use Rattle.jul_base.specs.declared.graphs.RawGraph.{RawGraph}
use Rattle.jul_base.specs.Graph.{target, weight, IsPlaceOf}
use Rattle.jul_base.specs.Walks.{IsWalk, walk_sum}

pub IsWalk-append : (g : RawGraph) (u v w : ℕ) (ps qs : List ℕ) → IsWalk g u ps v → IsWalk g v qs w → IsWalk g u (ps ++ qs) w
IsWalk-append g u v w [] qs a b = subst (λ x. IsWalk g x qs w) (sym a) b
IsWalk-append g u v w (p ∷ ps) qs a b = (a.0, IsWalk-append g (target g p) v w ps qs a.1 b)

-- a walk goes on by one place
pub IsWalk-push : (g : RawGraph) (u v p : ℕ) (ps : List ℕ) → IsWalk g u ps v → IsPlaceOf g v p → IsWalk g u (ps ++ p ∷ []) (target g p)
IsWalk-push g u v p ps a b = IsWalk-append g u v (target g p) ps (p ∷ []) a (b, refl)

pub walk_sum-cons : (g : RawGraph) (p : ℕ) (ps : List ℕ) → walk_sum g (p ∷ ps) ≡ weight g p + walk_sum g ps
walk_sum-cons g p ps = sum_by-cons (weight g) p ps

pub walk_sum-push : (g : RawGraph) (p : ℕ) (ps : List ℕ) → walk_sum g (ps ++ p ∷ []) ≡ walk_sum g ps + weight g p
walk_sum-push g p ps = sum_by_push (weight g) ps p
