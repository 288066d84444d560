-- What determines distances: no place lowers any, and each is the sum of a walk.
use Rattle.std.proofs.Common.{◌≡◌, ◌≢◌, ℕ, ◌+◌, ◌≤◌, List, [], ◌∷◌, ◌++◌, length, get_or, ◌∙◌, subst, ap, arith}
use Rattle.std.specs.List.{Contains}
use Rattle.jul_base.specs.declared.graphs.RawGraph.{RawGraph}
use Rattle.jul_base.specs.declared.limits.TheConstants.{NONE}
use Rattle.jul_base.specs.Graph.{vertices, target, weight, IsPlaceOf}
use Rattle.jul_base.specs.Walks.{IsWalk, walk_sum}
use Rattle.jul_base.specs.Distances.{IsWalkSum, IsDistance, AreDistances, IsClosed, AreWalkSums}
use Rattle.jul_base.proofs.NumberLaws.{IsLeastOrNone-unique, IsColumn-unique}
use Rattle.jul_base.proofs.WalkLaws.{IsWalk-push, walk_sum-cons, walk_sum-push}

pub IsDistance-unique : (g : RawGraph) (sources : List ℕ) (v x y : ℕ) → IsDistance g sources v x → IsDistance g sources v y → x ≡ y
IsDistance-unique g sources v x y a b = IsLeastOrNone-unique (IsWalkSum g sources v) x y a b

pub AreDistances-unique : (g : RawGraph) (sources xs ys : List ℕ) → AreDistances g sources xs → AreDistances g sources ys → xs ≡ ys
AreDistances-unique g sources xs ys a b =
    IsColumn-unique (vertices g) (IsDistance g sources) (λ v x y p q. IsDistance-unique g sources v x y p q) xs ys a b

-- a walk from a source to u and a place of u make a walk from that source to its target
pub IsWalkSum-push : (g : RawGraph) (sources : List ℕ) (u p x : ℕ) → IsPlaceOf g u p → IsWalkSum g sources u x → IsWalkSum g sources (target g p) (x + weight g p)
IsWalkSum-push g sources u p x at h = record {
  source = h.source;
  is_source = h.is_source;
  walk = h.walk ++ p ∷ [];
  is_walk = IsWalk-push g h.source u p h.walk h.is_walk at;
  sum = walk_sum-push g p h.walk ∙ ap (λ s. s + weight g p) h.sum;
}

-- along a walk no number rises by more than the walk's sum
pub closed_along : (g : RawGraph) (dist : List ℕ) → IsClosed g dist → (u v : ℕ) (ps : List ℕ) → IsWalk g u ps v → get_or dist u 0 ≢ NONE →
    (get_or dist v 0 ≢ NONE) × (get_or dist v 0 ≤ get_or dist u 0 + walk_sum g ps)
closed_along g dist closed u v [] walk some =
    subst (λ x. (get_or dist x 0 ≢ NONE) × (get_or dist x 0 ≤ get_or dist u 0 + 0)) walk (some, omega arith)
closed_along g dist closed u v (p ∷ ps) walk some =
    let here : (get_or dist (target g p) 0 ≢ NONE) × (get_or dist (target g p) 0 ≤ get_or dist u 0 + weight g p) = closed u p walk.0 some in
    let rest : (get_or dist v 0 ≢ NONE) × (get_or dist v 0 ≤ get_or dist (target g p) 0 + walk_sum g ps) = closed_along g dist closed (target g p) v ps walk.1 here.0 in
    (rest.0, omega (arith, walk_sum-cons g p ps, here.1, rest.1))

-- the closing argument
pub closed_are_distances : (g : RawGraph) (sources dist : List ℕ) → length dist ≡ vertices g → ((s : ℕ) → Contains sources s → get_or dist s 0 ≡ 0) →
    IsClosed g dist → AreWalkSums g sources dist → AreDistances g sources dist
closed_are_distances g sources dist size starts closed sums = record {
  size = size;
  each = λ v in_range.
      let below_walk : (y : ℕ) → IsWalkSum g sources v y → (get_or dist v 0 ≢ NONE) × (get_or dist v 0 ≤ y) = λ y h.
      let start : get_or dist h.source 0 ≡ 0 = starts h.source h.is_source in
      let start_some : get_or dist h.source 0 ≢ NONE = λ e. absurd (omega (arith, start, e)) in
      let along : (get_or dist v 0 ≢ NONE) × (get_or dist v 0 ≤ get_or dist h.source 0 + walk_sum g h.walk) = closed_along g dist closed h.source v h.walk h.is_walk start_some in
      (along.0, omega (arith, along.1, start, h.sum)) in
      record {
        least = λ some. record { holds = sums v in_range some; least = λ y h. (below_walk y h).1 };
        none = λ none y h. (below_walk y h).0 none;
      };
}
