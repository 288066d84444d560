-- The closing argument of a search whose numbers never fall below the distances.
use Rattle.std.proofs.Common.{◌≡◌, ℕ, ◌+◌, ◌*◌, ◌<◌, ◌≤◌, List, [], ◌∷◌, length, get_or, sym, ◌∙◌, ap, arith, inl, inr}
use Rattle.std.specs.List.{All, Contains}
use Rattle.std.proofs.lemmas.Bool.{cases_eq}
use Rattle.std.proofs.lemmas.List.{ext_get_or}
use Rattle.jul_base.specs.declared.graphs.RawGraph.{RawGraph}
use Rattle.jul_base.specs.declared.limits.TheConstants.{NONE, MAX_W, MAX_N}
use Rattle.jul_base.specs.Graph.{vertices, target, weight, IsPlaceOf, IsLawful}
use Rattle.jul_base.specs.Walks.{IsWalk, walk_sum}
use Rattle.jul_base.specs.Distances.{IsWalkSum, AreDistances}
use Rattle.jul_base.specs.Sources.{first_numbers}
use Rattle.jul_base.specs.DistanceList.{distance_list}
use Rattle.jul_base.proofs.WalkLaws.{walk_sum-cons}
use Rattle.jul_base.proofs.SourceLaws.{first_some}
use Rattle.jul_base.proofs.DistanceListLaws.{distance_list-tentative, distance_list-is, distance_list-small, distance_list-le}

-- no number that a search starts from is below the distance
pub first_floors : (g : RawGraph) → IsLawful g → (sources : List ℕ) → All (λ s. s < vertices g) sources → (v : ℕ) → v < vertices g →
    get_or (distance_list g sources) v 0 ≤ get_or (first_numbers (vertices g) sources) v 0
first_floors g lawful sources within v lt =
    elim (cases_eq (get_or (first_numbers (vertices g) sources) v 0) NONE) [
      | inl e ↦ omega (arith, e, distance_list-le g lawful sources within v lt)
      | inr some ↦ omega (arith, (distance_list-tentative g lawful sources within).starts v (first_some (vertices g) sources v lt some).0)
    ]

-- a column that no place within a bound lowers rises along no walk within it by more than the walk's sum
capped_along : (g : RawGraph) (cap : ℕ) (dist : List ℕ) →
    ((u p : ℕ) → IsPlaceOf g u p → get_or dist u 0 + weight g p ≤ cap → get_or dist (target g p) 0 ≤ get_or dist u 0 + weight g p) →
    (ps : List ℕ) (u v : ℕ) → IsWalk g u ps v → get_or dist u 0 + walk_sum g ps ≤ cap → get_or dist v 0 ≤ get_or dist u 0 + walk_sum g ps
capped_along g cap dist closed [] u v walk within = omega (arith, ap (λ k. get_or dist k 0) walk)
capped_along g cap dist closed (p ∷ ps) u v (at, rest) within =
    let w : ℕ = target g p in
    let cons : walk_sum g (p ∷ ps) ≡ weight g p + walk_sum g ps = walk_sum-cons g p ps in
    let here : get_or dist w 0 ≤ get_or dist u 0 + weight g p = closed u p at (omega (arith, within, cons)) in
    omega (arith, here, cons, capped_along g cap dist closed ps w v rest (omega (arith, here, within, cons)))

-- The closing argument of an engine: such a column is the list of distances, where the sources have 0 and no number is
-- below the distance
pub capped_are_distances : (g : RawGraph) → IsLawful g → (sources : List ℕ) → All (λ s. s < vertices g) sources → (dist : List ℕ) → length dist ≡ vertices g →
    ((s : ℕ) → Contains sources s → get_or dist s 0 ≡ 0) →
    ((v : ℕ) → v < vertices g → (get_or (distance_list g sources) v 0 ≤ get_or dist v 0) × (get_or dist v 0 ≤ NONE)) →
    ((u p : ℕ) → IsPlaceOf g u p → get_or dist u 0 + weight g p ≤ MAX_N * MAX_W → get_or dist (target g p) 0 ≤ get_or dist u 0 + weight g p) →
    dist ≡ distance_list g sources
capped_are_distances g lawful sources within dist size starts floors closed =
    let true_list : List ℕ = distance_list g sources in
    let are : AreDistances g sources true_list = distance_list-is g lawful sources within in
    ext_get_or 0 dist true_list (size ∙ sym are.size) (λ v h.
    let lt : v < vertices g = omega (arith, h, size) in
    elim (cases_eq (get_or true_list v 0) NONE) [
      | inl none ↦ omega (arith, none, (floors v lt).0, (floors v lt).1)
      | inr some ↦
          let w : IsWalkSum g sources v (get_or true_list v 0) = ((are.each v lt).least some).holds in
          let zero_here : get_or dist w.source 0 ≡ 0 = starts w.source w.is_source in
          let few : get_or true_list v 0 ≤ MAX_N * MAX_W = distance_list-small g lawful sources within v lt some in
          let along : get_or dist v 0 ≤ get_or dist w.source 0 + walk_sum g w.walk =
          capped_along g (MAX_N * MAX_W) dist closed w.walk w.source v w.is_walk (omega (arith, zero_here, w.sum, few)) in
          omega (arith, along, zero_here, w.sum, (floors v lt).0)
    ])
