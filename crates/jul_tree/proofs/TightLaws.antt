-- Walks over tight places: they are those of least sum, and a column of hops that they close has the least lengths.
use Rattle.std.proofs.Common.{◌≡◌, ◌≢◌, ℕ, ◌+◌, ◌<◌, ◌≤◌, List, [], ◌∷◌, ◌++◌, length, get_or, refl, ap, sym, ◌∙◌, subst, arith, length-append}
use Rattle.std.specs.Prelude.{Contains}
use Rattle.std.specs.List.{All}
use Rattle.std.proofs.lemmas.List.Elements.{All-contains}
use Rattle.jul_base.specs.declared.graphs.RawGraph.{RawGraph}
use Rattle.jul_base.specs.declared.limits.TheConstants.{NONE}
use Rattle.jul_base.specs.Numbers.{IsColumn}
use Rattle.jul_base.specs.Graph.{vertices, target, weight, IsPlaceOf, IsLawful}
use Rattle.jul_base.specs.Walks.{IsWalk, walk_sum}
use Rattle.jul_base.specs.Distances.{IsDistance, AreDistances, IsClosed}
use Rattle.jul_base.specs.DistanceList.{distance_list}
use Rattle.jul_base.specs.Trees.{IsHopCount, IsHops}
use Rattle.jul_base.proofs.GraphLaws.{place_in_range, target_in_range}
use Rattle.jul_base.proofs.WalkLaws.{IsWalk-push, walk_sum-push, walk_sum-cons}
use Rattle.jul_base.proofs.DistanceLaws.{closed_along, IsDistance-unique}
use Rattle.jul_base.proofs.DistanceListLaws.{distance_list-unique, distance_list-closed, distance_list-tentative}
use Rattle.jul_tree.specs.Hooking.{IsTight}

-- tight places of vertices that have hops lead to vertices with at most one more
abbrev pub IsHopClosed : RawGraph → List ℕ → List ℕ → Type 0
IsHopClosed g dist hops = (u p : ℕ) → IsPlaceOf g u p → IsTight g dist u p → get_or hops u 0 ≢ NONE →
    (get_or hops (target g p) 0 ≢ NONE) × (get_or hops (target g p) 0 ≤ get_or hops u 0 + 1)

-- ---- along a walk whose sum is what the distance goes up by, each place is tight, so hops go up by at most one a place

pub hops_along : (g : RawGraph) (dist hops : List ℕ) → IsClosed g dist → IsHopClosed g dist hops → (ps : List ℕ) (u v : ℕ) → IsWalk g u ps v →
    get_or dist u 0 ≢ NONE → get_or dist u 0 + walk_sum g ps ≡ get_or dist v 0 → get_or hops u 0 ≢ NONE →
    (get_or hops v 0 ≢ NONE) × (get_or hops v 0 ≤ get_or hops u 0 + length ps)
hops_along g dist hops closed hop_closed [] u v walk some sum reached =
    subst (λ x. (get_or hops x 0 ≢ NONE) × (get_or hops x 0 ≤ get_or hops u 0 + 0)) walk (reached, omega arith)
hops_along g dist hops closed hop_closed (p ∷ ps) u v (at, rest) some sum reached =
    let w : ℕ = target g p in
    let here : (get_or dist w 0 ≢ NONE) × (get_or dist w 0 ≤ get_or dist u 0 + weight g p) = closed u p at some in
    let far : (get_or dist v 0 ≢ NONE) × (get_or dist v 0 ≤ get_or dist w 0 + walk_sum g ps) = closed_along g dist closed w v ps rest here.0 in
    let cons : walk_sum g (p ∷ ps) ≡ weight g p + walk_sum g ps = walk_sum-cons g p ps in
    let tight : get_or dist u 0 + weight g p ≡ get_or dist w 0 = omega (arith, here.1, far.1, cons, sum) in
    let next : (get_or hops w 0 ≢ NONE) × (get_or hops w 0 ≤ get_or hops u 0 + 1) = hop_closed u p at tight reached in
    let more : (get_or hops v 0 ≢ NONE) × (get_or hops v 0 ≤ get_or hops w 0 + length ps) =
    hops_along g dist hops closed hop_closed ps w v rest here.0 (omega (arith, tight, cons, sum)) next.0 in
    (more.0, omega (arith, next.1, more.1))

-- ---- with the distances of a list of sources

module _ (g : RawGraph) (lawful : IsLawful g) (sources : List ℕ) (sources_in : All (λ s. s < vertices g) sources) (dist : List ℕ) (are : AreDistances g sources dist) where
  dist_is : dist ≡ distance_list g sources
  dist_is = distance_list-unique g lawful sources sources_in dist are

  pub dist_closed : IsClosed g dist
  dist_closed = subst (IsClosed g) (sym dist_is) (distance_list-closed g lawful sources sources_in)

  pub dist_source : (s : ℕ) → Contains sources s → get_or dist s 0 ≡ 0
  dist_source s there = ap (λ l. get_or l s 0) dist_is ∙ (distance_list-tentative g lawful sources sources_in).starts s there

  pub source_in : (s : ℕ) → Contains sources s → s < vertices g
  source_in s there = All-contains (λ s. s < vertices g) sources s sources_in there

  -- a tight place of a vertex that has a distance leads to one that has
  pub tight_some : (u p : ℕ) → IsPlaceOf g u p → get_or dist u 0 ≢ NONE → get_or dist (target g p) 0 ≢ NONE
  tight_some u p at some = (dist_closed u p at some).0

  pub to_in : (u p : ℕ) → IsPlaceOf g u p → target g p < vertices g
  to_in u p at = target_in_range g lawful p (place_in_range g lawful u p at)

  -- what a walk of least sum adds up to is the number of the column
  pub count_sum : (v x : ℕ) (h : IsHopCount g sources v x) → v < vertices g → walk_sum g h.walk ≡ get_or dist v 0
  count_sum v x h lt = IsDistance-unique g sources v (walk_sum g h.walk) (get_or dist v 0) h.least (are.each v lt)

  -- a vertex that has hops has a distance
  pub count_some : (v x : ℕ) → IsHopCount g sources v x → v < vertices g → get_or dist v 0 ≢ NONE
  count_some v x h lt none =
      let sum : walk_sum g h.walk ≡ get_or dist v 0 = count_sum v x h lt in
      (are.each v lt).none none (walk_sum g h.walk) (record { source = h.source; is_source = h.is_source; walk = h.walk; is_walk = h.is_walk; sum = refl })

  -- a source has 0
  pub count_source : (s : ℕ) → Contains sources s → IsHopCount g sources s 0
  count_source s there = record {
    source = s;
    is_source = there;
    walk = [];
    is_walk = refl;
    least = subst (IsDistance g sources s) (dist_source s there) (are.each s (source_in s there));
    count = refl;
  }

  -- and what has 0 is a source
  pub zero_source : (v : ℕ) → IsHopCount g sources v 0 → Contains sources v
  zero_source v h = by_walk h.walk h.is_walk h.count where
    by_walk : (ps : List ℕ) → IsWalk g h.source ps v → length ps ≡ 0 → Contains sources v
    by_walk [] walk none = subst (Contains sources) walk h.is_source
    by_walk (p ∷ ps) walk none = absurd (omega (arith, none))

  -- one more over a tight place
  pub count_more : (u p x : ℕ) → IsPlaceOf g u p → IsTight g dist u p → IsHopCount g sources u x → IsHopCount g sources (target g p) (x + 1)
  count_more u p x at tight h =
      let sum : walk_sum g h.walk ≡ get_or dist u 0 = count_sum u x h at.vertex in
      let push : walk_sum g (h.walk ++ p ∷ []) ≡ walk_sum g h.walk + weight g p = walk_sum-push g p h.walk in
      let is : get_or dist (target g p) 0 ≡ walk_sum g (h.walk ++ p ∷ []) = omega (arith, sum, push, tight) in
      let size : length (h.walk ++ p ∷ []) ≡ length h.walk + 1 = length-append h.walk (p ∷ []) in
      record {
        source = h.source;
        is_source = h.is_source;
        walk = h.walk ++ p ∷ [];
        is_walk = IsWalk-push g h.source u p h.walk h.is_walk at;
        least = subst (IsDistance g sources (target g p)) is (are.each (target g p) (to_in u p at));
        count = omega (arith, size, h.count);
      }

  -- no walk of least sum is shorter than what a closed column says
  pub closed_le : (hops : List ℕ) → ((s : ℕ) → Contains sources s → get_or hops s 0 ≡ 0) → IsHopClosed g dist hops → (v x : ℕ) → v < vertices g → IsHopCount g sources v x →
      (get_or hops v 0 ≢ NONE) × (get_or hops v 0 ≤ x)
  closed_le hops starts closed v x lt h =
      let zero_dist : get_or dist h.source 0 ≡ 0 = dist_source h.source h.is_source in
      let zero_hops : get_or hops h.source 0 ≡ 0 = starts h.source h.is_source in
      let along : (get_or hops v 0 ≢ NONE) × (get_or hops v 0 ≤ get_or hops h.source 0 + length h.walk) =
      hops_along g dist hops dist_closed closed h.walk h.source v h.is_walk (λ none. absurd (omega (arith, none, zero_dist)))
      (omega (arith, zero_dist, count_sum v x h lt)) (λ none. absurd (omega (arith, none, zero_hops))) in
      (along.0, omega (arith, along.1, zero_hops, h.count))

  -- the closing argument for hops
  pub closed_are_hops : (hops : List ℕ) → length hops ≡ vertices g → ((s : ℕ) → Contains sources s → get_or hops s 0 ≡ 0) → IsHopClosed g dist hops →
      ((v : ℕ) → v < vertices g → get_or hops v 0 ≢ NONE → IsHopCount g sources v (get_or hops v 0)) → IsColumn (vertices g) (IsHops g sources) hops
  closed_are_hops hops size starts closed counts = record {
    size = size;
    each = λ v lt. record {
      least = λ some. record { holds = counts v lt some; least = λ y h. (closed_le hops starts closed v y lt h).1 };
      none = λ none y h. (closed_le hops starts closed v y lt h).0 none;
    };
  }
