-- Least distances with their hops and parents fail no reason.
use Rattle.std.proofs.Common.{◌≡◌, ◌≢◌, ℕ, ◌+◌, ◌<◌, ◌≤◌, Bool, true, false, not, ◌&&◌, eqb, ltb, List, [], ◌∷◌, ◌++◌, length, get_or, sym, ◌∙◌, subst, refl, ap, arith, inl, inr, length-append}
use Rattle.std.specs.List.{All, Contains, list_any}
use Rattle.std.proofs.lemmas.Bool.{cases_eq, cases_Bool, both_ways, lt-ltb, le-ltb, eq-eqb, and_from, and_left, and_right}
use Rattle.jul_base.specs.declared.graphs.RawGraph.{RawGraph}
use Rattle.jul_base.specs.declared.limits.TheConstants.{NONE}
use Rattle.jul_base.specs.declared.results.Distances.{Distances}
use Rattle.jul_base.specs.Graph.{vertices, target, weight, IsPlaceOf, IsLawful}
use Rattle.jul_base.specs.Walks.{IsWalk, walk_sum}
use Rattle.jul_base.specs.Sets.{has}
use Rattle.jul_base.specs.Distances.{IsWalkSum, IsDistance}
use Rattle.jul_base.specs.Trees.{IsHopCount, IsLastStep, AreTree}
use Rattle.jul_base.proofs.GraphLaws.{place_in_range, target_in_range}
use Rattle.jul_base.proofs.WalkLaws.{IsWalk-push, walk_sum-push}
use Rattle.jul_base.proofs.SetLaws.{Contains-from_has, has-from_Contains}
use Rattle.jul_base.proofs.DistanceLaws.{IsDistance-unique, IsWalkSum-push}
use Rattle.jul_check.specs.declared.verdicts.Reason.{Reason}
use Rattle.jul_check.specs.declared.verdicts.Reason.TheVariants as reasons
use Rattle.jul_check.specs.declared.verdicts.Verdict.TheVariants.{Yes}
use Rattle.jul_check.specs.Verdicts.{is_none}
use Rattle.jul_check.specs.DistanceChecks.{distance_reasons, fails_distances, distances_verdict, places_of, is_lowered, is_lowerable, is_tight, is_parent, has_parent}
use Rattle.jul_check.proofs.VerdictLaws.{all_yes, find_past}
use Rattle.jul_check.proofs.PlaceLaws.{passes_at, passes_nowhere}
use Rattle.jul_check.proofs.DistanceCheckLaws.{is_some_number}
use Rattle.jul_check.proofs.LoweringLaws.{is_lowered-not}

-- ---- walks by their last place

record EndsWith (g : RawGraph) (u v : ℕ) (ps : List ℕ) : Type 0 where
  front : List ℕ
  before : ℕ
  last : ℕ
  walk : IsWalk g u front before
  at : IsPlaceOf g before last
  to : target g last ≡ v
  is : ps ≡ front ++ last ∷ []

ends_with : (g : RawGraph) (u v p : ℕ) (ps : List ℕ) → IsWalk g u (p ∷ ps) v → EndsWith g u v (p ∷ ps)
ends_with g u v p [] walk = record { front = []; before = u; last = p; walk = refl; at = walk.0; to = walk.1; is = refl }
ends_with g u v p (q ∷ ps) walk =
    let e : EndsWith g (target g p) v (q ∷ ps) = ends_with g (target g p) v q ps walk.1 in
    record { front = p ∷ e.front; before = e.before; last = e.last; walk = (walk.0, e.walk); at = e.at; to = e.to; is = ap (λ l. p ∷ l) e.is }

-- ---- what the columns say of walks

record IsTree (g : RawGraph) (sources : List ℕ) (d : Distances) : Type 0 where
  lawful : IsLawful g
  within : All (λ s. s < vertices g) sources
  tree : AreTree g sources d.dist d.hops d.parent

-- a walk from a source bounds the number of its last vertex
along : (g : RawGraph) (sources : List ℕ) (d : Distances) → IsTree g sources d → (v x : ℕ) → v < vertices g → IsWalkSum g sources v x →
    (get_or d.dist v 0 ≢ NONE) × (get_or d.dist v 0 ≤ x)
along g sources d t v x lt h =
    let some : get_or d.dist v 0 ≢ NONE = λ e. (t.tree.distances.each v lt).none e x h in
    (some, ((t.tree.distances.each v lt).least some).least x h)

-- a walk of the least sum bounds its hops
hops_along : (g : RawGraph) (sources : List ℕ) (d : Distances) → IsTree g sources d → (s v : ℕ) (ps : List ℕ) → v < vertices g → Contains sources s → IsWalk g s ps v →
    walk_sum g ps ≡ get_or d.dist v 0 → (get_or d.hops v 0 ≢ NONE) × (get_or d.hops v 0 ≤ length ps)
hops_along g sources d t s v ps lt is_source walk is =
    let P : ℕ → Type 0 = IsDistance g sources v in
    let count : IsHopCount g sources v (length ps) = record { source = s; is_source = is_source; walk = ps; is_walk = walk; least = subst P (sym is) (t.tree.distances.each v lt); count = refl } in
    let some : get_or d.hops v 0 ≢ NONE = λ e. (t.tree.hop_counts.each v lt).none e (length ps) count in
    (some, ((t.tree.hop_counts.each v lt).least some).least (length ps) count)

-- a walk of the distance and of the hops
record BestWalk (g : RawGraph) (sources : List ℕ) (d : Distances) (v : ℕ) : Type 0 where
  source : ℕ
  is_source : Contains sources source
  places : List ℕ
  walk : IsWalk g source places v
  sum : walk_sum g places ≡ get_or d.dist v 0
  hops : length places ≡ get_or d.hops v 0

best_walk : (g : RawGraph) (sources : List ℕ) (d : Distances) → IsTree g sources d → (v : ℕ) → v < vertices g → get_or d.hops v 0 ≢ NONE → BestWalk g sources d v
best_walk g sources d t v lt some =
    let h : IsHopCount g sources v (get_or d.hops v 0) = ((t.tree.hop_counts.each v lt).least some).holds in
    record {
      source = h.source;
      is_source = h.is_source;
      places = h.walk;
      walk = h.is_walk;
      sum = IsDistance-unique g sources v (walk_sum g h.walk) (get_or d.dist v 0) h.least (t.tree.distances.each v lt);
      hops = h.count;
    }

-- a vertex that is reached has hops
hops_some : (g : RawGraph) (sources : List ℕ) (d : Distances) → IsTree g sources d → (v : ℕ) → v < vertices g → get_or d.dist v 0 ≢ NONE → get_or d.hops v 0 ≢ NONE
hops_some g sources d t v lt some =
    let h : IsWalkSum g sources v (get_or d.dist v 0) = ((t.tree.distances.each v lt).least some).holds in
    (hops_along g sources d t h.source v h.walk lt h.is_source h.is_walk h.sum).0

-- a place of a vertex that is reached bounds the number of its target
step : (g : RawGraph) (sources : List ℕ) (d : Distances) → IsTree g sources d → (u p : ℕ) → IsPlaceOf g u p → get_or d.dist u 0 ≢ NONE →
    (get_or d.dist (target g p) 0 ≢ NONE) × (get_or d.dist (target g p) 0 ≤ get_or d.dist u 0 + weight g p)
step g sources d t u p at some =
    let h : IsWalkSum g sources u (get_or d.dist u 0) = ((t.tree.distances.each u at.vertex).least some).holds in
    let lt : target g p < vertices g = target_in_range g t.lawful p (place_in_range g t.lawful u p at) in
    along g sources d t (target g p) (get_or d.dist u 0 + weight g p) lt (IsWalkSum-push g sources u p (get_or d.dist u 0) at h)

-- ---- the last place of a best walk

last_step : (g : RawGraph) (sources : List ℕ) (d : Distances) → IsTree g sources d → (v : ℕ) → v < vertices g → (best : BestWalk g sources d v) → EndsWith g best.source v best.places →
    (u : ℕ) × (p : ℕ) × IsLastStep g d.dist d.hops v u p
last_step g sources d t v lt best e =
    let u : ℕ = e.before in
    let p : ℕ = e.last in
    let u_lt : u < vertices g = e.at.vertex in
    let front : IsWalkSum g sources u (walk_sum g e.front) = record { source = best.source; is_source = best.is_source; walk = e.front; is_walk = e.walk; sum = refl } in
    let to_u : (get_or d.dist u 0 ≢ NONE) × (get_or d.dist u 0 ≤ walk_sum g e.front) = along g sources d t u (walk_sum g e.front) u_lt front in
    let there : (get_or d.dist (target g p) 0 ≢ NONE) × (get_or d.dist (target g p) 0 ≤ get_or d.dist u 0 + weight g p) = step g sources d t u p e.at to_u.0 in
    let same : get_or d.dist (target g p) 0 ≡ get_or d.dist v 0 = ap (λ x. get_or d.dist x 0) e.to in
    let whole : walk_sum g best.places ≡ walk_sum g e.front + weight g p = ap (walk_sum g) e.is ∙ walk_sum-push g p e.front in
    let sum : get_or d.dist u 0 + weight g p ≡ get_or d.dist v 0 = omega (arith, to_u.1, there.1, same, whole, best.sum) in
    let front_sum : walk_sum g e.front ≡ get_or d.dist u 0 = omega (arith, sum, whole, best.sum) in
    let front_hops : (get_or d.hops u 0 ≢ NONE) × (get_or d.hops u 0 ≤ length e.front) = hops_along g sources d t best.source u e.front u_lt best.is_source e.walk front_sum in
    let size : length best.places ≡ length e.front + 1 = ap (λ (l : List ℕ). length l) e.is ∙ length-append e.front (p ∷ []) in
    let more : get_or d.hops v 0 ≤ get_or d.hops u 0 + 1 = hops_more u p (best_walk g sources d t u u_lt front_hops.0) e.at e.to sum in
    (u, p, record { from = e.at; to = e.to; reached = to_u.0; sum = sum; hop = omega (arith, front_hops.1, size, best.hops, more) }) where
      hops_more : (u p : ℕ) → BestWalk g sources d u → IsPlaceOf g u p → target g p ≡ v → get_or d.dist u 0 + weight g p ≡ get_or d.dist v 0 →
          get_or d.hops v 0 ≤ get_or d.hops u 0 + 1
      hops_more u p r at to sum =
          let rs : List ℕ = r.places in
          let walk : IsWalk g r.source (rs ++ p ∷ []) v = subst (IsWalk g r.source (rs ++ p ∷ [])) to (IsWalk-push g r.source u p rs r.walk at) in
          let bound : (get_or d.hops v 0 ≢ NONE) × (get_or d.hops v 0 ≤ length (rs ++ p ∷ [])) =
          hops_along g sources d t r.source v (rs ++ p ∷ []) lt r.is_source walk (walk_sum-push g p rs ∙ ap (λ x. x + weight g p) r.sum ∙ sum) in
          omega (arith, bound.1, length-append rs (p ∷ []), r.hops)

-- a vertex that is reached, and is no source, has a last step
has_last_step : (g : RawGraph) (sources : List ℕ) (d : Distances) → IsTree g sources d → (v : ℕ) → v < vertices g → has sources v ≡ false → get_or d.dist v 0 ≢ NONE →
    (u : ℕ) × (p : ℕ) × IsLastStep g d.dist d.hops v u p
has_last_step g sources d t v lt other some = of_places best.places best.walk refl where
  best : BestWalk g sources d v
  best = best_walk g sources d t v lt (hops_some g sources d t v lt some)

  of_places : (ps : List ℕ) → IsWalk g best.source ps v → best.places ≡ ps → (u : ℕ) × (p : ℕ) × IsLastStep g d.dist d.hops v u p
  of_places [] walk is = absurd (both_ways (has sources v) other (has-from_Contains sources v (subst (Contains sources) walk best.is_source)))
  of_places (p ∷ ps) walk is = last_step g sources d t v lt best (subst (EndsWith g best.source v) (sym is) (ends_with g best.source v p ps walk))

-- ---- the tests

right_start : (e a b c : Bool) → a ≡ true → b ≡ true → c ≡ true → (e && not (a && b && c)) ≡ false
right_start e a b c x y z = grind arith

three_and : (e r b : Bool) → b ≡ true → (not e && r && not b) ≡ false
three_and e r b h = grind arith

not_reached : (e r b : Bool) → r ≡ false → (not e && r && b) ≡ false
not_reached e r b h = grind arith

is_a_source : (e r b : Bool) → e ≡ true → (not e && r && b) ≡ false
is_a_source e r b h = grind arith

all_five : (a b c e f : Bool) → a ≡ true → b ≡ true → c ≡ true → e ≡ true → f ≡ true → (a && b && c && e && f) ≡ true
all_five a b c e f x y z v w = grind arith

source_passes : (g : RawGraph) (sources : List ℕ) (d : Distances) → IsTree g sources d → (v : ℕ) → v < vertices g → fails_distances g sources d v reasons.Source ≡ false
source_passes g sources d t v lt =
    elim (cases_Bool (has sources v)) [
      | inl is ↦
          right_start (has sources v) (eqb (get_or d.dist v 0) 0) (eqb (get_or d.hops v 0) 0) (is_none (get_or d.parent v 0))
          (eq-eqb (get_or d.dist v 0) 0 (dist is)) (eq-eqb (get_or d.hops v 0) 0 (hops is)) (eq-eqb (get_or d.parent v 0) NONE (parent is))
      | inr other ↦ and_left (has sources v) (not (eqb (get_or d.dist v 0) 0 && eqb (get_or d.hops v 0) 0 && is_none (get_or d.parent v 0))) other
    ] where
      dist : has sources v ≡ true → get_or d.dist v 0 ≡ 0
      dist is = omega (arith, (along g sources d t v 0 lt (record { source = v; is_source = Contains-from_has sources v is; walk = []; is_walk = refl; sum = refl })).1)

      hops : has sources v ≡ true → get_or d.hops v 0 ≡ 0
      hops is = omega (arith, (hops_along g sources d t v v [] lt (Contains-from_has sources v is) refl (sym (dist is))).1)

      no_step : has sources v ≡ true → (u : ℕ) → (p : ℕ) × IsLastStep g d.dist d.hops v u p → ⊥
      no_step is u (p, s) = omega (arith, s.hop, hops is)

      parent : has sources v ≡ true → get_or d.parent v 0 ≡ NONE
      parent is = elim (cases_eq (get_or d.parent v 0) NONE) [
        | inl e ↦ e
        | inr ne ↦ absurd (no_step is (get_or d.parent v 0) ((t.tree.parents.each v lt).least ne).holds)
      ]

lowerable_passes : (g : RawGraph) (sources : List ℕ) (d : Distances) → IsTree g sources d → (v : ℕ) → v < vertices g → fails_distances g sources d v reasons.Lowerable ≡ false
lowerable_passes g sources d t v lt =
    elim (cases_eq (get_or d.dist v 0) NONE) [
      | inl none ↦ and_left (not (is_none (get_or d.dist v 0))) (is_lowerable g d.dist v) (ap not (eq-eqb (get_or d.dist v 0) NONE none))
      | inr some ↦ and_right (not (is_none (get_or d.dist v 0))) (is_lowerable g d.dist v) (passes_nowhere g v (is_lowered g d.dist v) lt (at_place some))
    ] where
      at_place : get_or d.dist v 0 ≢ NONE → (p : ℕ) → IsPlaceOf g v p → is_lowered g d.dist v p ≡ false
      at_place some p at =
          let s : (get_or d.dist (target g p) 0 ≢ NONE) × (get_or d.dist (target g p) 0 ≤ get_or d.dist v 0 + weight g p) = step g sources d t v p at some in
          is_lowered-not g d.dist v p (target g p) (weight g p) refl refl s.0 (le-ltb (get_or d.dist v 0 + weight g p) (get_or d.dist (target g p) 0) s.1)

-- the parent of a vertex that has a last step
parent_holds : (g : RawGraph) (sources : List ℕ) (d : Distances) → IsTree g sources d → (v u p : ℕ) → IsLastStep g d.dist d.hops v u p → is_parent g d v u ≡ true
parent_holds g sources d t v u p s =
    all_five (ltb u (vertices g)) (not (is_none (get_or d.dist u 0))) (not (is_none (get_or d.hops u 0))) (list_any (is_tight g d.dist u v) (places_of g u)) (eqb (get_or d.hops u 0 + 1) (get_or d.hops v 0))
    (lt-ltb u (vertices g) s.from.vertex) (is_some_number (get_or d.dist u 0) s.reached) (is_some_number (get_or d.hops u 0) (hops_some g sources d t u s.from.vertex s.reached))
    (passes_at g u p (is_tight g d.dist u v) s.from (and_from (eqb (target g p) v) (eqb (get_or d.dist u 0 + weight g p) (get_or d.dist v 0)) (eq-eqb (target g p) v s.to) (eq-eqb (get_or d.dist u 0 + weight g p) (get_or d.dist v 0) s.sum)))
    (eq-eqb (get_or d.hops u 0 + 1) (get_or d.hops v 0) s.hop)

has_parent_holds : (g : RawGraph) (sources : List ℕ) (d : Distances) → IsTree g sources d → (v : ℕ) → v < vertices g → has sources v ≡ false → get_or d.dist v 0 ≢ NONE → has_parent g d v ≡ true
has_parent_holds g sources d t v lt other some =
    and_from (not (is_none (get_or d.hops v 0)) && not (is_none (get_or d.parent v 0))) (is_parent g d v (get_or d.parent v 0))
    (and_from (not (is_none (get_or d.hops v 0))) (not (is_none (get_or d.parent v 0))) (is_some_number (get_or d.hops v 0) (hops_some g sources d t v lt some)) (is_some_number (get_or d.parent v 0) named)) (of_step ((t.tree.parents.each v lt).least named).holds) where
      of_last : (u : ℕ) × (p : ℕ) × IsLastStep g d.dist d.hops v u p → get_or d.parent v 0 ≢ NONE
      of_last (u, p, s) e = (t.tree.parents.each v lt).none e u (p, s)

      named : get_or d.parent v 0 ≢ NONE
      named = of_last (has_last_step g sources d t v lt other some)

      of_step : (p : ℕ) × IsLastStep g d.dist d.hops v (get_or d.parent v 0) p → is_parent g d v (get_or d.parent v 0) ≡ true
      of_step (p, s) = parent_holds g sources d t v (get_or d.parent v 0) p s

parent_passes : (g : RawGraph) (sources : List ℕ) (d : Distances) → IsTree g sources d → (v : ℕ) → v < vertices g → fails_distances g sources d v reasons.Parent ≡ false
parent_passes g sources d t v lt =
    elim (cases_Bool (has sources v)) [
      | inl is ↦ is_a_source (has sources v) (not (is_none (get_or d.dist v 0))) (not (has_parent g d v)) is
      | inr ne ↦ elim (cases_eq (get_or d.dist v 0) NONE) [
        | inl none ↦ not_reached (has sources v) (not (is_none (get_or d.dist v 0))) (not (has_parent g d v)) (ap not (eq-eqb (get_or d.dist v 0) NONE none))
        | inr some ↦ three_and (has sources v) (not (is_none (get_or d.dist v 0))) (has_parent g d v) (has_parent_holds g sources d t v lt ne some)
      ]
    ]

unreached_passes : (g : RawGraph) (sources : List ℕ) (d : Distances) → IsTree g sources d → (v : ℕ) → v < vertices g → fails_distances g sources d v reasons.Unreached ≡ false
unreached_passes g sources d t v lt =
    elim (cases_eq (get_or d.dist v 0) NONE) [
      | inl none ↦
          three_and (has sources v) (not (not (is_none (get_or d.dist v 0)))) (is_none (get_or d.hops v 0) && is_none (get_or d.parent v 0))
          (and_from (is_none (get_or d.hops v 0)) (is_none (get_or d.parent v 0)) (eq-eqb (get_or d.hops v 0) NONE (no_hops none)) (eq-eqb (get_or d.parent v 0) NONE (no_parent none)))
      | inr some ↦
          not_reached (has sources v) (not (not (is_none (get_or d.dist v 0)))) (not (is_none (get_or d.hops v 0) && is_none (get_or d.parent v 0)))
          (ap not (is_some_number (get_or d.dist v 0) some))
    ] where
      no_walk : get_or d.dist v 0 ≡ NONE → BestWalk g sources d v → ⊥
      no_walk none best =
          (along g sources d t v (walk_sum g best.places) lt (record { source = best.source; is_source = best.is_source; walk = best.places; is_walk = best.walk; sum = refl })).0 none

      no_hops : get_or d.dist v 0 ≡ NONE → get_or d.hops v 0 ≡ NONE
      no_hops none = elim (cases_eq (get_or d.hops v 0) NONE) [
        | inl e ↦ e
        | inr ne ↦ absurd (no_walk none (best_walk g sources d t v lt ne))
      ]

      no_step : get_or d.dist v 0 ≡ NONE → (u : ℕ) → (p : ℕ) × IsLastStep g d.dist d.hops v u p → ⊥
      no_step none u (p, s) = (step g sources d t u p s.from s.reached).0 (ap (λ x. get_or d.dist x 0) s.to ∙ none)

      no_parent : get_or d.dist v 0 ≡ NONE → get_or d.parent v 0 ≡ NONE
      no_parent none = elim (cases_eq (get_or d.parent v 0) NONE) [
        | inl e ↦ e
        | inr ne ↦ absurd (no_step none (get_or d.parent v 0) ((t.tree.parents.each v lt).least ne).holds)
      ]

-- ---- the verdict

pub tree_accepted : (g : RawGraph) (sources : List ℕ) (d : Distances) → IsLawful g → All (λ s. s < vertices g) sources → AreTree g sources d.dist d.hops d.parent → distances_verdict g sources d ≡ Yes
tree_accepted g sources d lawful within tree =
    let t : IsTree g sources d = record { lawful = lawful; within = within; tree = tree } in
    all_yes (vertices g) distance_reasons (fails_distances g sources d) (λ v lt.
    let f : Reason → Bool = fails_distances g sources d v in
    find_past f reasons.Source (reasons.Lowerable ∷ reasons.Parent ∷ reasons.Unreached ∷ []) (source_passes g sources d t v lt)
    (find_past f reasons.Lowerable (reasons.Parent ∷ reasons.Unreached ∷ []) (lowerable_passes g sources d t v lt)
    (find_past f reasons.Parent (reasons.Unreached ∷ []) (parent_passes g sources d t v lt)
    (find_past f reasons.Unreached [] (unreached_passes g sources d t v lt) refl))))
