-- A yes on distances implies that they are right: no place lowers any, and the parents lead back to a source.
use Rattle.std.proofs.Common.{◌≡◌, ◌≢◌, ℕ, zero, suc, ◌+◌, ◌-◌, ◌<◌, Bool, true, false, not, ◌&&◌, eqb, ltb, List, [], ◌∷◌, length, get_or, None, sym, ◌∙◌, subst, refl, arith, inl, inr}
use Rattle.std.specs.List.{All, list_any, find, Any}
use Rattle.std.proofs.lemmas.Bool.{cases_Bool, and_parts, or_parts, not-true, eqb-true, eqb-false, ltb-true, ltb-false, ne_eqb, not_from_false}
use Rattle.std.proofs.lemmas.List.Folds.{Any-from_list_any}
use Rattle.std.proofs.lemmas.List.Elements.{All-contains}
use Rattle.std.proofs.lemmas.List.FromFn.{length-range_with_len, get_or-range_with_len}
use Rattle.jul_base.specs.declared.graphs.RawGraph.{RawGraph}
use Rattle.jul_base.specs.declared.results.Distances.{Distances}
use Rattle.jul_check.specs.declared.verdicts.Reason.{Reason}
use Rattle.jul_check.specs.declared.verdicts.Reason.TheVariants as reasons
use Rattle.jul_check.specs.declared.verdicts.Verdict.TheVariants.{Yes}
use Rattle.jul_base.specs.declared.limits.TheConstants.{NONE}
use Rattle.jul_base.specs.Graph.{vertices, row_start, row_end, target, weight, IsPlaceOf}
use Rattle.jul_base.specs.Sets.{has}
use Rattle.jul_base.specs.Distances.{IsWalkSum, IsClosed, AreDistances}
use Rattle.jul_check.specs.Verdicts.{is_none}
use Rattle.jul_check.specs.DistanceChecks.{distance_reasons, fails_distances, distances_verdict, places_of, is_reached, is_lowered, is_lowerable, is_tight, is_parent}
use Rattle.jul_check.proofs.VerdictLaws.{yes_all, find_none}
use Rattle.jul_check.proofs.PlaceLaws.{fails_at}
use Rattle.jul_base.proofs.SetLaws.{Contains-from_has, has-from_Contains}
use Rattle.jul_base.proofs.DistanceLaws.{IsWalkSum-push, closed_are_distances}

-- v fails none of the reasons
pub record Passes (g : RawGraph) (sources : List ℕ) (d : Distances) (v : ℕ) : Type 0 where
  pub source_ok : fails_distances g sources d v reasons.Source ≡ false
  pub lowerable : fails_distances g sources d v reasons.Lowerable ≡ false
  pub parent : fails_distances g sources d v reasons.Parent ≡ false
  pub unreached : fails_distances g sources d v reasons.Unreached ≡ false

passes : (g : RawGraph) (sources : List ℕ) (d : Distances) → distances_verdict g sources d ≡ Yes → (v : ℕ) → v < vertices g → Passes g sources d v
passes g sources d e v lt =
    let f : Reason → Bool = fails_distances g sources d v in
    let a : (f reasons.Source ≡ false) × (find f (reasons.Lowerable ∷ reasons.Parent ∷ reasons.Unreached ∷ []) ≡ None) = find_none f reasons.Source (reasons.Lowerable ∷ reasons.Parent ∷ reasons.Unreached ∷ []) (yes_all (vertices g) distance_reasons (fails_distances g sources d) e v lt) in
    let b : (f reasons.Lowerable ≡ false) × (find f (reasons.Parent ∷ reasons.Unreached ∷ []) ≡ None) = find_none f reasons.Lowerable (reasons.Parent ∷ reasons.Unreached ∷ []) a.1 in
    let c : (f reasons.Parent ≡ false) × (find f (reasons.Unreached ∷ []) ≡ None) = find_none f reasons.Parent (reasons.Unreached ∷ []) b.1 in
    record { source_ok = a.0; lowerable = b.0; parent = c.0; unreached = (find_none f reasons.Unreached [] c.1).0 }

pub is_some_number : (x : ℕ) → x ≢ NONE → not (is_none x) ≡ true
is_some_number x h = not_from_false _ (ne_eqb x NONE h)

closed : (g : RawGraph) (sources : List ℕ) (d : Distances) → ((v : ℕ) → v < vertices g → Passes g sources d v) → IsClosed g d.dist
closed g sources d all u p at some =
    let test : is_reached d u && is_lowerable g d.dist u ≡ false = (all u at.vertex).lowerable in
    let none : is_lowerable g d.dist u ≡ false = grind (arith, is_some_number (get_or d.dist u 0) some, test) in
    let parts : (is_none (get_or d.dist (target g p) 0) ≡ false) × (ltb (get_or d.dist u 0 + weight g p) (get_or d.dist (target g p) 0) ≡ false) =
    or_parts _ _ (fails_at g u p (is_lowered g d.dist u) at none) in
    (eqb-false _ _ parts.0, ltb-false _ _ parts.1)

first_of_three : (a x y z : Bool) → a ≡ true → (a && not (x && y && z)) ≡ false → x ≡ true
first_of_three true true y z e h = refl
first_of_three true false y z e h = sym h
first_of_three false x y z e h = absurd (cc)

last_of_three : (a b x y z : Bool) → a ≡ true → b ≡ true → (a && b && not (x && y && z)) ≡ false → z ≡ true
last_of_three a b x y z ea eb h = grind arith

-- a number at a source is 0
at_source : (g : RawGraph) (sources : List ℕ) (d : Distances) (s : ℕ) → Passes g sources d s → has sources s ≡ true → get_or d.dist s 0 ≡ 0
at_source g sources d s h is =
    eqb-true _ _ (first_of_three (has sources s) (eqb (get_or d.dist s 0) 0) (eqb (get_or d.hops s 0) 0) (is_none (get_or d.parent s 0)) is h.source_ok)

-- what the test of a parent says
record ParentOf (g : RawGraph) (d : Distances) (v u : ℕ) : Type 0 where
  vertex : u < vertices g
  some : get_or d.dist u 0 ≢ NONE
  place : ℕ
  at : IsPlaceOf g u place
  to : target g place ≡ v
  sum : get_or d.dist u 0 + weight g place ≡ get_or d.dist v 0
  hop : get_or d.hops u 0 + 1 ≡ get_or d.hops v 0

parent_at : (g : RawGraph) (d : Distances) (v u : ℕ) → u < vertices g → get_or d.dist u 0 ≢ NONE → get_or d.hops u 0 + 1 ≡ get_or d.hops v 0 →
    Any (λ p. (eqb (target g p) v && eqb (get_or d.dist u 0 + weight g p) (get_or d.dist v 0)) ≡ true) (places_of g u) → ParentOf g d v u
parent_at g d v u vertex some hop (k, p, lt, is, test) =
    let n : ℕ = row_end g u - row_start g u in
    let lt' : k < n = omega (arith, lt, length-range_with_len (row_start g u) n) in
    let place_is : row_start g u + k ≡ p = sym (get_or-range_with_len (row_start g u) n k p lt') ∙ is in
    let parts : (eqb (target g p) v ≡ true) × (eqb (get_or d.dist u 0 + weight g p) (get_or d.dist v 0) ≡ true) = and_parts _ _ test in
    record {
      vertex = vertex;
      some = some;
      place = p;
      at = record { vertex = vertex; from = omega arith; to = omega arith };
      to = eqb-true _ _ parts.0;
      sum = eqb-true _ _ parts.1;
      hop = hop;
    }

parent_of : (g : RawGraph) (d : Distances) (v u : ℕ) → is_parent g d v u ≡ true → ParentOf g d v u
parent_of g d v u h =
    let t : ℕ → Bool = is_tight g d.dist u v in
    let last : (ltb u (vertices g) && not (is_none (get_or d.dist u 0)) && not (is_none (get_or d.hops u 0)) && list_any t (places_of g u) ≡ true) × (eqb (get_or d.hops u 0 + 1) (get_or d.hops v 0) ≡ true) = and_parts _ _ h in
    let third : (ltb u (vertices g) && not (is_none (get_or d.dist u 0)) && not (is_none (get_or d.hops u 0)) ≡ true) × (list_any t (places_of g u) ≡ true) = and_parts _ _ last.0 in
    let second : (ltb u (vertices g) && not (is_none (get_or d.dist u 0)) ≡ true) × (not (is_none (get_or d.hops u 0)) ≡ true) = and_parts _ _ third.0 in
    let first : (ltb u (vertices g) ≡ true) × (not (is_none (get_or d.dist u 0)) ≡ true) = and_parts _ _ second.0 in
    parent_at g d v u (ltb-true _ _ first.0) (eqb-false _ _ (not-true _ first.1)) (eqb-true _ _ last.1) (Any-from_list_any t (places_of g u) third.1)

parent_found : (g : RawGraph) (sources : List ℕ) (d : Distances) (v : ℕ) → Passes g sources d v → has sources v ≡ false → get_or d.dist v 0 ≢ NONE → ParentOf g d v (get_or d.parent v 0)
parent_found g sources d v h other some =
    parent_of g d v (get_or d.parent v 0)
    (last_of_three (not (has sources v)) (is_reached d v) (not (is_none (get_or d.hops v 0))) (not (is_none (get_or d.parent v 0))) (is_parent g d v (get_or d.parent v 0))
    (not_from_false _ other) (is_some_number (get_or d.dist v 0) some) h.parent)

-- a walk to u and a place from u to v make a walk to v
extended : (g : RawGraph) (sources : List ℕ) (u v p x y : ℕ) → IsPlaceOf g u p → target g p ≡ v → x + weight g p ≡ y → IsWalkSum g sources u x → IsWalkSum g sources v y
extended g sources u v p x y at to sum h = subst (IsWalkSum g sources v) sum (subst (λ k. IsWalkSum g sources k (x + weight g p)) to (IsWalkSum-push g sources u p x at h))

-- the empty walk of a source
stands : (g : RawGraph) (sources : List ℕ) (d : Distances) (v : ℕ) → Passes g sources d v → has sources v ≡ true → IsWalkSum g sources v (get_or d.dist v 0)
stands g sources d v h is = record {
  source = v;
  is_source = Contains-from_has sources v is;
  walk = [];
  is_walk = refl;
  sum = sym (at_source g sources d v h is);
}

-- the parents of a vertex, one after another, make a walk from a source
walks : (g : RawGraph) (sources : List ℕ) (d : Distances) → ((v : ℕ) → v < vertices g → Passes g sources d v) → (h v : ℕ) → v < vertices g → get_or d.hops v 0 ≡ h →
    get_or d.dist v 0 ≢ NONE → IsWalkSum g sources v (get_or d.dist v 0)
walks g sources d all zero v lt is some =
    elim (cases_Bool (has sources v)) [
      | inl here ↦ stands g sources d v (all v lt) here
      | inr other ↦ let u : ParentOf g d v (get_or d.parent v 0) = parent_found g sources d v (all v lt) other some in absurd (omega (arith, u.hop, is))
    ]
walks g sources d all (suc h) v lt is some =
    elim (cases_Bool (has sources v)) [
      | inl here ↦ stands g sources d v (all v lt) here
      | inr other ↦
          let u : ParentOf g d v (get_or d.parent v 0) = parent_found g sources d v (all v lt) other some in
          extended g sources (get_or d.parent v 0) v u.place (get_or d.dist (get_or d.parent v 0) 0) (get_or d.dist v 0) u.at u.to u.sum
          (walks g sources d all h (get_or d.parent v 0) u.vertex (omega (arith, u.hop, is)) u.some)
    ]

pub distances_accepted : (g : RawGraph) (sources : List ℕ) (d : Distances) → All (λ s. s < vertices g) sources → length d.dist ≡ vertices g → distances_verdict g sources d ≡ Yes →
    AreDistances g sources d.dist
distances_accepted g sources d within size e =
    let all : (v : ℕ) → v < vertices g → Passes g sources d v = passes g sources d e in
    closed_are_distances g sources d.dist size
    (λ s there. at_source g sources d s (all s (All-contains (λ s. s < vertices g) sources s within there)) (has-from_Contains sources s there)) (closed g sources d all)
    (λ v v_lt some. walks g sources d all (get_or d.hops v 0) v v_lt refl some)
