-- A place that lowers a number keeps what the column keeps.
use Rattle.std.proofs.Common.{◌≡◌, ◌≢◌, ℕ, ◌+◌, ◌*◌, ◌^◌, ◌<◌, ◌≤◌, not, eqb, cond, List, [], length, get_or, set, sym, ◌∙◌, subst, refl, ap, arith, inl, inr}
use Rattle.std.specs.List.{All, Contains}
use Rattle.std.proofs.lemmas.Bool.{cases_eq, ne_eqb}
use Rattle.std.proofs.lemmas.List.{length-set, get_or-set_same, get_or-set_other}
use Rattle.std.proofs.lemmas.List.Elements.{All-contains}
use Rattle.std.proofs.lemmas.List.Sums.{sum_by-set, count_by-le-length}
use Rattle.std.proofs.Math.Nat.{mul-le-mul_right}
use Rattle.jul_base.specs.declared.graphs.RawGraph.{RawGraph}
use Rattle.jul_base.specs.declared.limits.TheConstants.{NONE, MAX_N, MAX_W}
use Rattle.jul_base.specs.Graph.{vertices, target, weight, IsPlaceOf, IsLawful}
use Rattle.jul_base.specs.Distances.{IsWalkSum}
use Rattle.jul_base.specs.Sources.{first_numbers}
use Rattle.jul_base.specs.Tentative.{reached, IsBounded, IsTentative}
use Rattle.jul_base.proofs.GraphLaws.{place_in_range, target_in_range}
use Rattle.jul_base.proofs.DistanceLaws.{IsWalkSum-push}
use Rattle.jul_base.proofs.SourceLaws.{length-first, first_source, first_some}

-- no number that stands in the column is large
pub bounded-le : (g : RawGraph) → IsLawful g → (dist : List ℕ) → IsBounded g dist →
    (v : ℕ) → v < vertices g → get_or dist v 0 ≢ NONE → get_or dist v 0 ≤ MAX_N * MAX_W
bounded-le g lawful dist t v lt some =
    let most : reached dist ≤ MAX_N = omega (arith, count_by-le-length (λ d. not (eqb d NONE)) dist, t.size, lawful.few_vertices) in
    let product : reached dist * MAX_W ≤ MAX_N * MAX_W = mul-le-mul_right MAX_W most in
    omega (arith, t.bound v lt some, product)

pub small : (g : RawGraph) → IsLawful g → (dist : List ℕ) → IsBounded g dist →
    (v : ℕ) → v < vertices g → get_or dist v 0 ≢ NONE → get_or dist v 0 < 2 ^ 56
small g lawful dist t v lt some = omega (arith, bounded-le g lawful dist t v lt some)

-- and one that is NONE is not much greater
pub bounded-le-none : (g : RawGraph) → IsLawful g → (dist : List ℕ) → IsBounded g dist → (v : ℕ) → v < vertices g → get_or dist v 0 ≤ NONE
bounded-le-none g lawful dist t v lt = elim (cases_eq (get_or dist v 0) NONE) [
  | inl e ↦ omega (arith, e)
  | inr some ↦ omega (arith, small g lawful dist t v lt some)
]

abbrev is_number : ℕ → ℕ
is_number d = cond (not (eqb d NONE)) 1 0

-- how a write changes the count
reached-set : (dist : List ℕ) (v x : ℕ) → v < length dist → x ≢ NONE → reached (set dist v x) + is_number (get_or dist v 0) ≡ reached dist + 1
reached-set dist v x lt some =
    sum_by-set is_number dist v x 0 lt ∙ ap (λ b. reached dist + cond (not b) 1 0) (ne_eqb x NONE some)

is_number_none : (d : ℕ) → d ≡ NONE → is_number d ≡ 0
is_number_none d e = ap is_number e

is_number_some : (d : ℕ) → d ≢ NONE → is_number d ≡ 1
is_number_some d h = ap (λ b. cond (not b) 1 0) (ne_eqb d NONE h)

-- A place u to v of the graph lowers the number of v.
pub record Lowers (g : RawGraph) (dist : List ℕ) (u p : ℕ) : Type 0 where
  pub at : IsPlaceOf g u p
  pub some : get_or dist u 0 ≢ NONE
  pub light : weight g p ≤ MAX_W
  pub lower : get_or dist u 0 + weight g p < get_or dist (target g p) 0

abbrev pub lowered : RawGraph → List ℕ → ℕ → ℕ → List ℕ
lowered g dist u p = set dist (target g p) (get_or dist u 0 + weight g p)

module _ (g : RawGraph) (lawful : IsLawful g) (sources dist : List ℕ) (t : IsTentative g sources dist) (u p : ℕ) (h : Lowers g dist u p) where
  in_range : target g p < vertices g
  in_range = target_in_range g lawful p (place_in_range g lawful u p h.at)

  in_list : target g p < length dist
  in_list = omega (arith, t.bounded.size, in_range)

  some_now : get_or dist u 0 + weight g p ≢ NONE
  some_now e = absurd (omega (arith, e, small g lawful dist t.bounded u h.at.vertex h.some, h.light))

  here : get_or (lowered g dist u p) (target g p) 0 ≡ get_or dist u 0 + weight g p
  here = get_or-set_same dist (target g p) (get_or dist u 0 + weight g p) 0 in_list

  there : (y : ℕ) → y ≢ target g p → get_or (lowered g dist u p) y 0 ≡ get_or dist y 0
  there y ne = get_or-set_other dist (target g p) y (get_or dist u 0 + weight g p) 0 ne

  lower_bounded : IsBounded g (lowered g dist u p)
  lower_bounded =
      let v : ℕ = target g p in
      let x : ℕ = get_or dist u 0 + weight g p in
      let new : List ℕ = lowered g dist u p in
      let counted : reached new + is_number (get_or dist v 0) ≡ reached dist + 1 = reached-set dist v x in_list some_now in
      let lower : x < get_or dist v 0 = h.lower in
      let light : weight g p ≤ MAX_W = h.light in
      record {
        size = length-set dist v x ∙ t.bounded.size;
        bound = λ y lt y_some.
            let from_u : get_or dist u 0 + MAX_W ≤ reached dist * MAX_W = t.bounded.bound u h.at.vertex h.some in
            let same_or_more : (reached dist ≤ reached new) × (get_or dist v 0 ≡ NONE → reached new ≡ reached dist + 1) =
            elim (cases_eq (get_or dist v 0) NONE) [
              | inl none ↦ let zero_before : is_number (get_or dist v 0) ≡ 0 = is_number_none (get_or dist v 0) none in (omega arith, λ _. omega arith)
              | inr some_before ↦ let one_before : is_number (get_or dist v 0) ≡ 1 = is_number_some (get_or dist v 0) some_before in (omega arith, λ none. absurd (some_before none))
            ] in
            elim (cases_eq y v) [
              | inl e ↦
                  let is_x : get_or new y 0 ≡ x = ap (λ k. get_or new k 0) e ∙ here in
                  elim (cases_eq (get_or dist v 0) NONE) [
                    | inl none ↦ omega (arith, same_or_more.1 none)
                    | inr some_before ↦ omega (arith, t.bounded.bound v in_range some_before)
                  ]
              | inr ne ↦
                  let kept : get_or new y 0 ≡ get_or dist y 0 = there y ne in
                  omega (arith, t.bounded.bound y lt (λ none. y_some (kept ∙ none)))
            ];
      }

  pub lower_tentative : IsTentative g sources (lowered g dist u p)
  lower_tentative = record {
    bounded = lower_bounded;
    starts = λ s there_is.
        let zero_here : get_or dist s 0 ≡ 0 = t.starts s there_is in
        let apart : s ≢ target g p = λ e. absurd (omega (arith, h.lower, ap (λ k. get_or dist k 0) e, zero_here)) in
        there s apart ∙ zero_here;
    sums = λ y lt y_some. elim (cases_eq y (target g p)) [
      | inl e ↦ subst (λ k. IsWalkSum g sources k (get_or (lowered g dist u p) k 0)) (sym e)
          (subst (IsWalkSum g sources (target g p)) (sym here) (IsWalkSum-push g sources u p (get_or dist u 0) h.at (t.sums u h.at.vertex h.some)))
      | inr ne ↦ subst (IsWalkSum g sources y) (sym (there y ne)) (t.sums y lt (λ none. y_some (there y ne ∙ none)))
    ];
  }

-- ---- where a search starts

-- a column that has a number counts it
reached_some : (dist : List ℕ) (v : ℕ) → v < length dist → get_or dist v 0 ≢ NONE → 1 ≤ reached dist
reached_some dist v lt some =
    let counted : reached (set dist v NONE) + is_number (get_or dist v 0) ≡ reached dist + 0 = sum_by-set is_number dist v NONE 0 lt in
    omega (arith, counted, is_number_some (get_or dist v 0) some)

pub first_tentative : (g : RawGraph) (sources : List ℕ) → All (λ s. s < vertices g) sources → IsTentative g sources (first_numbers (vertices g) sources)
first_tentative g sources within =
    let n : ℕ = vertices g in
    let first : List ℕ = first_numbers n sources in
    let size : length first ≡ n = length-first n sources in
    record {
      bounded = record {
        size = size;
        bound = λ v lt some.
            let one : 1 ≤ reached first = reached_some first v (omega (arith, lt, size)) some in
            let zero_here : get_or first v 0 ≡ 0 = (first_some n sources v lt some).1 in
            omega (arith, one, zero_here);
      };
      starts = λ s h. first_source n sources s (All-contains (λ s. s < vertices g) sources s within h) h;
      sums = λ v lt some.
          let at : Contains sources v × (get_or first v 0 ≡ 0) = first_some n sources v lt some in
          record { source = v; is_source = at.0; walk = []; is_walk = refl; sum = sym at.1 };
    }
