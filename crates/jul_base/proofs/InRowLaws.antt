-- In-rows: which places they hold, and how often a vertex stands among the sources.
use Rattle.std.proofs.Common.{◌≡◌, ℕ, zero, suc, ◌+◌, ◌-◌, ◌<◌, ◌≤◌, List, [], ◌∷◌, length, get_or, cond, Bool, true, false, ◌&&◌, eqb, ltb, leb, sym, ◌∙◌, ap, refl, arith, inl, inr}
use Rattle.std.specs.List.{filter, count_by, slice_range, Contains}
use Rattle.std.specs.List.Sorted.{IsStrictlyIncreasing}
use Rattle.std.proofs.lemmas.List.Elements.{Contains-get_or}
use Rattle.std.proofs.lemmas.List.Kept.{IsStrictlyIncreasing-filter}
use Rattle.std.proofs.lemmas.Bool.{cases_eq, eq-eqb, eqb-true, ne_eqb, le-leb, lt-leb, lt-ltb, le-ltb, leb-true, ltb-true, and_parts, and_from, and_left, and_right, false_from_ne_true}
use Rattle.std.proofs.lemmas.List.Sums.{sum_by-append, sum_by-cons, sum_by_push, length-filter, count_by-le-length}
use Rattle.std.proofs.lemmas.List.FromFn.{length-range_with_len}
use Rattle.std.proofs.lemmas.List.Edits.{between_more, between_none}
use Rattle.jul_base.specs.declared.graphs.RawGraph.{RawGraph}
use Rattle.jul_base.specs.Numbers.{below}
use Rattle.jul_base.specs.Graph.{vertices, places, target, row_start, row_end, count, IsPlaceOf, IsLawful}
use Rattle.jul_base.specs.InRows.{in_places, AreSources}
use Rattle.jul_base.proofs.GraphLaws.{row_end-le, row_start-le-row_end}
use Rattle.jul_base.proofs.RowLaws.{IsPlaceOf-unique}
use Rattle.jul_base.proofs.SetLaws.{Contains-filter, Contains-from_filter, Contains-below, below-Contains, IsStrictlyIncreasing-below}
use Rattle.jul_base.proofs.PartLaws.{filter_below-more}

-- whether place p is one of u
abbrev pub is_place_of : RawGraph → ℕ → ℕ → Bool
is_place_of g u p = leb (row_start g u) p && ltb p (row_end g u)

pub is_place_of-source : (g : RawGraph) → IsLawful g → (u w p : ℕ) → u < vertices g → IsPlaceOf g w p → is_place_of g u p ≡ eqb w u
is_place_of-source g lawful u w p in_range at =
    elim (cases_eq w u) [
      | inl same ↦
          and_from _ _ (le-leb (row_start g u) p (omega (arith, ap (row_start g) same, at.from))) (lt-ltb p (row_end g u) (omega (arith, ap (row_end g) same, at.to)))
          ∙ sym (eq-eqb w u same)
      | inr other ↦
          false_from_ne_true _ (λ yes.
          let parts : (leb (row_start g u) p ≡ true) × (ltb p (row_end g u) ≡ true) = and_parts _ _ yes in
          other (IsPlaceOf-unique g lawful w u p at (record { vertex = in_range; from = leb-true _ _ parts.0; to = ltb-true _ _ parts.1 })))
          ∙ sym (ne_eqb w u other)
    ]

-- a vertex stands among the sources of places as often as there are places of it
pub count_sources : (g : RawGraph) → IsLawful g → (u : ℕ) → u < vertices g → (us ps : List ℕ) → AreSources g us ps →
    count_by (λ x. eqb x u) us ≡ count_by (is_place_of g u) ps
count_sources g lawful u in_range [] [] are = refl
count_sources g lawful u in_range [] (p ∷ ps) are = absurd (omega (arith, are.size))
count_sources g lawful u in_range (x ∷ us) [] are = absurd (omega (arith, are.size))
count_sources g lawful u in_range (x ∷ us) (p ∷ ps) are =
    let rest : AreSources g us ps = record { size = omega (arith, are.size); each = λ k lt. are.each (suc k) (omega arith) } in
    let same : is_place_of g u p ≡ eqb x u = is_place_of-source g lawful u x p in_range (are.each 0 (omega arith)) in
    omega (
      arith,
      sum_by-cons (λ y. cond (eqb y u) 1 0) x us,
      sum_by-cons (λ y. cond (is_place_of g u y) 1 0) p ps,
      ap {B = ℕ} (λ b. cond b 1 0) same,
      count_sources g lawful u in_range us ps rest,
    )

-- how many of the first p places lead from u to v
abbrev counted : RawGraph → ℕ → ℕ → ℕ → ℕ
counted g u v p = count_by (is_place_of g u) (filter (λ q. eqb (target g q) v) (below p))

count_one : (q : ℕ → Bool) (p : ℕ) (b : Bool) → count_by q (cond b (p ∷ []) []) ≡ cond (q p) (cond b 1 0) 0
count_one q p true = grind arith
count_one q p false = grind arith

counted-more : (g : RawGraph) (u v p : ℕ) → counted g u v (p + 1) ≡ counted g u v p + cond (is_place_of g u p) (cond (eqb (target g p) v) 1 0) 0
counted-more g u v p =
    let test : ℕ → Bool = λ q. eqb (target g q) v in
    omega (
      arith,
      ap (count_by (is_place_of g u)) (filter_below-more test p),
      sum_by-append (λ y. cond (is_place_of g u y) 1 0) (filter test (below p)) (cond (test p) (p ∷ []) []),
      count_one (is_place_of g u) p (test p),
    )

counted-more_other : (g : RawGraph) (u v p : ℕ) → is_place_of g u p ≡ false → counted g u v (p + 1) ≡ counted g u v p
counted-more_other g u v p other =
    omega (arith, counted-more g u v p, ap {B = ℕ} (λ b. cond b (cond (eqb (target g p) v) 1 0) 0) other)

counted_before : (g : RawGraph) (u v p : ℕ) → p ≤ row_start g u → counted g u v p ≡ 0
counted_before g u v zero le = refl
counted_before g u v (suc p) le =
    let next : suc p ≡ p + 1 = omega arith in
    let other : is_place_of g u p ≡ false = and_left _ _ (lt-leb (row_start g u) p (omega arith)) in
    ap (counted g u v) next ∙ counted-more_other g u v p other ∙ counted_before g u v p (omega arith)

counted_within : (g : RawGraph) → IsLawful g → (u v k : ℕ) → row_start g u + k ≤ row_end g u →
    counted g u v (row_start g u + k) ≡ count_by (λ w. eqb w v) (slice_range g.targets (row_start g u) (row_start g u + k))
counted_within g lawful u v zero le =
    let start : row_start g u + 0 ≡ row_start g u = omega arith in
    rw (start, between_none) (counted_before g u v (row_start g u) (omega arith))
counted_within g lawful u v (suc k) le =
    let p : ℕ = row_start g u + k in
    let next : row_start g u + suc k ≡ p + 1 = omega arith in
    let here : is_place_of g u p ≡ true = and_from _ _ (le-leb (row_start g u) p (omega arith)) (lt-ltb p (row_end g u) (omega arith)) in
    let in_range : p < length g.targets = omega (arith, row_end-le g lawful u) in
    omega (
      arith,
      ap (counted g u v) next,
      counted-more g u v p,
      ap {B = ℕ} (λ b. cond b (cond (eqb (target g p) v) 1 0) 0) here,
      counted_within g lawful u v k (omega arith),
      ap (λ (n : ℕ). count_by (λ w. eqb w v) (slice_range g.targets (row_start g u) n)) next,
      ap (count_by (λ w. eqb w v)) (between_more g.targets (row_start g u) p 0 (omega arith) in_range),
      sum_by_push (λ w. cond (eqb w v) 1 0) (slice_range g.targets (row_start g u) p) (target g p),
    )

counted_after : (g : RawGraph) (u v k : ℕ) → counted g u v (row_end g u + k) ≡ counted g u v (row_end g u)
counted_after g u v zero = ap (counted g u v) (omega arith)
counted_after g u v (suc k) =
    let next : row_end g u + suc k ≡ row_end g u + k + 1 = omega arith in
    let other : is_place_of g u (row_end g u + k) ≡ false = and_right _ _ (le-ltb (row_end g u + k) (row_end g u) (omega arith)) in
    ap (counted g u v) next ∙ counted-more_other g u v (row_end g u + k) other ∙ counted_after g u v k

-- u stands among the sources of the places to v as often as v stands in the row of u
pub count_in_row : (g : RawGraph) → IsLawful g → (u v : ℕ) → u < vertices g → (us : List ℕ) → AreSources g us (in_places g v) →
    count_by (λ x. eqb x u) us ≡ count g u v
count_in_row g lawful u v in_range us are =
    let start : ℕ = row_start g u in
    let end : ℕ = row_end g u in
    let ordered : start ≤ end = row_start-le-row_end g lawful u in_range in
    let whole : places g ≡ end + (places g - end) = omega (arith, row_end-le g lawful u) in
    let within : start + (end - start) ≡ end = omega arith in
    count_sources g lawful u in_range us (in_places g v) are
    ∙ ap (counted g u v) whole
    ∙ counted_after g u v (places g - end)
    ∙ ap (counted g u v) (sym within)
    ∙ counted_within g lawful u v (end - start) (omega arith)
    ∙ ap (λ (n : ℕ). count_by (λ w. eqb w v) (slice_range g.targets start n)) within

-- there are at most as many places to v as places
pub length-in_places : (g : RawGraph) (v : ℕ) → length (in_places g v) ≤ places g
length-in_places g v =
    let test : ℕ → Bool = λ p. eqb (target g p) v in
    omega (
      arith,
      length-filter test (below (places g)),
      count_by-le-length test (below (places g)),
      length-range_with_len 0 (places g),
    )

-- the in-row of v holds the places that lead to v, and those alone, in increasing order
pub Contains-in_places : (g : RawGraph) (v p : ℕ) → p < places g → target g p ≡ v → Contains (in_places g v) p
Contains-in_places g v p lt is =
    Contains-filter (λ q. eqb (target g q) v) (below (places g)) p (Contains-below (places g) p lt) (eq-eqb (target g p) v is)

pub in_places-at : (g : RawGraph) (v k : ℕ) → k < length (in_places g v) →
    (get_or (in_places g v) k 0 < places g) × (target g (get_or (in_places g v) k 0) ≡ v)
in_places-at g v k lt =
    let p : ℕ = get_or (in_places g v) k 0 in
    let held = Contains-from_filter (λ q. eqb (target g q) v) (below (places g)) p (Contains-get_or (in_places g v) k 0 lt) in
    (below-Contains (places g) p held.0, eqb-true (target g p) v held.1)

pub IsStrictlyIncreasing-in_places : (g : RawGraph) (v : ℕ) → IsStrictlyIncreasing (in_places g v)
IsStrictlyIncreasing-in_places g v =
    IsStrictlyIncreasing-filter (λ q. eqb (target g q) v) (below (places g)) (IsStrictlyIncreasing-below (places g))
