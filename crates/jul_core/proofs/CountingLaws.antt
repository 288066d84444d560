-- Sums over lists: term by term, over a list that rises, over the two parts of a filter.
use Rattle.std.proofs.Common.{◌≡◌, ℕ, suc, ◌+◌, ◌<◌, true, eqb, cond, List, [], ◌∷◌, get_or, sym, arith, inl, inr}
use Rattle.std.specs.List.{sum_by, count_by, AllPairs}
use Rattle.std.specs.List.Sorted.{IsStrictlyIncreasing}
use Rattle.std.proofs.lemmas.Bool.{cases_Bool, cases_eq, both_ways, cond-true, cond-false, or_left, or_cases, eq-eqb, eqb-true, ne_eqb}
use Rattle.std.proofs.lemmas.List.Sums.{sum_by-cons}
use Rattle.std.proofs.lemmas.List.Kept.{AllPairs-from_increasing}
use Rattle.jul_base.specs.Sets.{has}
use Rattle.jul_base.proofs.CountLaws.{has_later, sum_by-add, sum_by-same_in, sum_by-zeros}
use Rattle.jul_base.proofs.SetLaws.{Contains-from_has}

-- ---- a list that rises

first_less : (x : ℕ) (xs : List ℕ) → AllPairs (λ a b. a < b) (x ∷ xs) → (z : ℕ) → has xs z ≡ true → x < z
first_less x xs up z held =
    let (k, lt, at) = Contains-from_has xs z held in
    let less : x < get_or xs k z = up 0 (suc k) z (omega arith) (omega arith) in
    omega (arith, less, at)

rest_rises : (x : ℕ) (xs : List ℕ) → AllPairs (λ a b. a < b) (x ∷ xs) → AllPairs (λ a b. a < b) xs
rest_rises x xs up i j d lt in' = up (suc i) (suc j) d (omega arith) (omega arith)

-- whether w stands in a list that rises, counted by its first and its rest
one_more : (x : ℕ) (xs : List ℕ) → AllPairs (λ a b. a < b) (x ∷ xs) → (w : ℕ) →
    cond {A = ℕ} (has (x ∷ xs) w) 1 0 ≡ cond (eqb w x) 1 0 + cond (has xs w) 1 0
one_more x xs up w =
    elim (cases_eq w x) [
      | inl same ↦
          let whole : cond {A = ℕ} (has (x ∷ xs) w) 1 0 ≡ 1 = cond-true _ _ _ (or_left _ _ (eq-eqb x w (sym same))) in
          let here : cond {A = ℕ} (eqb w x) 1 0 ≡ 1 = cond-true _ _ _ (eq-eqb w x same) in
          elim (cases_Bool (has xs w)) [
            | inl later ↦ absurd (omega (arith, first_less x xs up w later))
            | inr none ↦ let rest : cond {A = ℕ} (has xs w) 1 0 ≡ 0 = cond-false _ _ _ none in omega arith
          ]
      | inr other ↦
          let here : cond {A = ℕ} (eqb w x) 1 0 ≡ 0 = cond-false _ _ _ (ne_eqb w x other) in
          elim (cases_Bool (has xs w)) [
            | inl later ↦
                let whole : cond {A = ℕ} (has (x ∷ xs) w) 1 0 ≡ 1 = cond-true _ _ _ (has_later x xs w later) in
                let rest : cond {A = ℕ} (has xs w) 1 0 ≡ 1 = cond-true _ _ _ later in
                omega arith
            | inr none ↦
                let rest : cond {A = ℕ} (has xs w) 1 0 ≡ 0 = cond-false _ _ _ none in
                elim (cases_Bool (has (x ∷ xs) w)) [
                  | inl some ↦ elim (or_cases (eqb x w) (has xs w) some) [
                    | inl same ↦ absurd (other (sym (eqb-true x w same)))
                    | inr later ↦ absurd (both_ways _ none later)
                  ]
                  | inr absent ↦ let whole : cond {A = ℕ} (has (x ∷ xs) w) 1 0 ≡ 0 = cond-false _ _ _ absent in omega arith
                ]
          ]
    ]

-- how many of the ws stand in a list that rises: for each of its numbers how often it stands among the ws
counted_by_each : (xs ws : List ℕ) → AllPairs (λ a b. a < b) xs → count_by (has xs) ws ≡ sum_by (λ x. count_by (λ w. eqb w x) ws) xs
counted_by_each [] ws up = sum_by-zeros ws
counted_by_each (x ∷ xs) ws up =
    let parts : count_by (has (x ∷ xs)) ws ≡ sum_by (λ w. cond (eqb w x) 1 0 + cond (has xs w) 1 0) ws =
    sum_by-same_in (λ w. cond (has (x ∷ xs) w) 1 0) (λ w. cond (eqb w x) 1 0 + cond (has xs w) 1 0) ws (λ w h. one_more x xs up w) in
    omega (
      arith,
      parts,
      sum_by-add (λ w. cond (eqb w x) 1 0) (λ w. cond (has xs w) 1 0) ws,
      sum_by-cons (λ y. count_by (λ w. eqb w y) ws) x xs,
      counted_by_each xs ws (rest_rises x xs up),
    )

pub count_by-has : (xs ws : List ℕ) → IsStrictlyIncreasing xs → count_by (has xs) ws ≡ sum_by (λ x. count_by (λ w. eqb w x) ws) xs
count_by-has xs ws up = counted_by_each xs ws (AllPairs-from_increasing xs up)
