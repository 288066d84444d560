-- Tests of the places of a vertex, one after another.
use Rattle.std.proofs.Common.{◌≡◌, ℕ, zero, suc, ◌+◌, ◌-◌, ◌<◌, Bool, true, false, ◌||◌, get_or, sym, ◌∙◌, ap, arith, inl, inr}
use Rattle.std.specs.List.{list_any, range_with_len}
use Rattle.std.proofs.lemmas.Bool.{cases_Bool, both_ways, or_from}
use Rattle.std.proofs.lemmas.List.Folds.{list_any_at, list_any_none}
use Rattle.std.proofs.lemmas.List.FromFn.{length-range_with_len, get_or-range_with_len}
use Rattle.jul_base.specs.declared.graphs.RawGraph.{RawGraph}
use Rattle.jul_base.specs.Graph.{vertices, row_start, row_end, IsPlaceOf}
use Rattle.jul_check.specs.DistanceChecks.{places_of}

or_assoc : (a b c : Bool) → (a || (b || c)) ≡ ((a || b) || c)
or_assoc a b c = grind arith

or_false : (a : Bool) → (a || false) ≡ (false || a)
or_false a = grind arith

list_any-range_with_len-suc : (t : ℕ → Bool) (a k : ℕ) → list_any t (range_with_len a (suc k)) ≡ (list_any t (range_with_len a k) || t (a + k))
list_any-range_with_len-suc t a zero =
    let e : a + 0 ≡ a = omega arith in or_false (t a) ∙ ap (λ p. false || t p) (sym e)
list_any-range_with_len-suc t a (suc k) =
    let e : a + 1 + k ≡ a + suc k = omega arith in
    ap (λ b. t a || b) (list_any-range_with_len-suc t (a + 1) k)
    ∙ or_assoc (t a) (list_any t (range_with_len (a + 1) k)) (t (a + 1 + k))
    ∙ ap (λ p. list_any t (range_with_len a (suc k)) || t p) e

-- one more number to be tested
pub list_any-range_with_len_more : (t : ℕ → Bool) (a k : ℕ) → list_any t (range_with_len a (k + 1)) ≡ (list_any t (range_with_len a k) || t (a + k))
list_any-range_with_len_more t a k = let e : k + 1 ≡ suc k = omega arith in ap (λ n. list_any t (range_with_len a n)) e ∙ list_any-range_with_len-suc t a k

pub none_more : (t : ℕ → Bool) (a k : ℕ) → list_any t (range_with_len a k) ≡ false → t (a + k) ≡ false → list_any t (range_with_len a (k + 1)) ≡ false
none_more t a k before here = list_any-range_with_len_more t a k ∙ or_from (list_any t (range_with_len a k)) (t (a + k)) before here

-- after the places before the end of the row all are tested
pub list_any-places_of : (g : RawGraph) (v k : ℕ) (t : ℕ → Bool) → row_start g v + k ≡ row_end g v → list_any t (places_of g v) ≡ list_any t (range_with_len (row_start g v) k)
list_any-places_of g v k t e = let same : row_end g v - row_start g v ≡ k = omega arith in ap (λ n. list_any t (range_with_len (row_start g v) n)) same

-- one place settles the test
pub passes_at : (g : RawGraph) (v p : ℕ) (t : ℕ → Bool) → IsPlaceOf g v p → t p ≡ true → list_any t (places_of g v) ≡ true
passes_at g v p t at test =
    let n : ℕ = row_end g v - row_start g v in
    let i : ℕ = p - row_start g v in
    let lt : i < n = omega (arith, at.from, at.to) in
    let is : get_or (places_of g v) i 0 ≡ p = get_or-range_with_len (row_start g v) n i 0 lt ∙ (omega (arith, at.from)) in
    list_any_at t (places_of g v) i 0 (omega (arith, length-range_with_len (row_start g v) n)) (ap t is ∙ test)

pub fails_at : (g : RawGraph) (v p : ℕ) (t : ℕ → Bool) → IsPlaceOf g v p → list_any t (places_of g v) ≡ false → t p ≡ false
fails_at g v p t at none =
    elim (cases_Bool (t p)) [
      | inl h ↦ absurd (both_ways _ none (passes_at g v p t at h))
      | inr h ↦ h
    ]

-- no place passes the test
pub passes_nowhere : (g : RawGraph) (v : ℕ) (t : ℕ → Bool) → v < vertices g → ((p : ℕ) → IsPlaceOf g v p → t p ≡ false) → list_any t (places_of g v) ≡ false
passes_nowhere g v t v_lt none =
    list_any_none t (places_of g v) (λ k x lt.
    let n : ℕ = row_end g v - row_start g v in
    let k_lt : k < n = omega (arith, length-range_with_len (row_start g v) n) in
    let is : get_or (places_of g v) k x ≡ row_start g v + k = get_or-range_with_len (row_start g v) n k x k_lt in
    ap t is ∙ none (row_start g v + k) (record { vertex = v_lt; from = omega arith; to = omega arith }))
