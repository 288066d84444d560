-- A tally depends only on which entries a log has, and each entry of `add` and of `drain` changes that of its vertex alone.
use Rattle.std.proofs.Common.{◌≡◌, ℕ, ◌+◌, ◌%◌, ◌^◌, ◌<◌, ◌≢◌, Bool, true, false, cond, eqb, eq-eqb, ne_eqb, List, ◌∷◌, sym, refl, ap, ◌∙◌, subst, ⊎_elim, arith}
use Rattle.std.specs.Prelude.{◌&&◌, nat_lt, slice_index}
use Rattle.std.proofs.lemmas.Bool.{cases_eq, lt-ltb, and_left, and_right}
use Rattle.std.proofs.Math.Nat.{mod-eq_of_lt}
use Rattle.jul_base.specs.Logs.{Entry, Home}
use Rattle.jul_words.specs.Weights.{counted, HasSameEntries}
use Rattle.jul_words.specs.Counts.{adding, draining, is_add, is_first, drained_by, is_full, tally, IsFew, IsTally, AreTallies, IsCount}

pub tally_same : (v word : ℕ) (log history : List Entry) → HasSameEntries log history → IsTally v word history → IsTally v word log
tally_same v word log history same t = record { count = omega (arith, same (drained_by v), same (is_add v), t.count); marked = omega (arith, same (is_first v), same (is_full v), t.marked) }

pub tally_is : (v word : ℕ) (log : List Entry) → IsTally v word log → word ≡ tally v log
tally_is v word log t = omega (arith, t.count)

pub settles : (h : Home) (words : List ℕ) (history log : List Entry) → IsCount h words history → HasSameEntries log history → AreTallies h log
settles h words history log r same v near few =
    let n = slice_index words (v + 1) in
    let t : IsTally v n log = tally_same v n log history same (r.words_are v near (omega (arith, same (is_add v)))) in
    subst (λ k. IsTally v k log) (tally_is v n log t) t

-- an entry of one vertex tells nothing of another
module _ (v : ℕ) (e : Entry) (apart : e.vertex ≢ v) where
  off : eqb e.vertex v ≡ false
  off = ne_eqb e.vertex v apart

  pub no_add : is_add v e ≡ 0
  no_add = ap counted (and_right _ _ off)

  no_first : is_first v e ≡ 0
  no_first = ap counted (and_left _ (eqb e.mark 1) (and_right _ _ off))

  no_drain : drained_by v e ≡ 0
  no_drain = ap (λ b. cond b e.number 0) (and_right _ _ off)

  no_full : is_full v e ≡ 0
  no_full = ap counted (and_left _ (nat_lt 0 e.number) (and_right _ _ off))

  pub other_word : (word : ℕ) (es : List Entry) → IsTally v word es → IsTally v word (e ∷ es)
  other_word word es t = record { count = omega (arith, no_add, no_drain, t.count); marked = omega (arith, no_first, no_full, t.marked) }

mark_says : (b : Bool) → counted (eqb (counted b) 1) ≡ counted b
mark_says true = refl
mark_says false = refl

module _ (v n : ℕ) where
  here : eqb v v ≡ true
  here = eq-eqb v v refl

  pub one_add : (place : ℕ) → is_add v (adding v place n) ≡ 1
  one_add place = ap counted here

  first_if : (place : ℕ) → is_first v (adding v place n) ≡ counted (eqb n 0)
  first_if place = ap (λ b. counted (b && (eqb (counted (eqb n 0)) 1))) here ∙ mark_says (eqb n 0)

  all_drained : drained_by v (draining v n) ≡ n
  all_drained = ap (λ b. cond b n 0) here

  full_if : is_full v (draining v n) ≡ counted (nat_lt 0 n)
  full_if = ap (λ b. counted (b && nat_lt 0 n)) here

  -- a count is 0 or positive
  one_of : counted (eqb n 0) + counted (nat_lt 0 n) ≡ 1
  one_of = ⊎_elim
      (λ (z : n ≡ 0). let a : counted (eqb n 0) ≡ 1 = ap counted (eq-eqb n 0 z) in let b : counted (nat_lt 0 n) ≡ 0 = ap (λ k. counted (nat_lt 0 k)) z in omega arith)
      (λ (z : n ≢ 0). let a : counted (eqb n 0) ≡ 0 = ap counted (ne_eqb n 0 z) in let b : counted (nat_lt 0 n) ≡ 1 = ap counted (lt-ltb 0 n (omega arith)) in omega arith)
      (cases_eq n 0)

  pub added : (place : ℕ) (es : List Entry) → IsFew v (adding v place n ∷ es) → IsTally v n es → IsTally v ((n + 1) % 2 ^ 64) (adding v place n ∷ es)
  added place es few t =
      let fits : n + 1 < 2 ^ 64 = omega (arith, one_add place, t.count) in
      let is : (n + 1) % 2 ^ 64 ≡ n + 1 = mod-eq_of_lt fits in
      let above : counted (nat_lt 0 (n + 1)) ≡ 1 = ap counted (lt-ltb 0 (n + 1) (omega arith)) in
      subst (λ m. IsTally v m (adding v place n ∷ es)) (sym is) record { count = omega (arith, one_add place, t.count); marked = omega (arith, first_if place, one_of, above, t.marked) }

  pub emptied : (es : List Entry) → IsTally v n es → IsTally v 0 (draining v n ∷ es)
  emptied es t = record { count = omega (arith, all_drained, t.count); marked = omega (arith, full_if, t.marked) }
