-- Sums over views and over entries.
use Rattle.std.proofs.Common.{◌≡◌, ℕ, zero, suc, ◌+◌, ◌≤◌, ◌≢◌, List, [], ◌∷◌, ◌++◌, set, sym, refl, ap, arith}
use mathlib.Core.Option.{some, some-injective, some-ne-none}
use lib.ListN.{get_elem?}
use Rattle.jul_base.specs.Logs.{Entry}
use Rattle.jul_words.specs.Weights.{weigh}
use Rattle.jul_words.specs.Views.{View, total}

pub weigh-append : (f : Entry → ℕ) (l m : List Entry) → weigh f (l ++ m) ≡ weigh f l + weigh f m
weigh-append f [] m = omega arith
weigh-append f (x ∷ xs) m = omega (arith, weigh-append f xs m)

module _ (g : View → ℕ) where
  pub total-append : (l m : List View) → total g (l ++ m) ≡ total g l + total g m
  total-append [] m = omega arith
  total-append (x ∷ xs) m = omega (arith, total-append xs m)

  -- one view is changed: the sum changes by the difference
  pub total-set : (l : List View) (j : ℕ) (v w : View) → get_elem? l j ≡ some v → total g (set l j w) + g v ≡ total g l + g w
  total-set [] j v w e = absurd (some-ne-none v (sym e))
  total-set (x ∷ xs) zero v w e = omega (arith, ap g (some-injective x v e))
  total-set (x ∷ xs) (suc j) v w e = omega (arith, total-set xs j v w e)

  pub term_le : (l : List View) (j : ℕ) (v : View) → get_elem? l j ≡ some v → g v ≤ total g l
  term_le [] j v e = absurd (some-ne-none v (sym e))
  term_le (x ∷ xs) zero v e = omega (arith, ap g (some-injective x v e))
  term_le (x ∷ xs) (suc j) v e = omega (arith, term_le xs j v e)

  pub terms_le : (l : List View) (j k : ℕ) (v u : View) → k ≢ j → get_elem? l j ≡ some v → get_elem? l k ≡ some u → g v + g u ≤ total g l
  terms_le [] j k v u n e d = absurd (some-ne-none v (sym e))
  terms_le (x ∷ xs) zero zero v u n e d = absurd (n refl)
  terms_le (x ∷ xs) zero (suc k) v u n e d = omega (arith, ap g (some-injective x v e), term_le xs k u d)
  terms_le (x ∷ xs) (suc j) zero v u n e d = omega (arith, ap g (some-injective x u d), term_le xs j v e)
  terms_le (x ∷ xs) (suc j) (suc k) v u n e d = omega (arith, terms_le xs j k v u (λ h. n (ap suc h)) e d)

  pub total-zero : (l : List View) → ((j : ℕ) (u : View) → get_elem? l j ≡ some u → g u ≡ 0) → total g l ≡ 0
  total-zero [] h = refl
  total-zero (x ∷ xs) h = omega (arith, h 0 x refl, total-zero xs (λ j u e. h (suc j) u e))

  -- where only one term counts, it is the sum
  pub total-only : (l : List View) (i : ℕ) (v : View) → get_elem? l i ≡ some v → ((j : ℕ) (u : View) → j ≢ i → get_elem? l j ≡ some u → g u ≡ 0) → total g l ≡ g v
  total-only [] i v e h = absurd (some-ne-none v (sym e))
  total-only (x ∷ xs) zero v e h = omega (arith, ap g (some-injective x v e), total-zero xs (λ j u d. h (suc j) u (λ z. absurd (omega arith)) d))
  total-only (x ∷ xs) (suc i) v e h = omega (arith, h 0 x (λ z. absurd (omega arith)) refl, total-only xs i v e (λ j u n d. h (suc j) u (λ z. n (omega arith)) d))
