-- Tallies: one entry more, and one entry fewer.
use Rattle.std.proofs.Common.{◌≡◌, ◌≢◌, ℕ, ◌+◌, ◌-◌, ◌<◌, List, length, get_or, set, take, drop, cond, eqb, sym, ◌∙◌, ap, arith, inl, inr}
use Rattle.std.specs.List.{count_by}
use Rattle.std.proofs.lemmas.Bool.{cases_eq, eq-eqb, ne_eqb}
use Rattle.std.proofs.lemmas.List.{get_or-set_same, get_or-set_other, length-set, get_or_default, length-take-le}
use Rattle.std.proofs.lemmas.List.Sums.{count_by_more_yes, count_by_more_no, count_by-le-length, sum_by-drop_more}
use Rattle.jul_rows.specs.Balance.{IsTallyOf}

-- the number at w changes, and the list in its entries w alone
IsTallyOf-set : (xs ys counts : List ℕ) (w c : ℕ) → IsTallyOf xs counts → w < length counts → c ≡ count_by (λ x. eqb x w) ys →
    ((v : ℕ) → w ≢ v → count_by (λ x. eqb x v) ys ≡ count_by (λ x. eqb x v) xs) → IsTallyOf ys (set counts w c)
IsTallyOf-set xs ys counts w c is in_range here others v lt =
    elim (cases_eq w v) [
      | inl same ↦
          ap (λ k. get_or (set counts w c) k 0) (sym same)
          ∙ get_or-set_same counts w c 0 in_range
          ∙ here
          ∙ ap (λ k. count_by (λ x. eqb x k) ys) same
      | inr other ↦
          get_or-set_other counts w v c 0 (λ e. other (sym e))
          ∙ is v (omega (arith, length-set counts w c))
          ∙ sym (others v other)
    ]

-- the entry number i is counted too
pub IsTallyOf-more : (xs counts : List ℕ) (i w c : ℕ) → IsTallyOf (take i xs) counts → i < length xs → w ≡ get_or xs i 0 → w < length counts →
    c ≡ get_or counts w c → IsTallyOf (take (i + 1) xs) (set counts w (c + 1))
IsTallyOf-more xs counts i w c is lt w_is in_range read =
    IsTallyOf-set (take i xs) (take (i + 1) xs) counts w (c + 1) is in_range
    (omega (
      arith,
      read,
      get_or_default counts w c 0 in_range,
      is w in_range,
      count_by_more_yes (λ x. eqb x w) xs i 0 lt (eq-eqb (get_or xs i 0) w (sym w_is)),
    ))
    (λ v other. count_by_more_no (λ x. eqb x v) xs i 0 lt (ne_eqb (get_or xs i 0) v (λ e. other (w_is ∙ e))))

-- no count is greater than the number of entries
pub tally-le : (xs counts : List ℕ) (i w c : ℕ) → IsTallyOf (take i xs) counts → i < length xs → w < length counts → c ≡ get_or counts w c → c < length xs
tally-le xs counts i w c is lt in_range read =
    omega (
      arith,
      read,
      get_or_default counts w c 0 in_range,
      is w in_range,
      count_by-le-length (λ x. eqb x w) (take i xs),
      length-take-le i xs (omega arith),
    )

-- what follows the entry number i has one entry fewer
rest_here : (xs : List ℕ) (i w : ℕ) → i < length xs → w ≡ get_or xs i 0 →
    count_by (λ x. eqb x w) (drop i xs) ≡ 1 + count_by (λ x. eqb x w) (drop (i + 1) xs)
rest_here xs i w lt w_is =
    omega (
      arith,
      sum_by-drop_more (λ x. cond (eqb x w) 1 0) xs i 0 lt,
      ap {B = ℕ} (λ b. cond b 1 0) (eq-eqb (get_or xs i 0) w (sym w_is)),
    )

rest_other : (xs : List ℕ) (i w v : ℕ) → i < length xs → w ≡ get_or xs i 0 → w ≢ v →
    count_by (λ x. eqb x v) (drop (i + 1) xs) ≡ count_by (λ x. eqb x v) (drop i xs)
rest_other xs i w v lt w_is other =
    omega (
      arith,
      sum_by-drop_more (λ x. cond (eqb x v) 1 0) xs i 0 lt,
      ap {B = ℕ} (λ b. cond b 1 0) (ne_eqb (get_or xs i 0) v (λ e. other (w_is ∙ e))),
    )

-- the entry number i is counted still
pub tally-some : (xs counts : List ℕ) (i w c : ℕ) → IsTallyOf (drop i xs) counts → i < length xs → w ≡ get_or xs i 0 → w < length counts →
    c ≡ get_or counts w c → 0 < c
tally-some xs counts i w c is lt w_is in_range read =
    omega (arith, read, get_or_default counts w c 0 in_range, is w in_range, rest_here xs i w lt w_is)

-- the entry number i is taken back
pub IsTallyOf-less : (xs counts : List ℕ) (i w c : ℕ) → IsTallyOf (drop i xs) counts → i < length xs → w ≡ get_or xs i 0 → w < length counts →
    c ≡ get_or counts w c → IsTallyOf (drop (i + 1) xs) (set counts w (c - 1))
IsTallyOf-less xs counts i w c is lt w_is in_range read =
    IsTallyOf-set (drop i xs) (drop (i + 1) xs) counts w (c - 1) is in_range
    (omega (arith, read, get_or_default counts w c 0 in_range, is w in_range, rest_here xs i w lt w_is))
    (λ v other. rest_other xs i w v lt w_is other)
