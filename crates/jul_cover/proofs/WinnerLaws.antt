-- Who wins an element among packed sets, and which sets are chosen: as the rounds say.
use Rattle.std.proofs.Common.{◌≡◌, ℕ, zero, suc, ◌*◌, ◌^◌, ◌<◌, ◌≤◌, Bool, true, false, not, ◌&&◌, eqb, leb, List, [], ◌∷◌, length, get_or, refl, sym, ap, ◌∙◌, subst, arith, inl, inr}
use Rattle.std.specs.Prelude.{Option, Some, None}
use Rattle.std.specs.List.{find, count_by, Contains}
use Rattle.std.proofs.lemmas.Bool.{cases_Bool, both_ways, or_cases, cond-true, cond-false, and_parts, and_from, eqb-true, eq-eqb, le-leb, leb-true, not-true, not_from_false}
use Rattle.jul_base.specs.InRows.{InEdges}
use Rattle.jul_base.specs.Sets.{has, AreSets}
use Rattle.jul_base.specs.CoverRounds.{set_at, size, bucket, is_active, is_same, wins, won, covered_before, chosen_in}
use Rattle.jul_base.proofs.CountLaws.{has_here, has_later, count_by-le_in, count_by-filter}
use Rattle.jul_base.proofs.CoverRoundLaws.{wins-winner, winner-first, one_wins, some_wins}
use Rattle.jul_base.proofs.SetLaws.{Contains-from_has, has-from_Contains}
use Rattle.jul_cover.specs.CoverWork.{packed}
use Rattle.jul_cover.specs.Keeping.{holders_at, AreHolders, is_large, winner_in, won_by, is_winning}
use Rattle.jul_cover.proofs.CoverLeftLaws.{set_at-within}
use Rattle.jul_cover.proofs.CoverPackLaws.{length-packed}
use Rattle.jul_cover.proofs.RoundLaws.{chosen_from, chosen_is}

-- ---- the first of a list that passes

pub find_some : (p : ℕ → Bool) (xs : List ℕ) (x : ℕ) → has xs x ≡ true → p x ≡ true → (r : ℕ) × (find p xs ≡ Some r)
find_some p [] x held passes = absurd (cc)
find_some p (y ∷ ys) x held passes =
    elim (cases_Bool (p y)) [
      | inl here ↦ (y, cond-true _ _ _ here)
      | inr fails ↦ elim (or_cases (eqb y x) (has ys x) held) [
        | inl same ↦ absurd (both_ways _ fails (ap p (eqb-true y x same) ∙ passes))
        | inr later ↦ let (r, is) = find_some p ys x later passes in (r, cond-false _ _ _ fails ∙ is)
      ]
    ]

pub find_is : (p : ℕ → Bool) (xs : List ℕ) (r : ℕ) → find p xs ≡ Some r → (has xs r ≡ true) × (p r ≡ true)
find_is p [] r is = absurd (cc)
find_is p (y ∷ ys) r is =
    elim (cases_Bool (p y)) [
      | inl here ↦
          let some : Some y ≡ Some r = sym (cond-true _ _ _ here) ∙ is in
          let same : y ≡ r = cc in
          (subst (λ x. has (y ∷ ys) x ≡ true) same (has_here y ys), sym (ap p same) ∙ here)
      | inr fails ↦ let (held, passes) = find_is p ys r (sym (cond-false _ _ _ fails) ∙ is) in (has_later y ys r held, passes)
    ]

-- no number stands behind a greater one
abbrev pub IsRising : List ℕ → Type 0
IsRising xs = (j k : ℕ) → j ≤ k → k < length xs → get_or xs j 0 ≤ get_or xs k 0

rising_first : (y : ℕ) (ys : List ℕ) (x : ℕ) → IsRising (y ∷ ys) → has ys x ≡ true → y ≤ x
rising_first y ys x rising held =
    let (k, lt, is) = Contains-from_has (y ∷ ys) x (has_later y ys x held) in
    let first : y ≤ get_or (y ∷ ys) k 0 = rising 0 k (omega arith) lt in
    omega (arith, default_of (y ∷ ys) k x lt, is)
  where
    default_of : (xs : List ℕ) (k x : ℕ) → k < length xs → get_or xs k 0 ≡ get_or xs k x
    default_of [] k x lt = absurd (omega arith)
    default_of (z ∷ zs) zero x lt = refl
    default_of (z ∷ zs) (suc k) x lt = default_of zs k x (omega arith)

pub find_least : (p : ℕ → Bool) (xs : List ℕ) (r s : ℕ) → IsRising xs → find p xs ≡ Some r → has xs s ≡ true → p s ≡ true → r ≤ s
find_least p [] r s rising is held passes = absurd (cc)
find_least p (y ∷ ys) r s rising is held passes =
    elim (cases_Bool (p y)) [
      | inl here ↦
          let some : Some y ≡ Some r = sym (cond-true _ _ _ here) ∙ is in
          let same : y ≡ r = cc in
          elim (or_cases (eqb y s) (has ys s) held) [
            | inl one ↦ omega (arith, eqb-true y s one)
            | inr later ↦ omega (arith, rising_first y ys s rising later)
          ]
      | inr fails ↦ elim (or_cases (eqb y s) (has ys s) held) [
        | inl one ↦ absurd (both_ways _ fails (ap p (eqb-true y s one) ∙ passes))
        | inr later ↦ find_least p ys r s (λ j k le lt. rising (suc j) (suc k) (omega arith) (omega arith)) (sym (cond-false _ _ _ fails) ∙ is) later passes
      ]
    ]

same_of : (o : Option ℕ) (s : ℕ) → is_same o s ≡ true → o ≡ Some s
same_of (Some r) s same = ap Some (eqb-true r s same)
same_of None s same = absurd (cc)

-- ---- where each set is packed down to what isn't covered

module _ (sets : List (List ℕ)) (are : AreSets sets) (edges : InEdges) (holders : AreHolders sets edges) (c : List ℕ) (b : ℕ) (bucket_is : bucket sets c ≡ b)
    (pack : ℕ → List ℕ) (exact : (x : ℕ) → x < length sets → pack x ≡ packed sets c x) where
  pub large_is : (x : ℕ) → x < length sets → is_large pack b x ≡ is_active sets c x
  unfolding is_active
  large_is x lt = ap (λ k. leb (2 ^ b) k) (ap length (exact x lt) ∙ length-packed sets c x) ∙ ap (λ k. leb (2 ^ k) (size sets c x)) (sym bucket_is)

  holder_is : (e x : ℕ) → e < length sets → has (holders_at edges e) x ≡ true → (x < length sets) × (has (set_at sets x) e ≡ true)
  holder_is e x lt there =
      let held : Contains (set_at sets x) e = holders.only e x lt (Contains-from_has (holders_at edges e) x there) in
      let (k, k_lt, is) = Contains-from_has (holders_at edges e) x there in
      let in_set : has (set_at sets x) e ≡ true = has-from_Contains (set_at sets x) e held in
      ((set_at-within sets are x e in_set).0, in_set)

  holder_from : (e x : ℕ) → e < length sets → x < length sets → has (set_at sets x) e ≡ true → has (holders_at edges e) x ≡ true
  holder_from e x lt x_lt held = has-from_Contains (holders_at edges e) x (holders.all e x lt x_lt (Contains-from_has (set_at sets x) e held))

  -- the first large holder of an element that isn't covered wins it
  pub winner_wins : (e s : ℕ) → e < length sets → has c e ≡ false → winner_in pack edges b e ≡ Some s → wins sets c s e ≡ true
  winner_wins e s lt open' is =
      let (there, large) = find_is (is_large pack b) (holders_at edges e) s is in
      let (s_lt, held) = holder_is e s lt there in
      let (r, wins_r, le) = some_wins sets c s e s_lt (sym (large_is s s_lt) ∙ large) held open' in
      let (first, r_lt) = winner-first sets c r e (wins-winner sets c r e wins_r).1 in
      let (active_r, held_r) = and_parts (is_active sets c r) (has (set_at sets r) e) first.passes in
      let least : s ≤ r = find_least (is_large pack b) (holders_at edges e) s r (λ j k j_le k_lt. holders.rising e j k lt j_le k_lt) is (holder_from e r lt r_lt held_r) (large_is r r_lt ∙ active_r) in
      let same : r ≡ s = omega arith in
      subst (λ x. wins sets c x e ≡ true) same wins_r

  pub wins_winner : (e s : ℕ) → e < length sets → wins sets c s e ≡ true → winner_in pack edges b e ≡ Some s
  wins_winner e s lt wins_s =
      let (open', winner_s) = wins-winner sets c s e wins_s in
      let (first, s_lt) = winner-first sets c s e winner_s in
      let (active_s, held_s) = and_parts (is_active sets c s) (has (set_at sets s) e) first.passes in
      let (r, is) = find_some (is_large pack b) (holders_at edges e) s (holder_from e s lt s_lt held_s) (large_is s s_lt ∙ active_s) in
      let same : r ≡ s = one_wins sets c r s e (winner_wins e r lt open' is) wins_s in
      is ∙ ap Some same

  pub won_is : (s : ℕ) → s < length sets → won_by pack edges b s (pack s) ≡ won sets c s
  unfolding won
  won_is s s_lt =
      let test : ℕ → Bool = λ e. is_same (winner_in pack edges b e) s in
      let both : ℕ → Bool = λ e. not (has c e) && test e in
      let in_range : (e : ℕ) → has (set_at sets s) e ≡ true → e < length sets = λ e held. (set_at-within sets are s e held).1 in
      let up : count_by both (set_at sets s) ≤ count_by (wins sets c s) (set_at sets s) = count_by-le_in both (wins sets c s) (set_at sets s) (λ e held is.
      let (open', same) = and_parts (not (has c e)) (test e) is in
      winner_wins e s (in_range e held) (not-true _ open') (same_of _ s same)) in
      let down : count_by (wins sets c s) (set_at sets s) ≤ count_by both (set_at sets s) = count_by-le_in (wins sets c s) both (set_at sets s) (λ e held wins_s.
      and_from _ _ (not_from_false _ (wins-winner sets c s e wins_s).0) (ap (λ o. is_same o s) (wins_winner e s (in_range e held) wins_s) ∙ eq-eqb s s refl)) in
      ap (count_by test) (exact s s_lt) ∙ count_by-filter (λ e. not (has c e)) test (set_at sets s) ∙ omega arith

  -- who wins half is chosen, and nobody else
  pub winning_chosen : (t s : ℕ) → c ≡ covered_before sets t → s < length sets → is_winning pack edges b s ≡ true → Contains (chosen_in sets t) s
  winning_chosen t s same s_lt is =
      let (large, half) = and_parts (is_large pack b s) (leb (2 ^ b) (2 * won_by pack edges b s (pack s))) is in
      let bucket_at : bucket sets (covered_before sets t) ≡ b = ap (bucket sets) (sym same) ∙ bucket_is in
      let active : is_active sets (covered_before sets t) s ≡ true = ap (λ l. is_active sets l s) (sym same) ∙ sym (large_is s s_lt) ∙ large in
      let won_at : won sets c s ≡ won sets (covered_before sets t) s = ap (λ l. won sets l s) same in
      chosen_from sets t s b s_lt bucket_at active (omega (arith, leb-true _ _ half, won_is s s_lt, won_at))

  pub chosen_winning : (t s : ℕ) → c ≡ covered_before sets t → Contains (chosen_in sets t) s → (s < length sets) × (is_winning pack edges b s ≡ true)
  chosen_winning t s same there =
      let (s_lt, active, half) = chosen_is sets t s there in
      let active_at : is_active sets c s ≡ true = ap (λ l. is_active sets l s) same ∙ active in
      let won_at : won sets c s ≡ won sets (covered_before sets t) s = ap (λ l. won sets l s) same in
      let bucket_at : bucket sets (covered_before sets t) ≡ b = ap (bucket sets) (sym same) ∙ bucket_is in
      let half_at : 2 ^ b ≤ 2 * won sets (covered_before sets t) s = subst (λ k. 2 ^ k ≤ 2 * won sets (covered_before sets t) s) bucket_at half in
      (s_lt, and_from _ _ (large_is s s_lt ∙ active_at) (le-leb _ _ (omega (arith, half_at, won_is s s_lt, won_at))))
