-- After a round over packed sets: which sets it leaves as they were, and who may be chosen in the next of the same bucket.
use Rattle.std.proofs.Common.{◌≡◌, ℕ, suc, ◌*◌, ◌^◌, ◌<◌, ◌≤◌, Bool, true, false, not, ◌&&◌, List, [], ◌∷◌, length, refl, sym, ap, ◌∙◌, subst, arith, inl, inr}
use Rattle.std.specs.List.{filter, count_by, Contains}
use Rattle.std.proofs.lemmas.Bool.{cases_Bool, cases_lt, cases_eq, both_ways, cond-true, and_parts, and_from, not-true, not_from_false, false_from_ne_true}
use Rattle.jul_base.specs.InRows.{InEdges}
use Rattle.jul_base.specs.Sets.{has, AreSets}
use Rattle.jul_base.specs.CoverRounds.{set_at, size, bucket, is_active, wins, won, covered_before, chosen_in}
use Rattle.jul_base.proofs.CountLaws.{has_here, has_later, count_by-le_in, count_by-positive, none_or_one}
use Rattle.jul_base.proofs.CoverRoundLaws.{size-le, is_active-size, active-positive, wins-winner, winner-first, some_wins}
use Rattle.jul_base.proofs.CoverFallLaws.{covered-kept, covered-cases, chosen-done}
use Rattle.jul_base.proofs.SetLaws.{Contains-from_has, has-from_Contains, Contains-filter}
use Rattle.jul_cover.specs.Choosing.{active_of}
use Rattle.jul_cover.specs.CoverWork.{packed}
use Rattle.jul_cover.specs.Keeping.{AreHolders, is_large, winners_of, holders_of}
use Rattle.jul_cover.proofs.CoverLeftLaws.{set_at-within}
use Rattle.jul_cover.proofs.CoverPackLaws.{packed-parts, packed-from, packed_again}
use Rattle.jul_cover.proofs.KeepingLaws.{winners-to, holders-to}
use Rattle.jul_cover.proofs.RoundLaws.{active_from, chosen_from, chosen_is}
use Rattle.jul_cover.proofs.WinnerLaws.{large_is, wins_winner}

-- where a test passes more often than another, something passes it and not the other
passes_more : (p q : ℕ → Bool) (xs : List ℕ) → count_by p xs < count_by q xs → (x : ℕ) × (has xs x ≡ true) × (q x ≡ true) × (p x ≡ false)
passes_more p q xs more =
    elim (none_or_one (λ x. q x && not (p x)) xs) [
      | inr (x, held, passes) ↦ let (is_q, not_p) = and_parts (q x) (not (p x)) passes in (x, held, is_q, not-true (p x) not_p)
      | inl none ↦
          let within : count_by q xs ≤ count_by p xs = count_by-le_in q p xs (λ x held is_q.
          elim (cases_Bool (p x)) [
            | inl is_p ↦ is_p
            | inr fails ↦ absurd (omega (arith, none, count_by-positive (λ y. q y && not (p y)) xs x held (and_from (q x) (not (p x)) is_q (not_from_false (p x) fails))))
          ]) in
          absurd (omega arith)
    ]

-- a filter that keeps all
filter_whole : (p : ℕ → Bool) (xs : List ℕ) → ((x : ℕ) → has xs x ≡ true → p x ≡ true) → filter p xs ≡ xs
filter_whole p [] all = refl
filter_whole p (x ∷ xs) all = cond-true _ _ _ (all x (has_here x xs)) ∙ ap (λ l. x ∷ l) (filter_whole p xs (λ y held. all y (has_later x xs y held)))

module _ (sets : List (List ℕ)) (are : AreSets sets) (edges : InEdges) (holders : AreHolders sets edges) (t : ℕ)
    (pack : ℕ → List ℕ) (exact : (x : ℕ) → x < length sets → pack x ≡ packed sets (covered_before sets t) x)
    (chosen touched : List ℕ) (chosen_all : (x : ℕ) → Contains (chosen_in sets t) x → Contains chosen x)
    (touched_all : (x : ℕ) → Contains (holders_of pack edges chosen) x → Contains touched x) where
  abbrev c : List ℕ
  c = covered_before sets t

  abbrev c' : List ℕ
  c' = covered_before sets (suc t)

  -- a set that loses an element in the round is touched
  loses : (x e : ℕ) → has (set_at sets x) e ≡ true → has c e ≡ false → has c' e ≡ true → Contains touched x
  loses x e held open' covered =
      elim (covered-cases sets t e covered) [
        | inl before ↦ absurd (both_ways _ open' before)
        | inr (q, is, held_q) ↦
            let (q_lt, e_lt) = set_at-within sets are q e held_q in
            let (x_lt, _) = set_at-within sets are x e held in
            let in_pack : has (pack q) e ≡ true = subst (λ l. has l e ≡ true) (sym (exact q q_lt)) (packed-from sets c q e held_q open') in
            touched_all x
            (holders-to pack edges chosen q e x (chosen_all q (Contains-from_has (chosen_in sets t) q is)) (Contains-from_has (pack q) e in_pack)
            (holders.all e x e_lt x_lt (Contains-from_has (set_at sets x) e held)))
      ]

  -- what is left of any other set is as it was
  pub untouched : (x : ℕ) → (Contains touched x → ⊥) → packed sets c x ≡ packed sets c' x
  untouched x other =
      sym (filter_whole (λ e. not (has c' e)) (packed sets c x) (λ e held.
      let (in_set, open') = packed-parts sets c x e held in
      not_from_false _ (false_from_ne_true _ (λ covered. other (loses x e in_set open' covered)))))
      ∙ packed_again sets c c' x (covered-kept sets t)

  module _ (b : ℕ) (bucket_is : bucket sets c ≡ b) where
    -- a set that was active and is so no more was large and is touched
    falls : (r : ℕ) → r < length sets → is_active sets c r ≡ true → size sets c' r < 2 ^ b → Contains (active_of pack b touched) r
    unfolding size
    falls r lt active small =
        let large : 2 ^ b ≤ size sets c r = subst (λ k. 2 ^ k ≤ size sets c r) bucket_is (is_active-size sets c r active) in
        let (e, held, open', covered) = passes_more (λ e. not (has c' e)) (λ e. not (has c e)) (set_at sets r) (omega (arith, small, large)) in
        let there : Contains touched r = loses r e held (not-true _ open') (covered_of (has c' e) covered) in
        Contains-filter (is_large pack b) touched r there (large_is sets are edges holders c b bucket_is pack exact r lt ∙ active)
      where
        covered_of : (x : Bool) → not x ≡ false → x ≡ true
        covered_of true is = refl
        covered_of false is = absurd (cc)

    module _ (pack' : ℕ → List ℕ) (exact' : (x : ℕ) → x < length sets → pack' x ≡ packed sets c' x) (bucket_next : bucket sets c' ≡ b) where
      -- an element that a set wins only now
      newly_won : (s : ℕ) → s < length sets → Contains (chosen_in sets (suc t)) s → (e : ℕ) × (has (set_at sets s) e ≡ true) × (wins sets c' s e ≡ true) × (wins sets c s e ≡ false)
      unfolding won
      newly_won s lt there =
          let (s_lt, active', half') = chosen_is sets (suc t) s there in
          let enough' : 2 ^ b ≤ 2 * won sets c' s = subst (λ k. 2 ^ k ≤ 2 * won sets c' s) bucket_next half' in
          passes_more (wins sets c s) (wins sets c' s) (set_at sets s)
          (elim (cases_lt (2 * won sets c s) (2 ^ b)) [
            | inl few ↦ omega (arith, few, enough')
            | inr enough ↦
                let before : Contains (chosen_in sets t) s = chosen_from sets t s b s_lt bucket_is (still_active s active') (omega (arith, enough)) in
                absurd (omega (arith, chosen-done sets t (suc t) s (has-from_Contains (chosen_in sets t) s before) (omega arith), active-positive sets c' s active'))
          ])
        where
          still_active : (s : ℕ) → is_active sets c' s ≡ true → is_active sets c s ≡ true
          still_active s active' =
              let large : 2 ^ b ≤ size sets c' s = subst (λ k. 2 ^ k ≤ size sets c' s) bucket_next (is_active-size sets c' s active') in
              active_from sets c s b bucket_is (omega (arith, large, size-le sets c c' s (covered-kept sets t)))

      -- who is chosen next wins an element of a set that was large and isn't so any more
      pub next_candidate : (s : ℕ) → Contains (chosen_in sets (suc t)) s → Contains (winners_of pack' edges b (active_of pack b touched)) s
      next_candidate s there =
          let (s_lt, active', half') = chosen_is sets (suc t) s there in
          let (e, held, wins_now, lost) = newly_won s s_lt there in
          let e_lt : e < length sets = (set_at-within sets are s e held).1 in
          let (open_now, winner_now) = wins-winner sets c' s e wins_now in
          let (first_now, _) = winner-first sets c' s e winner_now in
          let open' : has c e ≡ false = false_from_ne_true _ (λ covered. both_ways _ open_now (covered-kept sets t e covered)) in
          let large : 2 ^ b ≤ size sets c' s = subst (λ k. 2 ^ k ≤ size sets c' s) bucket_next (is_active-size sets c' s active') in
          let active_s : is_active sets c s ≡ true = active_from sets c s b bucket_is (omega (arith, large, size-le sets c c' s (covered-kept sets t))) in
          let (r, wins_r, le) = some_wins sets c s e s_lt active_s held open' in
          let (first_r, r_lt) = winner-first sets c r e (wins-winner sets c r e wins_r).1 in
          let (active_r, held_r) = and_parts (is_active sets c r) (has (set_at sets r) e) first_r.passes in
          let less : r < s =
          elim (cases_eq r s) [
            | inl same ↦ absurd (both_ways _ lost (subst (λ x. wins sets c x e ≡ true) same wins_r))
            | inr other ↦ omega (arith, le, other)
          ] in
          let small : size sets c' r < 2 ^ b =
          elim (cases_lt (size sets c' r) (2 ^ b)) [
            | inl lt ↦ lt
            | inr enough ↦ absurd (both_ways _ (first_now.before r (omega arith) less) (and_from _ _ (active_from sets c' r b bucket_next enough) held_r))
          ] in
          let in_pack : has (pack' r) e ≡ true = subst (λ l. has l e ≡ true) (sym (exact' r r_lt)) (packed-from sets c' r e held_r open_now) in
          winners-to pack' edges b (active_of pack b touched) r e s (falls r r_lt active_r small) (Contains-from_has (pack' r) e in_pack)
          (wins_winner sets are edges holders c' b bucket_next pack' exact' e s e_lt wins_now)
