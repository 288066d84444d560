-- One round over plain columns and words: what bids and owners become, who is active, who is chosen.
use Rattle.std.proofs.Common.{◌≡◌, ◌≢◌, ◌⊎◌, ℕ, suc, ◌+◌, ◌*◌, ◌^◌, ◌<◌, ◌≤◌, Bool, true, leb, cond, List, [], ◌∷◌, length, refl, sym, ap, ◌∙◌, subst, arith, inl, inr}
use Rattle.std.specs.List.{filter, Contains}
use Rattle.std.proofs.lemmas.Bool.{cases_lt, and_from, le-leb}
use Rattle.std.proofs.lemmas.List.Sums.{count_by-le-length}
use Rattle.std.proofs.lemmas.List.FromFn.{length-range_with_len}
use Rattle.jul_base.specs.declared.limits.TheConstants.{NONE, MAX_N}
use Rattle.jul_base.specs.Numbers.{below, IsLeastOrNone}
use Rattle.jul_base.specs.Sets.{has}
use Rattle.jul_base.specs.CoverRounds.{set_at, size, floor_log2, bucket, is_active, won, is_chosen, covered_before, chosen_in}
use Rattle.jul_base.proofs.CountLaws.{has_here, has_later}
use Rattle.jul_base.proofs.CoverRoundLaws.{is_chosen-parts, chosen-parts}
use Rattle.jul_base.proofs.PeelLaws.{has_kept, has_below}
use Rattle.jul_base.proofs.SetLaws.{Contains-from_has, has-from_Contains, member_cases}
use Rattle.jul_cover.specs.CoverBids.{bid, Bids, IsBidBefore, IsBidWord}
use Rattle.jul_base.proofs.CoverFallLaws.{covered-cases}
use Rattle.jul_cover.proofs.CoverBidLaws.{bid-later, bid_some, Bids-round}

-- tests that agree at each element keep the same elements
pub filter_in : (p q : ℕ → Bool) (xs : List ℕ) → ((x : ℕ) → has xs x ≡ true → p x ≡ q x) → filter p xs ≡ filter q xs
filter_in p q [] same = refl
filter_in p q (x ∷ xs) same =
    let rest : filter p xs ≡ filter q xs = filter_in p q xs (λ y h. same y (has_later x xs y h)) in
    ap (λ b. cond b (x ∷ filter p xs) (filter p xs)) (same x (has_here x xs)) ∙ ap (λ l. cond (q x) (x ∷ l) l) rest

pub log_zero : floor_log2 0 ≡ 0
unfolding floor_log2
log_zero = refl

-- a logarithm is no more than its number
pub log_le : (x : ℕ) → floor_log2 x ≤ x
unfolding floor_log2
log_le x = omega (arith, count_by-le-length (λ k. leb (2 ^ (k + 1)) x) (below x), length-range_with_len 0 x)

-- a set with 2 ^ b elements left is active
pub active_from : (sets : List (List ℕ)) (c : List ℕ) (s b : ℕ) → bucket sets c ≡ b → 2 ^ b ≤ size sets c s → is_active sets c s ≡ true
unfolding is_active
active_from sets c s b same large = subst (λ k. leb (2 ^ k) (size sets c s) ≡ true) (sym same) (le-leb _ _ large)

-- one that is active and wins half is chosen
pub chosen_from : (sets : List (List ℕ)) (t s b : ℕ) → s < length sets → bucket sets (covered_before sets t) ≡ b → is_active sets (covered_before sets t) s ≡ true →
    2 ^ b ≤ 2 * won sets (covered_before sets t) s → Contains (chosen_in sets t) s
unfolding is_chosen
chosen_from sets t s b lt same active half =
    let c : List ℕ = covered_before sets t in
    let enough : 2 ^ bucket sets c ≤ 2 * won sets c s = subst (λ k. 2 ^ k ≤ 2 * won sets c s) (sym same) half in
    Contains-from_has (chosen_in sets t) s
    (has_kept (is_chosen sets c) (below (length sets)) s (has_below (length sets) s lt) (and_from _ _ active (le-leb _ _ enough)))

pub chosen_is : (sets : List (List ℕ)) (t s : ℕ) → Contains (chosen_in sets t) s →
    (s < length sets) × (is_active sets (covered_before sets t) s ≡ true) × (2 ^ bucket sets (covered_before sets t) ≤ 2 * won sets (covered_before sets t) s)
chosen_is sets t s there =
    let (lt, is) = chosen-parts sets (covered_before sets t) s (has-from_Contains (chosen_in sets t) s there) in
    let (active, half) = is_chosen-parts sets (covered_before sets t) s is in
    (lt, active, half)

-- ---- the words of the bids

-- a word that isn't NONE after a round has a bid
bid_held : (sets : List (List ℕ)) (t e x y : ℕ) → (x ≢ NONE → IsBidBefore sets e t x) → (y ≡ x) ⊎ ((s : ℕ) × Bids sets e t s × (y ≡ bid t s)) →
    y ≢ NONE → IsBidBefore sets e (suc t) y
bid_held sets t e x y old each some =
    elim each [
      | inl same ↦
          let (u, s, lt, b, is) = old (λ none. some (same ∙ none)) in
          (u, s, omega arith, b, same ∙ is)
      | inr (s, b, is) ↦ (t, s, omega arith, b, is)
    ]

-- where some set bids, a word to which each that bids has lowered it is the least of all bids
pub least_now : (sets : List (List ℕ)) (t e x y : ℕ) → length sets ≤ MAX_N → (x ≢ NONE → IsBidBefore sets e t x) → (y ≡ x) ⊎ ((s : ℕ) × Bids sets e t s × (y ≡ bid t s)) →
    (r : ℕ) → Bids sets e t r → ((s : ℕ) → Bids sets e t s → y ≤ bid t s) → IsLeastOrNone (IsBidBefore sets e (suc t)) y
least_now sets t e x y few old each r bids_r lower = record {
  least = λ some. record { holds = bid_held sets t e x y old each some; least = under };
  none = λ none z is. absurd (omega (arith, lower r bids_r, bid_some t r (omega (arith, bids_r.in_range)), none));
}
  where
    under : (z : ℕ) → IsBidBefore sets e (suc t) z → y ≤ z
    under z (u, s, lt, b, is) =
        elim (cases_lt u t) [
          | inl earlier ↦ omega (arith, lower r bids_r, bid-later u t r s earlier (omega (arith, Bids-round sets e t r bids_r)) (omega (arith, bids_r.in_range)), is)
          | inr late ↦
              let now : u ≡ t = omega arith in
              let least : y ≤ bid t s = lower s (subst (λ k. Bids sets e k s) now b) in
              omega (arith, least, is, ap (λ k. bid k s) now)
        ]

-- a covered element gets no bid more
least_kept : (sets : List (List ℕ)) (t e x : ℕ) → Contains (covered_before sets t) e → IsLeastOrNone (IsBidBefore sets e t) x → IsLeastOrNone (IsBidBefore sets e (suc t)) x
least_kept sets t e x covered old = record {
  least = λ some. record {
    holds = let (u, s, lt, b, is) = (old.least some).holds in (u, s, omega arith, b, is);
    least = λ z is. (old.least some).least z (before z is);
  };
  none = λ none z is. old.none none z (before z is);
}
  where
    before : (z : ℕ) → IsBidBefore sets e (suc t) z → IsBidBefore sets e t z
    before z (u, s, lt, b, is) =
        elim (cases_lt u t) [
          | inl earlier ↦ (u, s, earlier, b, is)
          | inr late ↦ let now : u ≡ t = omega arith in absurd ((subst (λ k. Bids sets e k s) now b).open' covered)
        ]

-- a round in which sets bid, and in which an element that it covers is lowered to the least of all bids for it
pub word_step : (sets : List (List ℕ)) (t e x y : ℕ) → length sets ≤ MAX_N → IsBidWord sets e t x → (y ≡ x) ⊎ ((s : ℕ) × Bids sets e t s × (y ≡ bid t s)) →
    ((q : ℕ) → Contains (chosen_in sets t) q → Contains (set_at sets q) e → (s : ℕ) → Bids sets e t s → y ≤ bid t s) → IsBidWord sets e (suc t) y
word_step sets t e x y few old each lower = record {
  held = bid_held sets t e x y old.held each;
  least = λ covered'.
      elim (member_cases (covered_before sets t) e) [
        | inl covered ↦
            let same : y ≡ x = elim each [ inl kept ↦ kept | inr (s, b, is) ↦ absurd (b.open' covered) ] in
            subst (IsLeastOrNone (IsBidBefore sets e (suc t))) (sym same) (least_kept sets t e x covered (old.least covered))
        | inr open' ↦ elim (covered-cases sets t e (has-from_Contains (covered_before sets (suc t)) e covered')) [
          | inl covered ↦ absurd (open' (Contains-from_has (covered_before sets t) e covered))
          | inr (q, is, held) ↦
              let there : Contains (chosen_in sets t) q = Contains-from_has (chosen_in sets t) q is in
              let in_set : Contains (set_at sets q) e = Contains-from_has (set_at sets q) e held in
              let (lt, active, half) = chosen_is sets t q there in
              least_now sets t e x y few old.held each q (record { in_range = lt; active = active; held = in_set; open' = open' }) (lower q there in_set)
        ]
      ];
}

-- ---- the words of the owners: a word that was NONE and is the least of some numbers, or none
pub least_owner : (P : ℕ → Type 0) (n x : ℕ) → n ≤ MAX_N → ((s : ℕ) → P s → s < n) → (x ≡ NONE) ⊎ P x → ((s : ℕ) → P s → x ≤ s) → IsLeastOrNone P x
least_owner P n x few in_range each lower = record {
  least = λ some. record { holds = elim each [ inl none ↦ absurd (some none) | inr held ↦ held ]; least = lower };
  none = λ none s held. absurd (omega (arith, lower s held, in_range s held, none));
}
