-- The least of all bids for an element is that of its winner in the last round in which it had one.
use Rattle.std.proofs.Common.{◌≡◌, ◌≢◌, ℕ, suc, ◌+◌, ◌-◌, ◌*◌, ◌^◌, ◌<◌, ◌≤◌, Bool, true, false, not, ◌&&◌, eqb, List, length, ◌∙◌, ap, subst, refl, arith, inl, inr}
use Rattle.std.specs.List.{count_by}
use Rattle.std.proofs.Math.Nat.{mul-le-mul_right}
use Rattle.std.proofs.lemmas.Bool.{cases_lt, both_ways, and_parts, and_from, not-true, not_from_false, eqb-true, eq-eqb, false_from_ne_true}
use Rattle.jul_base.specs.declared.limits.TheConstants.{NONE, MAX_N}
use Rattle.jul_base.specs.Numbers.{IsLeastOrNone}
use Rattle.jul_base.specs.Sets.{has}
use Rattle.jul_base.proofs.SetLaws.{Contains-from_has, has-from_Contains}
use Rattle.jul_base.specs.CoverRounds.{set_at, greatest_size, is_active, wins, won, covered_before}
use Rattle.jul_cover.specs.CoverBids.{bid, Bids, IsWinner, IsLastBid, IsBidBefore}
use Rattle.jul_base.proofs.CountLaws.{count_by-le_in}
use Rattle.jul_base.proofs.CoverRoundLaws.{size-le-greatest, active-positive, wins-winner, winner-first, one_wins, some_wins}
use Rattle.jul_base.proofs.CoverFallLaws.{greatest_falls}
use Rattle.jul_base.proofs.CoverEndLaws.{round-below}

-- a later round bids less, whichever sets bid
pub bid-later : (t u r s : ℕ) → t < u → u < 2 ^ 32 → r < 2 ^ 32 → bid u r < bid t s
bid-later t u r s later few r_lt =
    let step : 2 ^ 32 - 1 - u + 1 ≤ 2 ^ 32 - 1 - t = omega arith in
    let fewer : (2 ^ 32 - 1 - u + 1) * 2 ^ 32 ≤ (2 ^ 32 - 1 - t) * 2 ^ 32 = mul-le-mul_right (2 ^ 32) step in
    omega arith

-- each bid is less than NONE
pub bid_some : (t s : ℕ) → s < MAX_N → bid t s < NONE
bid_some t s s_lt =
    let less : 2 ^ 32 - 1 - t ≤ 2 ^ 32 - 1 = omega arith in
    let at_most : (2 ^ 32 - 1 - t) * 2 ^ 32 ≤ (2 ^ 32 - 1) * 2 ^ 32 = mul-le-mul_right (2 ^ 32) less in
    omega arith

-- only the first n rounds have bids
pub Bids-round : (sets : List (List ℕ)) (e t s : ℕ) → Bids sets e t s → t < length sets
Bids-round sets e t s bids =
    let positive : 0 < greatest_size sets (covered_before sets t) =
    omega (arith, active-positive sets (covered_before sets t) s bids.active, size-le-greatest sets (covered_before sets t) s bids.in_range) in
    round-below sets t positive

-- where every size is 0 before round t, no round from t on has a bid
pub Bids-before : (sets : List (List ℕ)) (e t u s : ℕ) → greatest_size sets (covered_before sets t) ≡ 0 → Bids sets e u s → u < t
Bids-before sets e t u s none bids =
    elim (cases_lt u t) [
      | inl earlier ↦ earlier
      | inr late ↦
          absurd (omega (
            arith,
            greatest_falls sets t u late,
            none,
            active-positive sets (covered_before sets u) s bids.active,
            size-le-greatest sets (covered_before sets u) s bids.in_range,
          ))
    ]

-- a winner bids
pub Bids-from_winner : (sets : List (List ℕ)) (e t s : ℕ) → IsWinner sets e t s → Bids sets e t s
Bids-from_winner sets e t s is =
    let (open', winner') = wins-winner sets (covered_before sets t) s e is in
    let (first, lt) = winner-first sets (covered_before sets t) s e winner' in
    let (active, held) = and_parts (is_active sets (covered_before sets t) s) (has (set_at sets s) e) first.passes in
    record {
      in_range = lt;
      active = active;
      held = Contains-from_has (set_at sets s) e held;
      open' = λ covered. both_ways _ open' (has-from_Contains (covered_before sets t) e covered);
    }

-- of those that bid, some set up to each is the winner
pub winner-from_bids : (sets : List (List ℕ)) (e t s : ℕ) → Bids sets e t s → (r : ℕ) × IsWinner sets e t r × (r ≤ s)
winner-from_bids sets e t s bids =
    some_wins sets (covered_before sets t) s e bids.in_range bids.active (has-from_Contains (set_at sets s) e bids.held)
    (false_from_ne_true _ (λ covered. bids.open' (Contains-from_has (covered_before sets t) e covered)))

-- x is the bid of a set that bids for e in some round
abbrev pub IsSomeBid : List (List ℕ) → ℕ → ℕ → Type 0
IsSomeBid sets e x = (t : ℕ) × (s : ℕ) × Bids sets e t s × (x ≡ bid t s)

pub IsLastBid-from_least : (sets : List (List ℕ)) (e x : ℕ) → length sets ≤ MAX_N → IsLeastOrNone (IsSomeBid sets e) x → IsLastBid sets e x
IsLastBid-from_least sets e x few least = record {
  last = λ some.
      let (t, s, bids, is) = (least.least some).holds in
      let (r, wins', le) = winner-from_bids sets e t s bids in
      let at_most : x ≤ bid t r = (least.least some).least (bid t r) (t, r, Bids-from_winner sets e t r wins', refl) in
      let same : r ≡ s = omega arith in (
        t,
        s,
        record {
          holds = (r, wins');
          greatest = λ u (w, wins_w).
              let bids_w : Bids sets e u w = Bids-from_winner sets e u w wins_w in
              let less : x ≤ bid u w = (least.least some).least (bid u w) (u, w, bids_w, refl) in
              elim (cases_lt t u) [
                | inl later ↦ absurd (omega (arith, bid-later t u w s later (omega (arith, Bids-round sets e u w bids_w)) (omega (arith, bids_w.in_range))))
                | inr le' ↦ le'
              ];
        },
        subst (λ k. IsWinner sets e t k) same wins',
        is,
      );
  none = λ none t s wins'. least.none none (bid t s) (t, s, Bids-from_winner sets e t s wins', refl);
}

-- ---- the words while the rounds go on: each is the least of the bids so far

-- where some set bids for e in round t, the word is the bid of the winner of this round
pub bid_now : (sets : List (List ℕ)) (e t x s : ℕ) → length sets ≤ MAX_N → IsLeastOrNone (IsBidBefore sets e (suc t)) x → Bids sets e t s →
    (r : ℕ) × IsWinner sets e t r × (x ≡ bid t r)
bid_now sets e t x s few least bids =
    let some : x ≢ NONE = λ none. least.none none (bid t s) (t, s, omega arith, bids, refl) in
    let (u, r, le, bids_r, is) = (least.least some).holds in
    let (w, wins_w, w_le) = winner-from_bids sets e t s bids in
    let at_most : x ≤ bid t w = (least.least some).least (bid t w) (t, w, omega arith, Bids-from_winner sets e t w wins_w, refl) in
    elim (cases_lt u t) [
      | inl earlier ↦
          absurd (omega (arith, bid-later u t w r earlier (omega (arith, Bids-round sets e t s bids)) (omega (arith, (Bids-from_winner sets e t w wins_w).in_range))))
      | inr late ↦
          let now : u ≡ t = omega arith in
          let (v, wins_v, v_le) = winner-from_bids sets e t r (subst (λ k. Bids sets e k r) now bids_r) in
          let same : v ≡ w = one_wins sets (covered_before sets t) v w e wins_v wins_w in
          let is_now : x ≡ bid t r = is ∙ ap (λ k. bid k r) now in
          let is_w : r ≡ w = omega arith in
          (w, wins_w, is_now ∙ ap (bid t) is_w)
    ]

-- so the elements that a set wins are those of its own that have its bid
pub won-by_words : (sets : List (List ℕ)) (word : ℕ → ℕ) (t s : ℕ) → length sets ≤ MAX_N → s < length sets → is_active sets (covered_before sets t) s ≡ true →
    ((e : ℕ) → has (set_at sets s) e ≡ true → has (covered_before sets t) e ≡ false → IsLeastOrNone (IsBidBefore sets e (suc t)) (word e)) →
    count_by (λ e. not (has (covered_before sets t) e) && eqb (word e) (bid t s)) (set_at sets s) ≡ won sets (covered_before sets t) s
unfolding won
won-by_words sets word t s few lt active least =
    let c : List ℕ = covered_before sets t in
    let test : ℕ → Bool = λ e. not (has c e) && eqb (word e) (bid t s) in
    let known : (e : ℕ) → has (set_at sets s) e ≡ true → has c e ≡ false → (r : ℕ) × IsWinner sets e t r × (word e ≡ bid t r) =
    λ e held open'.
    bid_now sets e t (word e) s few (least e held open')
    (record {
      in_range = lt;
      active = active;
      held = Contains-from_has (set_at sets s) e held;
      open' = λ covered. both_ways _ open' (has-from_Contains c e covered);
    }) in
    let up : count_by test (set_at sets s) ≤ count_by (wins sets c s) (set_at sets s) = count_by-le_in test (wins sets c s) (set_at sets s) (λ e held is.
    let (open', same) = and_parts (not (has c e)) (eqb (word e) (bid t s)) is in
    let (r, wins_r, word_is) = known e held (not-true _ open') in
    let one : r ≡ s = omega (arith, eqb-true _ _ same, word_is) in
    subst (λ k. wins sets c k e ≡ true) one wins_r) in
    let down : count_by (wins sets c s) (set_at sets s) ≤ count_by test (set_at sets s) = count_by-le_in (wins sets c s) test (set_at sets s) (λ e held wins_s.
    let open' : has c e ≡ false = (wins-winner sets c s e wins_s).0 in
    let (r, wins_r, word_is) = known e held open' in
    let one : r ≡ s = one_wins sets c r s e wins_r wins_s in
    and_from _ _ (not_from_false _ open') (eq-eqb _ _ (word_is ∙ ap (bid t) one))) in
    omega arith

-- the words after the last round
pub IsLastBid-from_words : (sets : List (List ℕ)) (e t x : ℕ) → length sets ≤ MAX_N → greatest_size sets (covered_before sets t) ≡ 0 →
    IsLeastOrNone (IsBidBefore sets e t) x → IsLastBid sets e x
IsLastBid-from_words sets e t x few none word =
    IsLastBid-from_least sets e x few (record {
      least = λ some.
          let (u, s, lt, bids, is) = (word.least some).holds in
          record { holds = (u, s, bids, is); least = λ y (v, r, bids_r, is_r). (word.least some).least y (v, r, Bids-before sets e t v r none bids_r, bids_r, is_r) };
      none = λ no y (v, r, bids_r, is_r). word.none no y (v, r, Bids-before sets e t v r none bids_r, bids_r, is_r);
    })
