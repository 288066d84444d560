-- Where the rounds start, and what stands at the end.
use Rattle.std.proofs.Common.{◌≡◌, ◌≢◌, ℕ, ◌<◌, ◌≤◌, not, List, length, get_or, replicate, refl, ap, sym, ◌∙◌, subst, arith, inl, inr}
use Rattle.std.specs.List.{filter}
use Rattle.std.proofs.lemmas.Bool.{cases_lt, cond-true, cond-false, eq-eqb, ne_eqb}
use Rattle.std.proofs.lemmas.List.{length-replicate, get_or-replicate, get_or_past}
use Rattle.std.proofs.lemmas.List.Sums.{count_by-le-length}
use Rattle.jul_base.specs.declared.limits.TheConstants.{NONE, MAX_N}
use Rattle.jul_base.specs.declared.results.Cover.{Cover}
use Rattle.jul_base.specs.Logs.{Home}
use Rattle.jul_base.specs.Numbers.{IsLeastOrNone}
use Rattle.jul_base.specs.Sets.{has, AreSets}
use Rattle.jul_base.specs.CoverRounds.{set_at, size, greatest_size, floor_log2, covered_before, IsCover, IsRound, IsCoveredBy, IsRoundCount}
use Rattle.jul_base.proofs.CoverEndLaws.{element_covered}
use Rattle.jul_base.proofs.PowerLaws.{floor_log2-le}
use Rattle.jul_base.proofs.SetLaws.{Contains-from_has, member_cases}
use Rattle.jul_base.proofs.CoverRoundLaws.{greatest_is}
use Rattle.jul_words.specs.Seats.{Seat, floor_of, home, rooted}
use Rattle.jul_words.specs.Least.{word_of}
use Rattle.jul_bucket.specs.declared.orders.Order.TheVariants.{Decreasing}
use Rattle.jul_bucket.specs.Places.{AllNone}
use Rattle.jul_bucket.specs.States.{State}
use Rattle.jul_subset.proofs.IncreasingLaws.{length_below}
use Rattle.jul_cover.specs.declared.packed_sets.PackedSets.{PackedSets}
use Rattle.jul_cover.specs.PackedSets.{pack_at, ArePacked}
use Rattle.jul_cover.specs.Offers.{IsRootOf}
use Rattle.jul_cover.specs.CoverBids.{IsLastBid, IsBidBefore}
use Rattle.jul_cover.specs.CoverBounds.{IsSmallCover}
use Rattle.jul_cover.specs.CoverDraws.{HaveDraws}
use Rattle.jul_cover.specs.CoverMoves.{AreSizes}
use Rattle.jul_cover.specs.CoverWork.{At, IsCovering, IsStored, IsOwner, IsRoundBefore}
use Rattle.jul_cover.proofs.CoverBidLaws.{IsLastBid-from_words}
use Rattle.jul_cover.proofs.CoverBoundLaws.{small_cover}
use Rattle.jul_cover.proofs.CoverStepLaws.{IsRoundBefore-zero, IsRound-from_before, IsOwner-zero, IsCoveredBy-from_words}
use Rattle.jul_cover.proofs.RoundLaws.{log_le}

-- ---- the start

zeros_at : (n v : ℕ) → get_or {A = ℕ} (replicate n 0) v 0 ≡ 0
zeros_at n v = elim (cases_lt v n) [
  | inl lt ↦ get_or-replicate n v 0 0 lt
  | inr past ↦ get_or_past (replicate n 0) v 0 (omega (arith, past, length-replicate {A = ℕ} n 0))
]

root_at : (n : ℕ) (table : List ℕ) (seat : Seat) → seat ≡ rooted (home table (replicate n NONE) (replicate n 0)) → IsRootOf n table seat
root_at n table seat is = record {
  of_table = ap (λ (s : Seat). s.home.table) is;
  is_table = record {
    words = ap (λ (s : Seat). length s.home.starts) is ∙ length-replicate n NONE;
    no_floors = λ v. ap (λ (s : Seat). floor_of s.home v) is ∙ zeros_at n v;
  };
  alone = (ap (λ (s : Seat). s.root) is, ap (λ (s : Seat). s.out) is);
}

word_none : (n : ℕ) (table : List ℕ) (seat : Seat) (e : ℕ) → seat ≡ rooted (home table (replicate n NONE) (replicate n 0)) → e < n → word_of seat e ≡ NONE
word_none n table seat e is lt = ap (λ (s : Seat). word_of s e) is ∙ get_or-replicate n e NONE 0 lt

size_le_length : (sets : List (List ℕ)) (c : List ℕ) (s : ℕ) → size sets c s ≤ length (set_at sets s)
unfolding size
size_le_length sets c s = count_by-le-length (λ e. not (has c e)) (set_at sets s)

module _ (sets : List (List ℕ)) (are : AreSets sets) (few : length sets ≤ MAX_N) where
  module _ (places : List ℕ) (sizes : AreSizes sets places) where
    place_is : (x : ℕ) → x < length sets → 0 < length (set_at sets x) → (get_or places x 0 ≡ floor_log2 (length (set_at sets x))) × (get_or places x 0 < NONE)
    place_is x lt some =
        let is : get_or places x 0 ≡ floor_log2 (length (set_at sets x)) =
        sizes.each x lt ∙ cond-false _ _ _ (ne_eqb (length (set_at sets x)) 0 (λ none. absurd (omega (arith, some, none)))) in
        let short : length (set_at sets x) ≤ length sets = length_below (set_at sets x) (length sets) (are.increasing x lt) (are.within x lt) in
        (is, omega (arith, is, log_le (length (set_at sets x)), short))

    stored_first : (c : List ℕ) (x : ℕ) → x < length sets → 0 < size sets c x → IsStored sets c places x
    stored_first c x lt some =
        let short : size sets c x ≤ length (set_at sets x) = size_le_length sets c x in
        let (is, low) = place_is x lt (omega arith) in
        record { some = λ none. absurd (omega (arith, low, none)); high = omega (arith, is, floor_log2-le (size sets c x) (length (set_at sets x)) short) }

    low_first : (x : ℕ) → x < length sets → get_or places x 0 ≢ NONE → get_or places x 0 < NONE
    low_first x lt some =
        elim (cases_lt 0 (length (set_at sets x))) [
          | inl left ↦ (place_is x lt left).1
          | inr empty ↦
              let none : length (set_at sets x) ≡ 0 = omega arith in
              absurd (some (sizes.each x lt ∙ cond-true _ _ _ (eq-eqb _ _ none)))
        ]

  pub starts : (bid_table owner_table : List ℕ) (p : PackedSets) (round by : List ℕ) (bids owners : Seat) (s : State) →
      bids ≡ rooted (home bid_table (replicate (length sets) NONE) (replicate (length sets) 0)) → owners ≡ rooted (home owner_table (replicate (length sets) NONE) (replicate (length sets) 0)) →
      s.order ≡ Decreasing → AreSizes sets s.places → p.n ≡ length sets → ArePacked p → ((x : ℕ) → x < length sets → pack_at p x ≡ set_at sets x) →
      round ≡ replicate (length sets) NONE → by ≡ replicate (length sets) NONE → IsCovering sets bid_table owner_table bids.home owners.home p round by (record { round = 0; bids = bids; owners = owners }) s
  starts bid_table owner_table p round by bids owners s bids_are owners_are order sizes n well packs round_is by_is =
      let none_at : (column : List ℕ) (e : ℕ) → column ≡ replicate (length sets) NONE → e < length sets → get_or column e 0 ≡ NONE =
      λ column e is lt. ap (λ l. get_or l e 0) is ∙ get_or-replicate (length sets) e NONE 0 lt in
      record {
        n = n;
        packed_well = well;
        packs = λ x lt. ap (filter (λ e. not (has (covered_before sets 0) e))) (packs x lt);
        few = omega arith;
        bid_root = root_at (length sets) bid_table bids bids_are;
        owner_root = root_at (length sets) owner_table owners owners_are;
        bid_home_is = refl;
        owner_home_is = refl;
        round_size = ap length round_is ∙ length-replicate (length sets) NONE;
        by_size = ap length by_is ∙ length-replicate (length sets) NONE;
        bids = λ e lt. record {
          held = λ some. absurd (some (word_none (length sets) bid_table bids e bids_are lt));
          least = λ _. record {
            least = λ some. absurd (some (word_none (length sets) bid_table bids e bids_are lt));
            none = λ _ y (u, r, u_lt, b, is). omega arith;
          };
        };
        owners = λ e lt. subst (IsLeastOrNone (IsOwner sets e 0)) (sym (none_at by e by_is lt)) (IsOwner-zero sets e);
        by_words = λ e lt. word_none (length sets) owner_table owners e owners_are lt ∙ sym (none_at by e by_is lt);
        rounds = λ x lt. subst (IsRoundBefore sets 0 x) (sym (none_at round x round_is lt)) (IsRoundBefore-zero sets x);
        order = order;
        places_size = sizes.size;
        stored = stored_first s.places sizes (covered_before sets 0);
        low = low_first s.places sizes;
        made = λ u lt. absurd (omega (arith, lt));
        draws = tt;
      }

  -- ---- the end

  module _ (bid_table owner_table : List ℕ) (bid_home owner_home : Home) (p : PackedSets) (round by : List ℕ) (at : At) (s : State)
      (h : IsCovering sets bid_table owner_table bid_home owner_home p round by at s) (none : AllNone s.places) where
    all_covered : greatest_size sets (covered_before sets at.round) ≡ 0
    all_covered =
        elim (cases_lt 0 (greatest_size sets (covered_before sets at.round))) [
          | inr empty ↦ omega arith
          | inl some ↦
              let (x, lt, is) = greatest_is sets (covered_before sets at.round) some in
              let stored : IsStored sets (covered_before sets at.round) s.places x = h.stored x lt (omega (arith, is)) in
              let in_range : x < length s.places = omega (arith, h.places_size) in
              absurd (stored.some (none x 0 in_range))
        ]

    pub is_cover : (cover : Cover) → cover.round ≡ round → cover.by ≡ by → IsCover sets cover
    is_cover cover round_is by_is = record {
      round = record {
        size = ap length round_is ∙ h.round_size;
        each = λ x lt. subst (IsRound sets x) (ap (λ l. get_or l x 0) (sym round_is))
            (IsRound-from_before sets at.round x (get_or round x 0) all_covered (h.rounds x lt));
      };
      by = record {
        size = ap length by_is ∙ h.by_size;
        each = λ e lt. subst (IsCoveredBy sets e) (ap (λ l. get_or l e 0) (sym by_is))
            (IsCoveredBy-from_words sets e at.round (get_or by e 0) all_covered (h.owners e lt));
      };
    }

    pub is_small : (cover : Cover) → cover.round ≡ round → cover.by ≡ by → IsSmallCover sets cover.round
    is_small cover round_is by_is = small_cover sets are cover.round (is_cover cover round_is by_is).round

    pub last_bids : (e : ℕ) → e < length sets → IsLastBid sets e (word_of at.bids e)
    last_bids e lt = IsLastBid-from_words sets e at.round (word_of at.bids e) few all_covered least where
      least : IsLeastOrNone (IsBidBefore sets e at.round) (word_of at.bids e)
      least =
          elim (member_cases (covered_before sets at.round) e) [
            | inl covered ↦ (h.bids e lt).least covered
            | inr open' ↦
                let no_bid : (z : ℕ) → IsBidBefore sets e at.round z → ⊥ =
                λ z (u, r, u_lt, b, is).
                open' (Contains-from_has (covered_before sets at.round) e (element_covered sets at.round e all_covered (r, b.in_range, b.held))) in
                record { least = λ some. absurd (no_bid (word_of at.bids e) ((h.bids e lt).held some)); none = λ _. no_bid }
          ]

    pub all_draws : (t : ℕ) × IsRoundCount sets t × HaveDraws sets s.draws t
    all_draws = (
      at.round,
      record {
        holds = all_covered;
        least = λ u is.
            elim (cases_lt u at.round) [
              | inl earlier ↦ absurd (omega (arith, h.made u earlier, is))
              | inr late ↦ late
            ];
      },
      h.draws,
    )

    pub owner_words : (column : List ℕ) → column ≡ by → (e : ℕ) → e < length sets → word_of at.owners e ≡ get_or column e 0
    owner_words column is e lt = h.by_words e lt ∙ ap (λ l. get_or l e 0) (sym is)
