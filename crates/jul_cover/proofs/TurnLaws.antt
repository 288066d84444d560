-- A turn of the loop: what it asks for holds, and what the loop carries holds after it.
use Rattle.std.proofs.Common.{◌≡◌, ◌≢◌, ◌⊎◌, ℕ, zero, suc, ◌+◌, ◌*◌, ◌^◌, ◌<◌, ◌≤◌, Bool, true, false, not, eqb, leb, cond, List, [], ◌∷◌, ◌++◌, length, get_or, refl, sym, ap, ◌∙◌, subst, arith, inl, inr, Vec, Global}
use Rattle.std.specs.Prelude.{MatchOption, Option, Some}
use Rattle.std.specs.List.{filter, flat_map, All, Contains}
use Rattle.std.specs.List.Sorted.{IsStrictlyIncreasing}
use Rattle.std.proofs.lemmas.Bool.{cases_eq, cases_lt, both_ways, cond-true, cond-false, eq-eqb, ne_eqb, le-leb, leb-true, not_from_false, not_from_true, not-true, false_from_ne_true}
use Rattle.std.proofs.lemmas.List.{get_or_default}
use Rattle.std.proofs.lemmas.List.Elements.{All-contains}
use Rattle.jul_base.specs.declared.limits.TheConstants.{NONE, MAX_N}
use Rattle.jul_base.specs.Logs.{Home}
use Rattle.jul_base.specs.Numbers.{IsLeastOrNone}
use Rattle.jul_base.specs.Sets.{has, AreSets}
use Rattle.jul_base.specs.CoverRounds.{set_at, size, greatest_size, floor_log2, is_active, won, covered_before, chosen_in}
use Rattle.jul_base.specs.CoverRounds.{bucket as bucket_of}
use Rattle.std.proofs.lemmas.Nat.{pow_pos}
use Rattle.jul_base.proofs.CoverEndLaws.{round-below}
use Rattle.jul_base.proofs.CoverRoundLaws.{size-le, size-le-greatest, is_active-size, some_chosen}
use Rattle.std.proofs.Math.Nat.{pow-le-pow_right}
use Rattle.jul_base.proofs.PowerLaws.{power-le, floor_log2-le}
use Rattle.jul_base.proofs.CoverFallLaws.{flat_map-has, covered-kept, chosen-done}
use Rattle.jul_base.proofs.PeelLaws.{IsWithin}
use Rattle.jul_base.proofs.SetLaws.{Contains-from_has, has-from_Contains, Contains-filter, Contains-from_filter, member_cases}
use Rattle.jul_words.specs.Seats.{Seat, IsAlone}
use Rattle.jul_words.specs.Least.{word_of}
use Rattle.jul_bucket.specs.declared.draws.Draw.{Draw}
use Rattle.jul_bucket.specs.declared.orders.Order.{Order}
use Rattle.jul_bucket.specs.declared.orders.Order.TheVariants.{Decreasing}
use Rattle.jul_bucket.specs.Orders.{IsNotBehind}
use Rattle.jul_bucket.specs.Places.{ids_at, emptied, set_places, AllNone, IsFirstHeld}
use Rattle.jul_bucket.specs.States.{State, IsDrawn}
use Rattle.jul_bucket.proofs.IdLaws.{Contains-ids_at, ids_at-Contains, IsStrictlyIncreasing-ids_at, length-emptied, emptied-here, emptied-other, length-set_places}
use Rattle.jul_cover.specs.declared.packed_sets.PackedSets.{PackedSets}
use Rattle.jul_cover.specs.PackedSets.{pack_at, is_open, HasPacked}
use Rattle.jul_cover.specs.Offers.{IsRootOf, IsTable, HasOffered}
use Rattle.jul_cover.specs.Choosing.{active_of, held_by, chosen_of}
use Rattle.jul_cover.specs.CoverMoves.{place_for, next_place, moves_of}
use Rattle.jul_cover.specs.CoverDraws.{HaveDraws}
use Rattle.jul_cover.proofs.ColumnLaws.{not_in_nil}
use Rattle.jul_cover.proofs.MoveLaws.{place_moved, place_kept, falls_at}
use Rattle.jul_cover.specs.CoverBids.{bid, bid_base, Bids, IsBidWord}
use Rattle.jul_cover.specs.CoverWork.{At, IsCovering, IsStored, CanTurn, HasGiven, packed, remaining, next_round, IsOwner, IsRoundBefore}
use Rattle.jul_cover.proofs.CoverOwnerLaws.{owner-covered, covered-owner}
use Rattle.jul_cover.proofs.CoverDrawLaws.{AreStored, bucket-stored, active-stored, HaveDraws-push, HaveDraws-append}
use Rattle.jul_cover.proofs.CoverLeftLaws.{set_at-within}
use Rattle.jul_cover.proofs.CoverPackLaws.{length-packed, packed-parts, packed-from, packed_again, won-by_packed, filter_again}
use Rattle.jul_cover.proofs.CoverStepLaws.{IsRoundBefore-chosen, IsRoundBefore-kept, IsOwner-kept, IsOwner-new}
use Rattle.jul_cover.proofs.RoundLaws.{filter_in, log_zero, active_from, chosen_from, chosen_is, word_step, least_now, least_owner}

nil_of : (xs : List ℕ) → length xs ≡ 0 → xs ≡ []
nil_of [] none = refl
nil_of (x ∷ xs) none = absurd (omega arith)

-- a turn in which some set is active is a round
pub some_round : (t : ℕ) (active : List ℕ) (one : ℕ) → Contains active one → next_round t active ≡ suc t
some_round t active one (k, lt, is) =
    let some : length active ≢ 0 = λ none. absurd (omega (arith, lt, none)) in
    cond-false _ _ _ (ne_eqb (length active) 0 some) ∙ omega arith

-- a bucket was drawn
pub drawn_at : (s mid : State) (o : Option (ℕ × Vec ℕ Global)) (b : ℕ) (ids : Vec ℕ Global) → o ≡ Some (b, ids) →
    MatchOption o (AllNone s.places × (mid ≡ s)) (λ d. IsDrawn s d.0 d.1.items mid) → IsDrawn s b ids.items mid
drawn_at s mid o b ids is h = subst (λ x. MatchOption x (AllNone s.places × (mid ≡ s)) (λ d. IsDrawn s d.0 d.1.items mid)) is h

-- what a turn's bids came to: who was chosen, the number of the next round, and the words of the bids
pub record IsSettled (sets : List (List ℕ)) (active chosen : List ℕ) (at at' : At) : Type 0 where
  pub bid_home : at'.bids.home ≡ at.bids.home
  pub bid_alone : IsAlone at'.bids
  pub bids : (one : ℕ) → Contains active one → (e : ℕ) → e < length sets → IsBidWord sets e (suc at.round) (word_of at'.bids e)
  pub chosen_to : (one : ℕ) → Contains active one → (x : ℕ) → Contains chosen x → Contains (chosen_in sets at.round) x
  pub chosen_back : (one : ℕ) → Contains active one → (x : ℕ) → Contains (chosen_in sets at.round) x → Contains chosen x
  pub round_some : (one : ℕ) → Contains active one → at'.round ≡ suc at.round
  pub chosen_none : active ≡ [] → chosen ≡ []
  pub round_none : active ≡ [] → at'.round ≡ at.round
  pub bids_none : active ≡ [] → (e : ℕ) → word_of at'.bids e ≡ word_of at.bids e

module _ (sets : List (List ℕ)) (are : AreSets sets) (few : length sets ≤ MAX_N) (bid_table owner_table : List ℕ) (bid_home owner_home : Home) (p : PackedSets) (round by : List ℕ) (at : At) (s : State)
    (h : IsCovering sets bid_table owner_table bid_home owner_home p round by at s) where
  abbrev c : List ℕ
  c = covered_before sets at.round

  abbrev n : ℕ
  n = length sets

  pub covered_by : (e : ℕ) → e < n → get_or by e 0 ≢ NONE → has c e ≡ true
  covered_by e lt some = owner-covered sets e at.round (get_or by e 0) (h.owners e lt) some

  pub open_by : (e : ℕ) → e < n → get_or by e 0 ≡ NONE → has c e ≡ false
  open_by e lt none = false_from_ne_true _ (λ covered. covered-owner sets e at.round (get_or by e 0) (h.owners e lt) covered none)

  open_is : (e : ℕ) → e < n → is_open by e ≡ not (has c e)
  open_is e lt =
      elim (cases_eq (get_or by e 0) NONE) [
        | inl none ↦ eq-eqb _ _ none ∙ sym (not_from_false _ (open_by e lt none))
        | inr some ↦ ne_eqb _ _ some ∙ sym (not_from_true _ (covered_by e lt some))
      ]

  in_pack : (x e : ℕ) → x < n → has (pack_at p x) e ≡ true → e < n
  in_pack x e lt held =
      let in_range : x < p.n = omega (arith, h.n) in
      let within : e < p.n = All-contains (λ y. y < p.n) (pack_at p x) e (h.packed_well.within x in_range) (Contains-from_has (pack_at p x) e held) in
      omega (arith, h.n)

  -- what is kept of a set are the elements that aren't covered
  pub packed_open : (x : ℕ) → x < n → filter (is_open by) (pack_at p x) ≡ packed sets c x
  packed_open x lt = filter_in (is_open by) (λ e. not (has c e)) (pack_at p x) (λ e held. open_is e (in_pack x e lt held)) ∙ h.packs x lt

  module _ (bucket : ℕ) (drawn : List ℕ) (mid : State) (d : IsDrawn s bucket drawn mid) where
    -- ---- the draw

    pub places_are : mid.places ≡ emptied s.places bucket
    places_are = ap (λ (s : State). s.places) d.after

    pub first : IsFirstHeld Decreasing s.places bucket
    first = subst (λ (o : Order). IsFirstHeld o s.places bucket) h.order d.first

    pub most : (x : ℕ) → x < n → get_or s.places x 0 ≢ NONE → get_or s.places x 0 ≤ bucket
    most x lt some =
        let in_range : x < length s.places = omega (arith, h.places_size) in
        let behind : IsNotBehind Decreasing (get_or s.places x 0) bucket = first.first x 0 in_range some in
        omega (arith, behind, h.low x lt some, first.is_bucket)

    pub drawn_from : (x : ℕ) → x < n → get_or s.places x 0 ≡ bucket → Contains drawn x
    drawn_from x lt is =
        let in_range : x < length s.places = omega (arith, h.places_size) in
        subst (λ l. Contains l x) (sym d.ids_are) (Contains-ids_at s.places bucket x in_range is)

    pub drawn_is : (x : ℕ) → Contains drawn x → (x < n) × (get_or s.places x 0 ≡ bucket)
    drawn_is x there =
        let (lt, is) = ids_at-Contains s.places bucket x (subst (λ l. Contains l x) d.ids_are there) in
        (omega (arith, h.places_size), is)

    pub mid_drawn : (x : ℕ) → Contains drawn x → get_or mid.places x 0 ≡ NONE
    mid_drawn x there =
        let (lt, is) = ids_at-Contains s.places bucket x (subst (λ l. Contains l x) d.ids_are there) in
        ap (λ l. get_or l x 0) places_are ∙ emptied-here s.places bucket x lt is

    pub mid_other : (x : ℕ) → x < n → (Contains drawn x → ⊥) → get_or mid.places x 0 ≡ get_or s.places x 0
    mid_other x lt other =
        let in_range : x < length s.places = omega (arith, h.places_size) in
        ap (λ l. get_or l x 0) places_are ∙ emptied-other s.places bucket x in_range (λ is. other (drawn_from x lt is))

    pub mid_size : length mid.places ≡ n
    mid_size = ap length places_are ∙ length-emptied s.places bucket ∙ h.places_size

    -- no drawn set is larger than its bucket says
    pub small : (x : ℕ) → Contains drawn x → floor_log2 (size sets c x) ≤ bucket
    small x there =
        let (lt, is) = drawn_is x there in
        elim (cases_lt 0 (size sets c x)) [
          | inl some ↦ omega (arith, (h.stored x lt some).high, is)
          | inr none ↦ let zero_size : size sets c x ≡ 0 = omega arith in omega (arith, ap floor_log2 zero_size, log_zero)
        ]

    each_drawn : (P : ℕ → Type 0) → ((x : ℕ) → Contains drawn x → P x) → All P drawn
    each_drawn P each k e lt =
        let x : ℕ = get_or drawn k e in
        each (get_or drawn k e) (k, lt, get_or_default drawn k (get_or drawn k e) e lt)

    pub can_turn : CanTurn bid_table owner_table bucket drawn p round by at mid
    can_turn = record {
      packed_well = h.packed_well;
      increasing = subst IsStrictlyIncreasing (sym d.ids_are) (IsStrictlyIncreasing-ids_at s.places bucket);
      in_range = each_drawn (λ x. x < p.n) (λ x there. omega (arith, (drawn_is x there).0, h.n));
      few = omega (arith, h.few);
      bid_root = subst (λ k. IsRootOf k bid_table at.bids) (sym h.n) h.bid_root;
      owner_root = subst (λ k. IsRootOf k owner_table at.owners) (sym h.n) h.owner_root;
      round_size = h.round_size ∙ sym h.n;
      by_size = h.by_size ∙ sym h.n;
      order = ap (λ (s : State). s.order) d.after ∙ h.order;
      front = ap (λ (s : State). s.front) d.after;
      is_bucket = first.is_bucket;
      places_size = mid_size ∙ sym h.n;
      out = each_drawn (λ x. get_or mid.places x 0 ≡ NONE) mid_drawn;
      small = each_drawn (λ x. floor_log2 (length (filter (is_open by) (pack_at p x))) ≤ bucket)
          (λ x there. omega (arith, ap (λ l. floor_log2 (length l)) (packed_open x (drawn_is x there).0), ap floor_log2 (length-packed sets c x), small x there));
    }

    -- ---- the turn

    module _ (p' : PackedSets) (packed' : HasPacked by drawn p p') where
      abbrev active : List ℕ
      active = active_of (pack_at p') bucket drawn

      -- what is left of a drawn set
      pub pack_drawn : (x : ℕ) → Contains drawn x → pack_at p' x ≡ packed sets c x
      pack_drawn x there =
          let (lt, is) = drawn_is x there in
          let in_range : x < p.n = omega (arith, h.n) in
          packed'.here x in_range there ∙ packed_open x lt

      pack_size : (x : ℕ) → Contains drawn x → length (pack_at p' x) ≡ size sets c x
      pack_size x there = ap length (pack_drawn x there) ∙ length-packed sets c x

      still_packed : (x : ℕ) → x < n → filter (λ e. not (has c e)) (pack_at p' x) ≡ packed sets c x
      still_packed x lt =
          let in_range : x < p.n = omega (arith, h.n) in
          elim (member_cases drawn x) [
            | inl there ↦ ap (filter (λ e. not (has c e))) (pack_drawn x there) ∙ packed_again sets c c x (λ e covered. covered)
            | inr other ↦ ap (filter (λ e. not (has c e))) (packed'.other x in_range other) ∙ h.packs x lt
          ]

      -- ---- who is active

      pub active_is : (x : ℕ) → Contains active x → Contains drawn x × (2 ^ bucket ≤ size sets c x)
      active_is x there =
          let (in_drawn, large) = Contains-from_filter (λ y. leb (2 ^ bucket) (length (pack_at p' y))) drawn x there in
          (in_drawn, omega (arith, leb-true (2 ^ bucket) (length (pack_at p' x)) large, pack_size x in_drawn))

      pub active_of_size : (x : ℕ) → Contains drawn x → 2 ^ bucket ≤ size sets c x → Contains active x
      active_of_size x there large =
          Contains-filter (λ y. leb (2 ^ bucket) (length (pack_at p' y))) drawn x there (le-leb (2 ^ bucket) (length (pack_at p' x)) (omega (arith, pack_size x there)))

      stored : AreStored sets c (λ x. get_or s.places x 0) bucket
      stored = record {
        high = λ x lt some. (h.stored x lt some).high;
        most = λ x lt some. most x lt (h.stored x lt some).some;
      }

      -- ---- where some set is active

      module _ (one : ℕ) (is_one : Contains active one) where
        one_is : (one < n) × (0 < size sets c one) × (2 ^ bucket ≤ size sets c one)
        one_is =
            let (in_drawn, large) = active_is one is_one in
            ((drawn_is one in_drawn).0, omega (arith, large, pow_pos bucket), large)

        pub bucket_is : bucket_of sets c ≡ bucket
        bucket_is = bucket-stored sets c (λ x. get_or s.places x 0) bucket stored one one_is.0 one_is.1 one_is.2

        pub positive : 0 < greatest_size sets c
        positive = omega (arith, one_is.1, size-le-greatest sets c one one_is.0)

        early : at.round < n
        early = round-below sets at.round positive

        pub active_in : (x : ℕ) → x < n → is_active sets c x ≡ true → Contains active x
        active_in x lt is =
            let same : get_or s.places x 0 ≡ bucket = active-stored sets c (λ y. get_or s.places y 0) bucket stored bucket_is x lt is in
            let large : 2 ^ bucket ≤ size sets c x = subst (λ k. 2 ^ k ≤ size sets c x) bucket_is (is_active-size sets c x is) in
            active_of_size x (drawn_from x lt same) large

        pub is_active_in : (x : ℕ) → Contains active x → is_active sets c x ≡ true
        is_active_in x there = active_from sets c x bucket bucket_is (active_is x there).1

        pub in_range_of : (x : ℕ) → Contains active x → x < n
        in_range_of x there = (drawn_is x (active_is x there).0).0

        -- who bids
        pub bids_from : (e x : ℕ) → Contains active x → Contains (pack_at p' x) e → Bids sets e at.round x
        bids_from e x there held =
            let (in_set, open') = packed-parts sets c x e (subst (λ l. has l e ≡ true) (pack_drawn x (active_is x there).0) (has-from_Contains (pack_at p' x) e held)) in
            record {
              in_range = in_range_of x there;
              active = is_active_in x there;
              held = Contains-from_has (set_at sets x) e in_set;
              open' = λ covered. both_ways _ open' (has-from_Contains c e covered);
            }

        pub bids_to : (e x : ℕ) → Bids sets e at.round x → Contains active x × Contains (pack_at p' x) e
        bids_to e x b =
            let there : Contains active x = active_in x b.in_range b.active in
            let open' : has c e ≡ false = false_from_ne_true _ (λ covered. b.open' (Contains-from_has c e covered)) in
            let held : has (packed sets c x) e ≡ true = packed-from sets c x e (has-from_Contains (set_at sets x) e b.held) open' in
            (there, Contains-from_has (pack_at p' x) e (subst (λ l. has l e ≡ true) (sym (pack_drawn x (active_is x there).0)) held))

      -- ---- where each active set bid

      module _ (at' : At) (chosen : List ℕ) (bid' : HasOffered active (pack_at p') (bid_base at.round) at.bids at'.bids)
          (chosen_are : chosen ≡ chosen_of (pack_at p') (word_of at'.bids) (bid_base at.round) bucket active) (round_is : at'.round ≡ next_round at.round active) where
        module _ (one : ℕ) (is_one : Contains active one) where
          each_bid : (e : ℕ) → (word_of at'.bids e ≡ word_of at.bids e) ⊎ ((x : ℕ) × Bids sets e at.round x × (word_of at'.bids e ≡ bid at.round x))
          each_bid e =
              elim (bid'.each e) [
                | inl same ↦ inl same
                | inr (x, there, held, is) ↦ inr (x, bids_from one is_one e x there held, is)
              ]

          lower_bid : (e x : ℕ) → Bids sets e at.round x → word_of at'.bids e ≤ bid at.round x
          lower_bid e x b = let (there, held) = bids_to one is_one e x b in bid'.lower e x there held

          held_is : (x : ℕ) → Contains active x → held_by (word_of at'.bids) (bid at.round x) (pack_at p' x) ≡ won sets c x
          held_is x there =
              ap (held_by (word_of at'.bids) (bid at.round x)) (pack_drawn x (active_is x there).0)
              ∙ won-by_packed sets (word_of at'.bids) at.round x few (in_range_of one is_one x there) (is_active_in one is_one x there)
              (λ e held.
              let (in_set, open') = packed-parts sets c x e held in
              let lt : e < n = (set_at-within sets are x e in_set).1 in
              let bids_x : Bids sets e at.round x =
              bids_from one is_one e x there (Contains-from_has (pack_at p' x) e (subst (λ l. has l e ≡ true) (sym (pack_drawn x (active_is x there).0)) held)) in
              least_now sets at.round e (word_of at.bids e) (word_of at'.bids e) few (h.bids e lt).held (each_bid e) x bids_x (lower_bid e))

          bidding_to : (x : ℕ) → Contains chosen x → Contains (chosen_in sets at.round) x
          bidding_to x there =
              let test : ℕ → Bool = λ y. leb (2 ^ bucket) (2 * held_by (word_of at'.bids) (bid_base at.round + y) (pack_at p' y)) in
              let (in_active, passes) = Contains-from_filter test active x (subst (λ l. Contains l x) chosen_are there) in
              let half : 2 ^ bucket ≤ 2 * won sets c x = omega (arith, leb-true _ _ passes, held_is x in_active) in
              chosen_from sets at.round x bucket (in_range_of one is_one x in_active) (bucket_is one is_one) (is_active_in one is_one x in_active) half

          bidding_back : (x : ℕ) → Contains (chosen_in sets at.round) x → Contains chosen x
          bidding_back x is =
              let (lt, active_x, half) = chosen_is sets at.round x is in
              let in_active : Contains active x = active_in one is_one x lt active_x in
              let half' : 2 ^ bucket ≤ 2 * won sets c x = subst (λ k. 2 ^ k ≤ 2 * won sets c x) (bucket_is one is_one) half in
              let test : ℕ → Bool = λ y. leb (2 ^ bucket) (2 * held_by (word_of at'.bids) (bid_base at.round + y) (pack_at p' y)) in
              subst (λ l. Contains l x) (sym chosen_are) (Contains-filter test active x in_active (le-leb _ _ (omega (arith, half', held_is x in_active))))

        pub settled_by_bids : IsSettled sets active chosen at at'
        settled_by_bids = record {
          bid_home = bid'.home;
          bid_alone = bid'.alone;
          bids = λ one is_one e lt. word_step sets at.round e (word_of at.bids e) (word_of at'.bids e) few (h.bids e lt) (each_bid one is_one e) (λ _ _ _. lower_bid one is_one e);
          chosen_to = bidding_to;
          chosen_back = bidding_back;
          round_some = λ one is_one. round_is ∙ some_round at.round active one is_one;
          chosen_none = λ none. chosen_are ∙ ap (chosen_of (pack_at p') (word_of at'.bids) (bid_base at.round) bucket) none;
          round_none = λ none. round_is ∙ ap (next_round at.round) none;
          bids_none = λ none e. elim (bid'.each e) [ inl same ↦ same | inr (x, there, held, is) ↦ absurd (not_in_nil x (subst (λ l. Contains l x) none there)) ];
        }

      -- ---- what the loop carries after it

      module _ (round' by' : List ℕ) (at' : At) (s' : State) (chosen : List ℕ) (g : HasGiven drawn chosen (pack_at p') round by round' by' at at' mid s')
          (k : IsSettled sets active chosen at at') where
        module _ (one : ℕ) (is_one : Contains active one) where
          in_active : (x : ℕ) → Contains chosen x → Contains active x
          in_active x there =
              let (lt, is, half) = chosen_is sets at.round x (k.chosen_to one is_one x there) in
              active_in one is_one x lt is

          -- ---- columns

          rounds_after : (x : ℕ) → x < n → IsRoundBefore sets (suc at.round) x (get_or round' x 0)
          rounds_after x lt =
              let in_range : x < length round = omega (arith, h.round_size) in
              elim (member_cases chosen x) [
                | inl there ↦
                    let some : at.round ≢ NONE = λ none. absurd (omega (arith, early one is_one)) in
                    subst (IsRoundBefore sets (suc at.round) x) (sym (g.rounds.at x in_range there)) (IsRoundBefore-chosen sets at.round x some (k.chosen_to one is_one x there))
                | inr other ↦
                    subst (IsRoundBefore sets (suc at.round) x) (sym (g.rounds.other x other))
                    (IsRoundBefore-kept sets at.round x (get_or round x 0) (λ is. other (k.chosen_back one is_one x is)) (h.rounds x lt))
              ]

          -- who takes an element
          taker_from : (e x : ℕ) → Contains chosen x → Contains (pack_at p' x) e → (has (set_at sets x) e ≡ true) × (has c e ≡ false)
          taker_from e x there held =
              packed-parts sets c x e (subst (λ l. has l e ≡ true) (pack_drawn x (active_is x (in_active x there)).0) (has-from_Contains (pack_at p' x) e held))

          taker_to : (e x : ℕ) → has c e ≡ false → Contains (chosen_in sets at.round) x → Contains (set_at sets x) e → Contains chosen x × Contains (pack_at p' x) e
          taker_to e x open' is held =
              let there : Contains chosen x = k.chosen_back one is_one x is in
              let in_pack' : has (packed sets c x) e ≡ true = packed-from sets c x e (has-from_Contains (set_at sets x) e held) open' in
              (there, Contains-from_has (pack_at p' x) e (subst (λ l. has l e ≡ true) (sym (pack_drawn x (active_is x (in_active x there)).0)) in_pack'))

          owner_word : (e : ℕ) → e < n → IsLeastOrNone (IsOwner sets e (suc at.round)) (word_of at'.owners e)
          owner_word e lt =
              elim (cases_eq (get_or by e 0) NONE) [
                | inr some ↦
                    let covered : has c e ≡ true = covered_by e lt some in
                    let same : word_of at'.owners e ≡ get_or by e 0 =
                    elim (g.owned.each e) [
                      | inl kept ↦ kept ∙ h.by_words e lt
                      | inr (x, there, held, is) ↦ absurd (both_ways _ (taker_from e x there held).1 covered)
                    ] in
                    subst (IsLeastOrNone (IsOwner sets e (suc at.round))) (sym same)
                    (IsOwner-kept sets e at.round (get_or by e 0) (Contains-from_has c e covered) (h.owners e lt))
                | inl none ↦
                    let open' : has c e ≡ false = open_by e lt none in
                    let P : ℕ → Type 0 = λ x. Contains (chosen_in sets at.round) x × Contains (set_at sets x) e in
                    let each : (word_of at'.owners e ≡ NONE) ⊎ P (word_of at'.owners e) =
                    elim (g.owned.each e) [
                      | inl kept ↦ inl (kept ∙ h.by_words e lt ∙ none)
                      | inr (x, there, held, is) ↦
                          let same : x ≡ word_of at'.owners e = omega (arith, is) in
                          inr (subst P same ((k.chosen_to one is_one x there), Contains-from_has (set_at sets x) e (taker_from e x there held).0))
                    ] in
                    IsOwner-new sets e at.round (word_of at'.owners e) (λ covered. both_ways _ open' (has-from_Contains c e covered))
                    (least_owner P n (word_of at'.owners e) few (λ x held. (chosen_is sets at.round x held.0).0) each
                    (λ x held. let (there, in_pack') = taker_to e x open' held.0 held.1 in omega (arith, g.owned.lower e x there in_pack')))
              ]

          owners_after : (e : ℕ) → e < n → (word_of at'.owners e ≡ get_or by' e 0) × IsLeastOrNone (IsOwner sets e (suc at.round)) (get_or by' e 0)
          owners_after e lt =
              let in_range : e < length by = omega (arith, h.by_size) in
              let same : word_of at'.owners e ≡ get_or by' e 0 =
              elim (member_cases (flat_map (pack_at p') chosen) e) [
                | inl there ↦ sym (g.by_are.at e in_range there)
                | inr other ↦
                    elim (g.owned.each e) [
                      | inl kept ↦ kept ∙ h.by_words e lt ∙ sym (g.by_are.other e other)
                      | inr (x, there, held, is) ↦
                          absurd (other (Contains-from_has _ e (flat_map-has (pack_at p') chosen x e (has-from_Contains chosen x there) (has-from_Contains (pack_at p' x) e held))))
                    ]
              ] in
              (same, subst (IsLeastOrNone (IsOwner sets e (suc at.round))) same (owner_word e lt))

          draw_after : HaveDraws sets s'.draws (suc at.round)
          draw_after =
              let draw : Draw = record { bucket = bucket; ids = ids_at s.places bucket } in
              let draws_are : s'.draws ≡ s.draws ++ draw ∷ [] = ap (λ (x : State). x.draws) g.moved ∙ ap (λ (x : State). x.draws) d.after in
              subst (λ ds. HaveDraws sets ds (suc at.round)) (sym draws_are)
              (HaveDraws-push sets s.draws draw at.round h.draws (record {
                bucket_is = sym (bucket_is one is_one);
                active = λ x lt is. subst (λ l. Contains l x) d.ids_are (active_is x (active_in one is_one x lt is)).0;
              }))

          -- a set that has elements left after the round has no round
          unchosen : (x : ℕ) → x < n → 0 < size sets (covered_before sets (suc at.round)) x → get_or round' x 0 ≡ NONE
          unchosen x lt some =
              elim (cases_eq (get_or round' x 0) NONE) [
                | inl none ↦ none
                | inr has_round ↦
                    let (u, is) = ((rounds_after x lt).least has_round).holds in
                    absurd (omega (arith, some, chosen-done sets (get_or round' x 0) (suc at.round) x (has-from_Contains (chosen_in sets (get_or round' x 0)) x is) u))
              ]

          made_more : (v : ℕ) → v < suc at.round → 0 < greatest_size sets (covered_before sets v)
          made_more v lt =
              elim (cases_lt v at.round) [
                | inl before ↦ h.made v before
                | inr now ↦ let same : at.round ≡ v = omega arith in subst (λ k. 0 < greatest_size sets (covered_before sets k)) same (positive one is_one)
              ]

          -- a set that was chosen goes nowhere
          a_chosen : (x : ℕ) × Contains drawn x × (get_or round' x 0 ≢ NONE)
          a_chosen =
              let (x, is) = some_chosen sets c (positive one is_one) in
              let there : Contains chosen x = k.chosen_back one is_one x (Contains-from_has (chosen_in sets at.round) x is) in
              let in_drawn : Contains drawn x = (active_is x (in_active x there)).0 in
              let in_range : x < length round = omega (arith, h.round_size, (drawn_is x in_drawn).0) in
              (x, in_drawn, λ none. absurd (omega (arith, g.rounds.at x in_range there, early one is_one, none)))

        -- ---- where the drawn sets go

        next_is : (x : ℕ) → Contains drawn x → get_or round' x 0 ≡ NONE → next_place (pack_at p') round' x ≡ place_for (size sets c x)
        next_is x there none = cond-true _ _ _ (eq-eqb _ _ none) ∙ ap place_for (pack_size x there)

        next_none : (x : ℕ) → get_or round' x 0 ≢ NONE → next_place (pack_at p') round' x ≡ NONE
        next_none x some = cond-false _ _ _ (ne_eqb _ _ some)

        place_for-some : (k : ℕ) → 0 < k → place_for k ≡ floor_log2 k
        place_for-some k some = cond-false _ _ _ (ne_eqb k 0 (λ zero'. absurd (omega arith)))

        next_low : (x : ℕ) → Contains drawn x → next_place (pack_at p') round' x ≢ NONE → (next_place (pack_at p') round' x ≡ floor_log2 (size sets c x)) × (0 < size sets c x)
        next_low x there some =
            elim (cases_eq (get_or round' x 0) NONE) [
              | inr has_round ↦ absurd (some (next_none x has_round))
              | inl none ↦
                  elim (cases_lt 0 (size sets c x)) [
                    | inl left ↦ (next_is x there none ∙ place_for-some (size sets c x) left, left)
                    | inr empty ↦
                        let zero_size : size sets c x ≡ 0 = omega arith in
                        absurd (some (next_is x there none ∙ ap place_for zero_size))
                  ]
            ]

        place_drawn : (x : ℕ) → Contains drawn x → get_or s'.places x 0 ≡ next_place (pack_at p') round' x
        place_drawn x there =
            let in_range : x < length mid.places = omega (arith, mid_size, (drawn_is x there).0) in
            let is : get_or s'.places x 0 ≡ get_or (set_places mid.places (moves_of (pack_at p') round' drawn)) x 0 = ap (λ (y : State). get_or y.places x 0) g.moved in
            elim (cases_eq (next_place (pack_at p') round' x) NONE) [
              | inl none ↦ is ∙ place_kept (pack_at p') round' drawn mid.places x in_range (λ _. none) ∙ mid_drawn x there ∙ sym none
              | inr some ↦ is ∙ place_moved (pack_at p') round' drawn mid.places x in_range there some
            ]

        place_other : (x : ℕ) → x < n → (Contains drawn x → ⊥) → get_or s'.places x 0 ≡ get_or s.places x 0
        place_other x lt other =
            let in_range : x < length mid.places = omega (arith, mid_size) in
            let is : get_or s'.places x 0 ≡ get_or (set_places mid.places (moves_of (pack_at p') round' drawn)) x 0 = ap (λ (y : State). get_or y.places x 0) g.moved in
            is ∙ place_kept (pack_at p') round' drawn mid.places x in_range (λ there. absurd (other there)) ∙ mid_other x lt other

        places_size : length s'.places ≡ n
        places_size = ap (λ (y : State). length y.places) g.moved ∙ length-set_places mid.places (moves_of (pack_at p') round' drawn) ∙ mid_size

        low_after : (x : ℕ) → x < n → get_or s'.places x 0 ≢ NONE → get_or s'.places x 0 < NONE
        low_after x lt some =
            elim (member_cases drawn x) [
              | inl there ↦
                  let (is, left) = next_low x there (λ none. some (place_drawn x there ∙ none)) in
                  omega (arith, place_drawn x there, is, small x there, first.is_bucket)
              | inr other ↦ omega (arith, place_other x lt other, h.low x lt (λ none. some (place_other x lt other ∙ none)))
            ]

        stored_after : (later : List ℕ) → IsWithin c later → ((x : ℕ) → x < n → 0 < size sets later x → get_or round' x 0 ≡ NONE) →
            (x : ℕ) → x < n → 0 < size sets later x → IsStored sets later s'.places x
        stored_after later within unchosen' x lt left =
            let fewer' : size sets later x ≤ size sets c x = size-le sets c later x within in
            let left_before : 0 < size sets c x = omega arith in
            let smaller : floor_log2 (size sets later x) ≤ floor_log2 (size sets c x) = floor_log2-le (size sets later x) (size sets c x) fewer' in
            elim (member_cases drawn x) [
              | inl there ↦
                  let is : get_or s'.places x 0 ≡ floor_log2 (size sets c x) =
                  place_drawn x there ∙ next_is x there (unchosen' x lt left) ∙ place_for-some (size sets c x) left_before in
                  record { some = λ none. absurd (omega (arith, is, none, small x there, first.is_bucket)); high = omega (arith, is, smaller) }
              | inr other ↦
                  let before : IsStored sets c s.places x = h.stored x lt left_before in
                  record { some = λ none. before.some (sym (place_other x lt other) ∙ none); high = omega (arith, smaller, before.high, place_other x lt other) }
            ]

        packs_after : (later : List ℕ) → IsWithin c later → (x : ℕ) → x < n → filter (λ e. not (has later e)) (pack_at p' x) ≡ packed sets later x
        packs_after later within x lt =
            sym (filter_again (λ e. not (has c e)) (λ e. not (has later e)) (pack_at p' x)
            (λ e open'. not_from_false _ (false_from_ne_true _ (λ covered. both_ways _ (not-true _ open') (within e covered)))))
            ∙ ap (filter (λ e. not (has later e))) (still_packed x lt) ∙ packed_again sets c later x within

        -- what the loop carries, from what is known of the round that is next
        carried : (u : ℕ) → at'.round ≡ u → u ≤ n → IsWithin c (covered_before sets u) →
            ((e : ℕ) → e < n → IsBidWord sets e u (word_of at'.bids e)) →
            ((e : ℕ) → e < n → (word_of at'.owners e ≡ get_or by' e 0) × IsLeastOrNone (IsOwner sets e u) (get_or by' e 0)) →
            ((x : ℕ) → x < n → IsRoundBefore sets u x (get_or round' x 0)) →
            ((x : ℕ) → x < n → 0 < size sets (covered_before sets u) x → get_or round' x 0 ≡ NONE) → ((v : ℕ) → v < u → 0 < greatest_size sets (covered_before sets v)) → HaveDraws sets s'.draws u →
            IsCovering sets bid_table owner_table bid_home owner_home p' round' by' at' s'
        carried u is few_u within bids' owners' rounds' unchosen' made' draws' = record {
          n = packed'.n ∙ h.n;
          packed_well = packed'.packed;
          packs = subst (λ k. (x : ℕ) → x < n → filter (λ e. not (has (covered_before sets k) e)) (pack_at p' x) ≡ packed sets (covered_before sets k) x) (sym is)
              (packs_after (covered_before sets u) within);
          few = omega (arith, is);
          bid_root = root_after bid_table at.bids at'.bids h.bid_root k.bid_home k.bid_alone;
          owner_root = root_after owner_table at.owners at'.owners h.owner_root g.owned.home g.owned.alone;
          bid_home_is = k.bid_home ∙ h.bid_home_is;
          owner_home_is = g.owned.home ∙ h.owner_home_is;
          round_size = g.rounds.size ∙ h.round_size;
          by_size = g.by_are.size ∙ h.by_size;
          bids = subst (λ k. (e : ℕ) → e < n → IsBidWord sets e k (word_of at'.bids e)) (sym is) bids';
          owners = subst (λ k. (e : ℕ) → e < n → IsLeastOrNone (IsOwner sets e k) (get_or by' e 0)) (sym is) (λ e lt. (owners' e lt).1);
          by_words = λ e lt. (owners' e lt).0;
          rounds = subst (λ k. (x : ℕ) → x < n → IsRoundBefore sets k x (get_or round' x 0)) (sym is) rounds';
          order = ap (λ (y : State). y.order) g.moved ∙ ap (λ (y : State). y.order) d.after ∙ h.order;
          places_size = places_size;
          stored = subst (λ k. (x : ℕ) → x < n → 0 < size sets (covered_before sets k) x → IsStored sets (covered_before sets k) s'.places x) (sym is)
              (stored_after (covered_before sets u) within unchosen');
          low = low_after;
          made = subst (λ k. (v : ℕ) → v < k → 0 < greatest_size sets (covered_before sets v)) (sym is) made';
          draws = subst (λ k. HaveDraws sets s'.draws k) (sym is) draws';
        }
          where
            root_after : (table : List ℕ) (old new : Seat) → IsRootOf n table old → new.home ≡ old.home → IsAlone new → IsRootOf n table new
            root_after table old new root home alone = record {
              of_table = ap (λ (x : Home). x.table) home ∙ root.of_table;
              is_table = subst (IsTable n) (sym home) root.is_table;
              alone = alone;
            }

        -- ---- where no set is active

        module _ (none' : active ≡ []) where
          no_active : (x : ℕ) → Contains active x → ⊥
          no_active x there = not_in_nil x (subst (λ l. Contains l x) none' there)

          chosen_none : chosen ≡ []
          chosen_none = k.chosen_none none'

          no_chosen : (x : ℕ) → Contains chosen x → ⊥
          no_chosen x there = not_in_nil x (subst (λ l. Contains l x) chosen_none there)

          bids_same : (e : ℕ) → word_of at'.bids e ≡ word_of at.bids e
          bids_same = k.bids_none none'

          owners_same : (e : ℕ) → word_of at'.owners e ≡ word_of at.owners e
          owners_same e = elim (g.owned.each e) [ inl same ↦ same | inr (x, there, held, is) ↦ absurd (no_chosen x there) ]

          by_same : (e : ℕ) → get_or by' e 0 ≡ get_or by e 0
          by_same e = g.by_are.other e (λ there. not_in_nil e (subst (λ l. Contains (flat_map (pack_at p') l) e) chosen_none there))

          round_same : (x : ℕ) → get_or round' x 0 ≡ get_or round x 0
          round_same x = g.rounds.other x (no_chosen x)

          small_size : (x : ℕ) → Contains drawn x → size sets c x < 2 ^ bucket
          small_size x there =
              elim (cases_lt (size sets c x) (2 ^ bucket)) [
                | inl lt ↦ lt
                | inr large ↦ absurd (no_active x (active_of_size x there large))
              ]

          draws_none : HaveDraws sets s'.draws at.round
          draws_none =
              let draw : Draw = record { bucket = bucket; ids = ids_at s.places bucket } in
              let draws_are : s'.draws ≡ s.draws ++ draw ∷ [] = ap (λ (x : State). x.draws) g.moved ∙ ap (λ (x : State). x.draws) d.after in
              subst (λ ds. HaveDraws sets ds at.round) (sym draws_are) (HaveDraws-append sets s.draws (draw ∷ []) at.round h.draws)

          unchosen_none : (x : ℕ) → x < n → 0 < size sets c x → get_or round' x 0 ≡ NONE
          unchosen_none x lt some =
              elim (cases_eq (get_or round x 0) NONE) [
                | inl none ↦ round_same x ∙ none
                | inr has_round ↦
                    let (u, is) = ((h.rounds x lt).least has_round).holds in
                    absurd (omega (arith, some, chosen-done sets (get_or round x 0) at.round x (has-from_Contains (chosen_in sets (get_or round x 0)) x is) u))
              ]

          still_none : IsCovering sets bid_table owner_table bid_home owner_home p' round' by' at' s'
          still_none =
              let is : at'.round ≡ at.round = k.round_none none' in
              carried at.round is h.few (λ e covered. covered)
              (λ e lt. subst (IsBidWord sets e at.round) (sym (bids_same e)) (h.bids e lt))
              (λ e lt. (owners_same e ∙ h.by_words e lt ∙ sym (by_same e), subst (IsLeastOrNone (IsOwner sets e at.round)) (sym (by_same e)) (h.owners e lt)))
              (λ x lt. subst (IsRoundBefore sets at.round x) (sym (round_same x)) (h.rounds x lt)) unchosen_none h.made draws_none

        -- ---- both

        some_active : (length active ≡ 0 → ⊥) → Contains active (get_or active 0 0)
        some_active some = (0, pos' (length active) some, get_or_default active 0 (get_or active 0 0) 0 (pos' (length active) some)) where
          pos' : (k : ℕ) → (k ≡ 0 → ⊥) → 0 < k
          pos' zero no' = absurd (no' refl)
          pos' (suc k) no' = omega arith

        still_some : (one : ℕ) → Contains active one → IsCovering sets bid_table owner_table bid_home owner_home p' round' by' at' s'
        still_some one is_one =
            let is : at'.round ≡ suc at.round = k.round_some one is_one in
            let next : suc at.round ≤ n = early one is_one in
            carried (suc at.round) is next (covered-kept sets at.round) (k.bids one is_one) (owners_after one is_one) (rounds_after one is_one) (unchosen one is_one)
            (λ v lt. made_more one is_one v lt) (draw_after one is_one)

        pub still_covering : IsCovering sets bid_table owner_table bid_home owner_home p' round' by' at' s'
        still_covering =
            elim (cases_eq (length active) 0) [
              | inl none ↦ still_none (nil_of active none)
              | inr some ↦ still_some (get_or active 0 0) (some_active some)
            ]

        -- ---- the measure falls

        weight_at : (q : ℕ) → q ≢ NONE → cond {A = ℕ} (eqb q NONE) 0 (q + 1) ≡ q + 1
        weight_at q some = cond-false _ _ _ (ne_eqb q NONE some)

        weight_none : (q : ℕ) → q ≡ NONE → cond {A = ℕ} (eqb q NONE) 0 (q + 1) ≡ 0
        weight_none q none = cond-true _ _ _ (eq-eqb q NONE none)

        at_bucket : (x : ℕ) → Contains drawn x → cond {A = ℕ} (eqb (get_or s.places x 0) NONE) 0 (get_or s.places x 0 + 1) ≡ bucket + 1
        at_bucket x there =
            let same : get_or s.places x 0 ≡ bucket = (drawn_is x there).1 in
            weight_at (get_or s.places x 0) (λ none. absurd (omega (arith, same, none, first.is_bucket))) ∙ ap (λ k. k + 1) same

        no_more : (x : ℕ) → x < n → cond {A = ℕ} (eqb (get_or s'.places x 0) NONE) 0 (get_or s'.places x 0 + 1) ≤ cond (eqb (get_or s.places x 0) NONE) 0 (get_or s.places x 0 + 1)
        no_more x lt =
            elim (member_cases drawn x) [
              | inr other ↦ omega (arith, ap (λ q. cond {A = ℕ} (eqb q NONE) 0 (q + 1)) (place_other x lt other))
              | inl there ↦
                  elim (cases_eq (get_or s'.places x 0) NONE) [
                    | inl none ↦ omega (arith, weight_none (get_or s'.places x 0) none)
                    | inr some ↦
                        let (is, left) = next_low x there (λ none. some (place_drawn x there ∙ none)) in
                        omega (arith, weight_at (get_or s'.places x 0) some, at_bucket x there, place_drawn x there, is, small x there)
                  ]
            ]

        -- a drawn set that goes nowhere or further down makes it fall
        falls_by : (x : ℕ) → Contains drawn x → (next_place (pack_at p') round' x ≢ NONE → floor_log2 (size sets c x) < bucket) → remaining s'.places < remaining s.places
        falls_by x there down =
            let in_range : x < length s.places = omega (arith, h.places_size, (drawn_is x there).0) in
            let size : length s'.places ≡ length s.places = places_size ∙ sym h.places_size in
            let less : cond {A = ℕ} (eqb (get_or s'.places x 0) NONE) 0 (get_or s'.places x 0 + 1) < cond (eqb (get_or s.places x 0) NONE) 0 (get_or s.places x 0 + 1) =
            elim (cases_eq (get_or s'.places x 0) NONE) [
              | inl none ↦ omega (arith, weight_none (get_or s'.places x 0) none, at_bucket x there)
              | inr some ↦
                  let going : next_place (pack_at p') round' x ≢ NONE = λ none. some (place_drawn x there ∙ none) in
                  let (is, left) = next_low x there going in
                  omega (arith, weight_at (get_or s'.places x 0) some, at_bucket x there, place_drawn x there, is, down going)
            ] in
            falls_at (λ q. cond (eqb q NONE) 0 (q + 1)) s.places s'.places x size (λ k lt. no_more k (omega (arith, h.places_size))) in_range less

        fewer_some : (one : ℕ) → Contains active one → remaining s'.places < remaining s.places
        fewer_some one is_one =
            let (x, there, has_round) = a_chosen one is_one in
            falls_by x there (λ some. absurd (some (next_none x has_round)))

        fewer_none : active ≡ [] → remaining s'.places < remaining s.places
        fewer_none none' =
            let (k, lt, is) = first.held in
            let here : get_or s.places k 0 ≡ bucket = get_or_default s.places k 0 bucket lt ∙ is in
            let there : Contains drawn k = drawn_from k (omega (arith, h.places_size)) here in
            falls_by k there (λ some. less (size sets c k) (next_low k there some).1 (small_size none' k there))
          where
            less : (k : ℕ) → 0 < k → k < 2 ^ bucket → floor_log2 k < bucket
            less k some lt =
                elim (cases_lt (floor_log2 k) bucket) [
                  | inl below' ↦ below'
                  | inr le ↦
                      let positive' : 0 < 2 = omega arith in
                      let grows : 2 ^ bucket ≤ 2 ^ floor_log2 k = pow-le-pow_right positive' le in
                      absurd (omega (arith, power-le k some))
                ]

        pub fewer : remaining s'.places < remaining s.places
        fewer =
            elim (cases_eq (length active) 0) [
              | inl none ↦ fewer_none (nil_of active none)
              | inr some ↦ fewer_some (get_or active 0 0) (some_active some)
            ]
