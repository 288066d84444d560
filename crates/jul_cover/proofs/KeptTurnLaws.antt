-- A turn over packed sets: what it asks for holds, and what the loop carries holds after it.
use Rattle.std.proofs.Common.{◌≡◌, ◌⊎◌, ℕ, zero, suc, ◌+◌, ◌^◌, ◌<◌, ◌≤◌, true, false, not, List, [], ◌∷◌, length, get_or, refl, sym, ap, ◌∙◌, subst, arith, inl, inr}
use Rattle.std.specs.Prelude.{Some}
use Rattle.std.specs.List.{filter, All, Contains}
use Rattle.std.specs.List.Sorted.{IsStrictlyIncreasing}
use Rattle.std.proofs.lemmas.Bool.{cases_eq, and_parts, cond-true, cond-false, eq-eqb, ne_eqb, leb-true, false_from_ne_true}
use Rattle.std.proofs.lemmas.List.{get_or_default}
use Rattle.std.proofs.lemmas.List.Elements.{All-contains, Contains-get_or}
use Rattle.std.proofs.lemmas.Nat.{pow_pos}
use Rattle.jul_base.specs.declared.limits.TheConstants.{MAX_N}
use Rattle.jul_base.specs.InRows.{InEdges}
use Rattle.jul_base.specs.Logs.{Home}
use Rattle.jul_base.specs.Numbers.{below}
use Rattle.jul_base.specs.Sets.{has, AreSets}
use Rattle.jul_base.specs.CoverRounds.{set_at, size, greatest_size, is_active, wins, covered_before, chosen_in}
use Rattle.jul_base.specs.CoverRounds.{bucket as bucket_of}
use Rattle.jul_base.proofs.CoverRoundLaws.{is_active-size, wins-winner, winner-first, some_wins, some_chosen}
use Rattle.jul_base.proofs.PowerLaws.{le-floor_log2}
use Rattle.jul_base.proofs.SetLaws.{Contains-from_has, has-from_Contains, Contains-filter, Contains-from_filter, Contains-below, below-Contains, IsStrictlyIncreasing-below, member_cases}
use Rattle.jul_words.specs.Least.{word_of}
use Rattle.jul_bucket.specs.States.{State, IsDrawn}
use Rattle.jul_cover.specs.declared.packed_sets.PackedSets.{PackedSets}
use Rattle.jul_cover.specs.PackedSets.{pack_at, HasPacked}
use Rattle.jul_cover.specs.Choosing.{active_of}
use Rattle.jul_cover.specs.CoverBids.{bid, bid_base, Bids}
use Rattle.jul_cover.specs.CoverWork.{At, IsCovering, IsStored, packed, next_round, remaining}
use Rattle.jul_cover.specs.Keeping.{AreHolders, is_large, winner_in, is_winning}
use Rattle.jul_cover.specs.KeptTurns.{AreAllOpen, HasKept, IsKeeping, sets_for}
use Rattle.jul_cover.proofs.CandidateLaws.{untouched, next_candidate}
use Rattle.jul_cover.proofs.ColumnLaws.{not_in_nil}
use Rattle.jul_cover.proofs.CoverLeftLaws.{set_at-within}
use Rattle.jul_cover.proofs.CoverPackLaws.{length-packed, packed-parts, packed-from, packed_again}
use Rattle.jul_cover.proofs.KeepingLaws.{empty_from, winners-from, winners-to}
use Rattle.jul_cover.proofs.RoundLaws.{chosen_is, word_step}
use Rattle.jul_cover.proofs.TurnLaws.{IsSettled, some_round, packed_open, most, drawn_from, active_of_size, bucket_is, positive, active_in, bids_from, still_covering, fewer}
use Rattle.jul_cover.proofs.WinnerLaws.{winner_wins, wins_winner, winning_chosen, chosen_winning}

-- packing again what the loop carries
pub repacked_covering : (sets : List (List ℕ)) (are : AreSets sets) (few : length sets ≤ MAX_N) (bid_table owner_table : List ℕ) (bid_home owner_home : Home) (p : PackedSets) (round by : List ℕ) (at : At) (s : State) →
    IsCovering sets bid_table owner_table bid_home owner_home p round by at s → (touched : List ℕ) (p' : PackedSets) → HasPacked by touched p p' →
    IsCovering sets bid_table owner_table bid_home owner_home p' round by at s
repacked_covering sets are few bid_table owner_table bid_home owner_home p round by at s h touched p' r =
    let c : List ℕ = covered_before sets at.round in
    record {
      n = r.n ∙ h.n;
      packed_well = r.packed;
      packs = λ x lt.
          let in_range : x < p.n = omega (arith, h.n) in
          elim (member_cases touched x) [
            | inl there ↦
                ap (filter (λ e. not (has c e))) (r.here x in_range there ∙ packed_open sets are few bid_table owner_table bid_home owner_home p round by at s h x lt)
                ∙ packed_again sets c c x (λ e covered. covered)
            | inr other ↦ ap (filter (λ e. not (has c e))) (r.other x in_range other) ∙ h.packs x lt
          ];
      few = h.few;
      bid_root = h.bid_root;
      owner_root = h.owner_root;
      bid_home_is = h.bid_home_is;
      owner_home_is = h.owner_home_is;
      round_size = h.round_size;
      by_size = h.by_size;
      bids = h.bids;
      owners = h.owners;
      by_words = h.by_words;
      rounds = h.rounds;
      order = h.order;
      places_size = h.places_size;
      stored = h.stored;
      low = h.low;
      made = h.made;
      draws = h.draws;
    }

module _ (sets : List (List ℕ)) (are : AreSets sets) (few : length sets ≤ MAX_N) (bid_table owner_table : List ℕ) (bid_home owner_home : Home) (p : PackedSets) (round by : List ℕ) (at : At) (s : State)
    (h : IsCovering sets bid_table owner_table bid_home owner_home p round by at s) (edges : InEdges) (holders : AreHolders sets edges) (last : ℕ) (known : List ℕ)
    (q : IsKeeping sets at.round last p known) where
  abbrev c : List ℕ
  c = covered_before sets at.round

  abbrev n : ℕ
  n = length sets

  pub all_open : AreAllOpen by p
  all_open x lt =
      let in_sets : x < n = omega (arith, h.n) in
      packed_open sets are few bid_table owner_table bid_home owner_home p round by at s h x in_sets ∙ sym (q.exact x in_sets)

  pub packed_same : (drawn : List ℕ) → HasPacked by drawn p p
  packed_same drawn = record { n = refl; packed = h.packed_well; here = λ x lt there. sym (all_open x lt); other = λ x lt other. refl }

  module _ (bucket : ℕ) (drawn : List ℕ) (mid : State) (d : IsDrawn s bucket drawn mid) where
    abbrev active : List ℕ
    active = active_of (pack_at p) bucket drawn

    -- a set that is large was drawn
    large_drawn : (x : ℕ) → x < n → 2 ^ bucket ≤ size sets c x → Contains drawn x
    large_drawn x lt large =
        let left : 0 < size sets c x = omega (arith, large, pow_pos bucket) in
        let stored : IsStored sets c s.places x = h.stored x lt left in
        let at_most : get_or s.places x 0 ≤ bucket = most sets are few bid_table owner_table bid_home owner_home p round by at s h bucket drawn mid d x lt stored.some in
        drawn_from sets are few bid_table owner_table bid_home owner_home p round by at s h bucket drawn mid d x lt
        (omega (arith, at_most, stored.high, le-floor_log2 (size sets c x) bucket large))

    large_active : (x : ℕ) → x < n → 2 ^ bucket ≤ size sets c x → Contains active x
    large_active x lt large =
        active_of_size sets are few bid_table owner_table bid_home owner_home p round by at s h bucket drawn mid d p (packed_same drawn) x (large_drawn x lt large) large

    complete : (one : ℕ) → Contains active one → (x : ℕ) → Contains (chosen_in sets at.round) x → Contains (sets_for last bucket known drawn) x
    complete one is_one x there =
        let bucket_at : bucket_of sets c ≡ bucket = bucket_is sets are few bid_table owner_table bid_home owner_home p round by at s h bucket drawn mid d p (packed_same drawn) one is_one in
        elim (cases_eq last bucket) [
          | inl same ↦ subst (λ l. Contains l x) (sym (cond-true _ _ _ (eq-eqb _ _ same))) (q.complete (bucket_at ∙ sym same) x there)
          | inr other ↦
              let (lt, active_x, half) = chosen_is sets at.round x there in
              let large : 2 ^ bucket ≤ size sets c x = subst (λ k. 2 ^ k ≤ size sets c x) bucket_at (is_active-size sets c x active_x) in
              subst (λ l. Contains l x) (sym (cond-false _ _ _ (ne_eqb _ _ other))) (large_drawn x lt large)
        ]

    module _ (now : List ℕ) (now_is : now ≡ sets_for last bucket known drawn) (now_in : All (λ x. x < p.n) now)
        (p' : PackedSets) (round' by' : List ℕ) (at' : At) (s' : State) (next : List ℕ) (r : HasKept edges bucket drawn now p p' round by round' by' at at' mid s' next) where
      winning_is : (x : ℕ) → Contains r.chosen x → (x < n) × (is_winning (pack_at p) edges bucket x ≡ true)
      winning_is x there =
          let (in_now, winning) = Contains-from_filter (is_winning (pack_at p) edges bucket) now x (subst (λ l. Contains l x) r.chosen_are there) in
          (omega (arith, All-contains (λ y. y < p.n) now x now_in in_now, h.n), winning)

      chosen_active : (x : ℕ) → Contains r.chosen x → Contains active x
      chosen_active x there =
          let (lt, winning) = winning_is x there in
          let (large, half) = and_parts (is_large (pack_at p) bucket x) _ winning in
          large_active x lt (omega (arith, leb-true (2 ^ bucket) (length (pack_at p x)) large, ap length (q.exact x lt), length-packed sets c x))

      module _ (one : ℕ) (is_one : Contains active one) where
        bucket_at : bucket_of sets c ≡ bucket
        bucket_at = bucket_is sets are few bid_table owner_table bid_home owner_home p round by at s h bucket drawn mid d p (packed_same drawn) one is_one

        chosen_to : (x : ℕ) → Contains r.chosen x → Contains (chosen_in sets at.round) x
        chosen_to x there = let (lt, winning) = winning_is x there in winning_chosen sets are edges holders c bucket bucket_at (pack_at p) q.exact at.round x refl lt winning

        chosen_back : (x : ℕ) → Contains (chosen_in sets at.round) x → Contains r.chosen x
        chosen_back x there =
            let (lt, winning) = chosen_winning sets are edges holders c bucket bucket_at (pack_at p) q.exact at.round x refl there in
            subst (λ l. Contains l x) (sym r.chosen_are)
            (Contains-filter (is_winning (pack_at p) edges bucket) now x (subst (λ l. Contains l x) (sym now_is) (complete one is_one x there)) winning)

        bidder_active : (x : ℕ) → Contains r.bid.bidders x → Contains active x
        bidder_active x there =
            let (y, e, in_chosen, in_pack, is) = winners-from (pack_at p) edges bucket r.chosen x ((r.bid.bidders_are x).0 there) in
            let (y_lt, _) = winning_is y in_chosen in
            let (in_set, open') = packed-parts sets c y e (subst (λ l. has l e ≡ true) (q.exact y y_lt) (has-from_Contains (pack_at p y) e in_pack)) in
            let e_lt : e < n = (set_at-within sets are y e in_set).1 in
            let wins_x : wins sets c x e ≡ true = winner_wins sets are edges holders c bucket bucket_at (pack_at p) q.exact e x e_lt open' is in
            let (first, x_lt) = winner-first sets c x e (wins-winner sets c x e wins_x).1 in
            let (active_x, held_x) = and_parts (is_active sets c x) (has (set_at sets x) e) first.passes in
            active_in sets are few bid_table owner_table bid_home owner_home p round by at s h bucket drawn mid d p (packed_same drawn) one is_one x x_lt active_x

        each_bid : (e : ℕ) → (word_of at'.bids e ≡ word_of at.bids e) ⊎ ((x : ℕ) × Bids sets e at.round x × (word_of at'.bids e ≡ bid at.round x))
        each_bid e =
            elim (r.bid.bid.each e) [
              | inl same ↦ inl same
              | inr (x, there, held, is) ↦
                  inr (x, bids_from sets are few bid_table owner_table bid_home owner_home p round by at s h bucket drawn mid d p (packed_same drawn) one is_one e x (bidder_active x there) held, is)
            ]

        -- an element that is covered is lowered to the bid of its winner
        lower_bid : (e : ℕ) → e < n → (y : ℕ) → Contains (chosen_in sets at.round) y → Contains (set_at sets y) e → (x : ℕ) → Bids sets e at.round x → word_of at'.bids e ≤ bid at.round x
        lower_bid e e_lt y there held x b =
            let open' : has c e ≡ false = false_from_ne_true _ (λ covered. b.open' (Contains-from_has c e covered)) in
            let (w, wins_w, le) = some_wins sets c x e b.in_range b.active (has-from_Contains (set_at sets x) e b.held) open' in
            let (first, w_lt) = winner-first sets c w e (wins-winner sets c w e wins_w).1 in
            let (active_w, held_w) = and_parts (is_active sets c w) (has (set_at sets w) e) first.passes in
            let is : winner_in (pack_at p) edges bucket e ≡ Some w = wins_winner sets are edges holders c bucket bucket_at (pack_at p) q.exact e w e_lt wins_w in
            let in_pack : (z : ℕ) → z < n → has (set_at sets z) e ≡ true → Contains (pack_at p z) e =
            λ z z_lt in_set. Contains-from_has (pack_at p z) e (subst (λ l. has l e ≡ true) (sym (q.exact z z_lt)) (packed-from sets c z e in_set open')) in
            let in_y : has (set_at sets y) e ≡ true = has-from_Contains (set_at sets y) e held in
            let bids_w : Contains r.bid.bidders w =
            (r.bid.bidders_are w).1 (winners-to (pack_at p) edges bucket r.chosen y e w (chosen_back y there) (in_pack y (set_at-within sets are y e in_y).0 in_y) is) in
            let lowered : word_of at'.bids e ≤ bid_base at.round + w = r.bid.bid.lower e w bids_w (in_pack w w_lt held_w) in
            omega arith

        some_is_chosen : (x : ℕ) × Contains r.chosen x
        some_is_chosen =
            let left : 0 < greatest_size sets c = positive sets are few bid_table owner_table bid_home owner_home p round by at s h bucket drawn mid d p (packed_same drawn) one is_one in
            let (x, is) = some_chosen sets c left in
            (x, chosen_back x (Contains-from_has (chosen_in sets at.round) x is))

      none_chosen : active ≡ [] → r.chosen ≡ []
      none_chosen none = empty_from r.chosen (λ x there. not_in_nil x (subst (λ l. Contains l x) none (chosen_active x there)))

      settled : IsSettled sets active r.chosen at at'
      settled = record {
        bid_home = r.bid.bid.home;
        bid_alone = r.bid.bid.alone;
        bids = λ one is_one e lt. word_step sets at.round e (word_of at.bids e) (word_of at'.bids e) few (h.bids e lt) (each_bid one is_one e) (lower_bid one is_one e lt);
        chosen_to = chosen_to;
        chosen_back = chosen_back;
        round_some = λ one is_one. let (x, there) = some_is_chosen one is_one in r.round_is ∙ some_round at.round r.chosen x there;
        chosen_none = none_chosen;
        round_none = λ none. r.round_is ∙ ap (next_round at.round) (none_chosen none);
        bids_none = λ none e.
            elim (r.bid.bid.each e) [
              | inl same ↦ same
              | inr (x, there, held, is) ↦
                  let (y, e', in_chosen, in_pack, is') = winners-from (pack_at p) edges bucket r.chosen x ((r.bid.bidders_are x).0 there) in
                  absurd (not_in_nil y (subst (λ l. Contains l y) (none_chosen none) in_chosen))
            ];
      }

      covering : IsCovering sets bid_table owner_table bid_home owner_home p round' by' at' s'
      covering = still_covering sets are few bid_table owner_table bid_home owner_home p round by at s h bucket drawn mid d p (packed_same drawn) round' by' at' s' r.chosen r.given settled

      pub kept_covering : IsCovering sets bid_table owner_table bid_home owner_home p' round' by' at' s'
      kept_covering = repacked_covering sets are few bid_table owner_table bid_home owner_home p round' by' at' s' covering r.touched p' r.packed

      pub kept_fewer : remaining s'.places < remaining s.places
      kept_fewer = fewer sets are few bid_table owner_table bid_home owner_home p round by at s h bucket drawn mid d p (packed_same drawn) round' by' at' s' r.chosen r.given settled

      -- ---- what is kept

      exact_after : (c' : List ℕ) → covered_before sets at'.round ≡ c' → ((x : ℕ) → (Contains r.touched x → ⊥) → packed sets c x ≡ packed sets c' x) →
          (x : ℕ) → x < n → pack_at p' x ≡ packed sets c' x
      exact_after c' is same x lt =
          let in_range : x < p.n = omega (arith, h.n) in
          elim (member_cases r.touched x) [
            | inl there ↦
                r.packed.here x in_range there ∙ packed_open sets are few bid_table owner_table bid_home owner_home p round' by' at' s' covering x lt ∙ ap (λ l. packed sets l x) is
            | inr other ↦ r.packed.other x in_range other ∙ q.exact x lt ∙ same x other
          ]

      keeping_none : active ≡ [] → IsKeeping sets at'.round bucket p' next
      keeping_none none =
          let is : at'.round ≡ at.round = settled.round_none none in
          subst (λ k. IsKeeping sets k bucket p' next) (sym is) (record {
            exact = exact_after c (ap (covered_before sets) is) (λ x other. refl);
            complete = λ same x there.
                let (lt, active_x, half) = chosen_is sets at.round x there in
                let large : 2 ^ bucket ≤ size sets c x = subst (λ k. 2 ^ k ≤ size sets c x) same (is_active-size sets c x active_x) in
                absurd (not_in_nil x (subst (λ l. Contains l x) none (large_active x lt large)));
          })

      keeping_some : (one : ℕ) → Contains active one → IsKeeping sets at'.round bucket p' next
      keeping_some one is_one =
          let is : at'.round ≡ suc at.round = settled.round_some one is_one in
          let exact' : (x : ℕ) → x < n → pack_at p' x ≡ packed sets (covered_before sets (suc at.round)) x =
          exact_after (covered_before sets (suc at.round)) (ap (covered_before sets) is)
          (untouched sets are edges holders at.round (pack_at p) q.exact r.chosen r.touched (chosen_back one is_one) (λ x. (r.touched_are x).1)) in
          subst (λ k. IsKeeping sets k bucket p' next) (sym is) (record {
            exact = exact';
            complete = λ same x there.
                (r.next_are x).1
                (next_candidate sets are edges holders at.round (pack_at p) q.exact r.chosen r.touched (chosen_back one is_one) (λ x. (r.touched_are x).1) bucket (bucket_at one is_one) (pack_at p') exact' same x there);
          })

      pub still_keeping : IsKeeping sets at'.round bucket p' next
      still_keeping =
          elim (cases_eq (length active) 0) [
            | inl none ↦ keeping_none (nil_of active none)
            | inr some ↦ keeping_some (get_or active 0 0) (0, pos' (length active) some, get_or_default active 0 (get_or active 0 0) 0 (pos' (length active) some))
          ]
        where
          nil_of : (xs : List ℕ) → length xs ≡ 0 → xs ≡ []
          nil_of [] none = refl
          nil_of (x ∷ xs) none = absurd (omega arith)

          pos' : (k : ℕ) → (k ≡ 0 → ⊥) → 0 < k
          pos' zero no' = absurd (no' refl)
          pos' (suc k) no' = omega arith

-- ---- where such turns begin

pub keeping_first : (sets : List (List ℕ)) (are : AreSets sets) (few : length sets ≤ MAX_N) (bid_table owner_table : List ℕ) (bid_home owner_home : Home) (p : PackedSets) (round by : List ℕ) (at : At) (s : State) →
    IsCovering sets bid_table owner_table bid_home owner_home p round by at s → (last : ℕ) (all : List ℕ) → all ≡ below (length sets) → (p' : PackedSets) → HasPacked by all p p' →
    IsKeeping sets at.round last p' all
keeping_first sets are few bid_table owner_table bid_home owner_home p round by at s h last all all_are p' r =
    let in_all : (x : ℕ) → x < length sets → Contains all x = λ x lt. subst (λ l. Contains l x) (sym all_are) (Contains-below (length sets) x lt) in
    record {
      exact = λ x lt.
          let in_range : x < p.n = omega (arith, h.n) in
          r.here x in_range (in_all x lt) ∙ packed_open sets are few bid_table owner_table bid_home owner_home p round by at s h x lt;
      complete = λ same x there. in_all x (chosen_is sets at.round x there).0;
    }

-- what holds of both holds of the candidates
pub candidates_meet : (P : List ℕ → Type 0) (last bucket : ℕ) (known drawn now : List ℕ) → now ≡ sets_for last bucket known drawn → P known → P drawn → P now
candidates_meet P last bucket known drawn now is of_known of_drawn =
    elim (cases_eq last bucket) [
      | inl same ↦ subst P (sym (is ∙ cond-true _ _ _ (eq-eqb _ _ same))) of_known
      | inr other ↦ subst P (sym (is ∙ cond-false _ _ _ (ne_eqb _ _ other))) of_drawn
    ]

-- every set is a set, and they rise
pub every_in : (n k : ℕ) (all : List ℕ) → all ≡ below n → k ≡ n → All (λ x. x < k) all
every_in n k all is same = subst (All (λ x. x < k)) (sym is) (λ i d lt. omega (arith, below-Contains n (get_or (below n) i d) (Contains-get_or (below n) i d lt), same))

pub every_rises : (n : ℕ) (all : List ℕ) → all ≡ below n → IsStrictlyIncreasing all
every_rises n all is = subst IsStrictlyIncreasing (sym is) (IsStrictlyIncreasing-below n)

-- the homes of the seats are those that the loop began with
pub at_home : (sets : List (List ℕ)) (bid_table owner_table : List ℕ) (bid_home owner_home bid_home' owner_home' : Home) (p : PackedSets) (round by : List ℕ) (at : At) (s : State) → bid_home ≡ bid_home' → owner_home ≡ owner_home' →
    IsCovering sets bid_table owner_table bid_home owner_home p round by at s → IsCovering sets bid_table owner_table bid_home' owner_home' p round by at s
at_home sets bid_table owner_table bid_home owner_home bid_home' owner_home' p round by at s same_bid same_owner h =
    subst (λ x. IsCovering sets bid_table owner_table x owner_home' p round by at s) same_bid (subst (λ x. IsCovering sets bid_table owner_table bid_home x p round by at s) same_owner h)
