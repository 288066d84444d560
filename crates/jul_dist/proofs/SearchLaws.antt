-- One round of a search, from the draw to the moves.
use Rattle.std.proofs.Common.{◌≡◌, ◌≢◌, ℕ, ◌*◌, ◌/◌, ◌<◌, ◌≤◌, List, [], ◌∷◌, ◌++◌, length, get_or, refl, ap, sym, ◌∙◌, subst, arith, inl, inr}
use Rattle.std.specs.Prelude.{Contains, Option, Some, None, Vec, MatchOption}
use Rattle.std.specs.Global.{Global}
use Rattle.std.specs.List.{All}
use Rattle.std.specs.List.Sorted.{IsStrictlyIncreasing}
use Rattle.std.proofs.lemmas.Bool.{cases_eq, cases_lt}
use Rattle.std.proofs.lemmas.List.{get_or_default}
use Rattle.std.proofs.lemmas.List.Elements.{All-weaker, All-from_get_or, Contains-get_or}
use Rattle.jul_base.specs.declared.graphs.RawGraph.{RawGraph}
use Rattle.jul_base.specs.declared.limits.TheConstants.{NONE}
use Rattle.jul_base.specs.Graph.{vertices, IsLawful}
use Rattle.jul_base.specs.DistanceList.{distance_list}
use Rattle.jul_base.specs.Logs.{Home}
use Rattle.jul_words.specs.Seats.{Seat, IsSeatOf}
use Rattle.jul_subset.specs.Subsets.{IsSubset}
use Rattle.jul_edge.specs.declared.functions.Direction.TheVariants.{Push}
use Rattle.jul_edge.specs.EdgeMaps.{listed}
use Rattle.jul_dist.specs.declared.limits.TheConstants.{MAX_SUM}
use Rattle.jul_bucket.specs.declared.orders.Order.{Order}
use Rattle.jul_bucket.specs.declared.orders.Order.TheVariants.{Increasing}
use Rattle.jul_bucket.specs.declared.draws.Draw.{Draw}
use Rattle.jul_bucket.specs.Orders.{IsNotBehind}
use Rattle.jul_bucket.specs.Places.{ids_at, emptied, set_places, AllNone}
use Rattle.jul_bucket.specs.States.{State, IsState, IsDrawn}
use Rattle.jul_bucket.proofs.IdLaws.{Contains-ids_at, ids_at-Contains, IsStrictlyIncreasing-ids_at, length-emptied, emptied-here, emptied-other}
use Rattle.jul_words.specs.Least.{word_of}
use Rattle.jul_base.proofs.SetLaws.{member_cases}
use Rattle.jul_dist.specs.Relaxing.{HasRelaxed, AreAboveFloors}
use Rattle.jul_dist.specs.Draws.{NeverFall}
use Rattle.jul_dist.specs.Moving.{placed, remaining, bucket_of, moves_of, CanGo, HasTaken, HasMoved}
use Rattle.jul_dist.specs.Advancing.{IsAdvancing, IsSearching}
use Rattle.jul_dist.proofs.PlacedLaws.{placed_emptied}
use Rattle.jul_dist.proofs.GroupLaws.{moved_once}
use Rattle.jul_subset.proofs.IncreasingLaws.{length_below}
use Rattle.jul_dist.proofs.AdvanceLaws.{div-le, AreIn, ArePlaced, all_ahead, bucket_small, above_floors, advances, not_behind, ended}

module _ (g : RawGraph) (lawful : IsLawful g) (sources : List ℕ) (sources_in : All (λ s. s < vertices g) sources) (delta : ℕ) (some_delta : 1 ≤ delta) (table : List ℕ) (home : Home)
    (values : List ℕ) (seat : Seat) (s : State) (h : IsSearching g sources delta table home values seat s) (b : ℕ) (ids : List ℕ) (mid : State) (drawn : IsDrawn s b ids mid) where
  abbrev a : IsAdvancing g sources delta values s.places s.draws
  a = h.advancing

  in_bucket : b ≢ NONE
  in_bucket e = absurd (omega (arith, e, drawn.first.is_bucket))

  are_in : AreIn s.places b ids
  are_in v = (
    λ there. ids_at-Contains s.places b v (subst (λ l. Contains l v) drawn.ids_are there),
    λ lt is. subst (λ l. Contains l v) (sym drawn.ids_are) (Contains-ids_at s.places b v lt is),
  )

  -- what the round may ask for
  pub increasing : IsStrictlyIncreasing ids
  increasing = subst IsStrictlyIncreasing (sym drawn.ids_are) (IsStrictlyIncreasing-ids_at s.places b)

  id_in : (v : ℕ) → Contains ids v → v < vertices g
  id_in v there = omega (arith, ((are_in v).0 there).0, a.places_size)

  pub within : All (λ v. v < vertices g) ids
  within = All-from_get_or (λ v. v < vertices g) ids 0 (λ k lt. id_in (get_or ids k 0) (Contains-get_or ids k 0 lt))

  -- some vertex is drawn
  one_id : (v : ℕ) × Contains ids v
  one_id =
      let k : ℕ = drawn.first.held.0 in
      let lt : k < length s.places = drawn.first.held.1 in
      let at : get_or s.places k 0 ≡ b = get_or_default s.places k 0 b lt ∙ drawn.first.held.2 in
      (k, (are_in k).1 lt at)

  pub some_vertex : 0 < vertices g
  some_vertex = let lt : one_id.0 < vertices g = id_in one_id.0 one_id.1 in omega arith

  pub ahead : All (λ u. b * delta ≤ get_or values u 0) ids
  ahead = all_ahead g lawful sources sources_in delta some_delta values s.places s.draws a b ids in_bucket are_in

  pub small : b * delta ≤ MAX_SUM
  small = bucket_small g lawful sources sources_in delta some_delta values s.places s.draws a b ids in_bucket are_in one_id.0 one_id.1

  seat_floors : seat.home.floors ≡ distance_list g sources
  seat_floors = ap (λ (x : Home). x.floors) h.home_is ∙ h.floors

  pub floors : AreAboveFloors g ids values seat.home
  floors = above_floors g lawful sources sources_in delta some_delta values s.places s.draws a b ids in_bucket are_in seat seat_floors

  pub words : length seat.home.starts ≡ vertices g
  words = ap (λ (x : Home). length x.starts) h.home_is ∙ h.words

  mid_places : mid.places ≡ emptied s.places b
  mid_places = ap (λ (t : State). t.places) drawn.after

  mid_front : mid.front ≡ b
  mid_front = ap (λ (t : State). t.front) drawn.after

  abbrev Drawn : Draw
  Drawn = record { bucket = b; ids = ids_at s.places b }

  mid_order : mid.order ≡ Increasing
  mid_order = ap (λ (t : State). t.order) drawn.after ∙ h.order

  mid_draws : mid.draws ≡ s.draws ++ Drawn ∷ []
  mid_draws = ap (λ (t : State). t.draws) drawn.after

  -- the drawn vertices as a subset
  pub is_subset : IsSubset (listed Push (vertices g) ids)
  is_subset = record { few = omega (arith, lawful.few_vertices); increasing = increasing; within = within }

  module _ (seat' : Seat) (lowered : List ℕ) (relaxed : HasRelaxed g ids values (b * delta) seat seat' lowered) where
    pub lowered_in : All (λ v. v < length values) lowered
    lowered_in = All-weaker (λ v. v < vertices g) (λ v. v < length values) (λ v lt. omega (arith, lt, a.size)) lowered relaxed.within

    pub words' : length seat'.home.starts ≡ length values
    words' = ap (λ (x : Home). length x.starts) relaxed.home ∙ words ∙ sym a.size

    pub table' : IsSeatOf table seat'
    table' = ap (λ (x : Home). x.table) relaxed.home ∙ h.of_table

    module _ (values' fell : List ℕ) (taken : HasTaken (word_of seat') values values' lowered fell) where
      falls : (v : ℕ) → v < vertices g → word_of seat' v ≤ get_or values v 0
      falls v lt = omega (arith, relaxed.falls v, h.exact v lt)

      -- the numbers are the words again
      pub exact' : (v : ℕ) → v < vertices g → word_of seat' v ≡ get_or values' v 0
      exact' v lt = elim (cases_lt (word_of seat' v) (get_or values v 0)) [
        | inl less ↦
            let there : Contains lowered v = (relaxed.fell v lt (omega (arith, less, h.exact v lt))).0 in
            omega (arith, less, taken.lowered v (omega (arith, lt, a.size)) there)
        | inr same ↦ elim (cases_eq (get_or values' v 0) (get_or values v 0)) [
          | inl e ↦ omega (arith, same, e, falls v lt)
          | inr ne ↦ absurd (ne (stays v lt same))
        ]
      ] where
        stays : (v : ℕ) → v < vertices g → get_or values v 0 ≤ word_of seat' v → get_or values' v 0 ≡ get_or values v 0
        stays v lt same = elim (member_cases lowered v) [
          | inl there ↦ omega (arith, same, falls v lt, taken.lowered v (omega (arith, lt, a.size)) there)
          | inr other ↦ taken.kept v other
        ]

      mid_size : length mid.places ≡ length values
      mid_size = ap (λ (l : List ℕ). length l) mid_places ∙ length-emptied s.places b ∙ a.places_size ∙ sym a.size

      fell_in : (v : ℕ) → Contains fell v → v < length values
      fell_in v there = ((taken.fell_are v).0 there).0

      pub fell_within : (n : ℕ) → n ≡ vertices g → All (λ v. v < n) fell
      fell_within n is = All-from_get_or (λ v. v < n) fell 0 (λ k lt. omega (arith, is, a.size, fell_in (get_or fell k 0) (Contains-get_or fell k 0 lt)))

      -- a number that fell is small, and so is its bucket
      some_bucket : (v : ℕ) → Contains fell v → bucket_of delta values' v ≢ NONE
      some_bucket v there none =
          let (v_in, less) = (taken.fell_are v).0 there in
          let small_enough : get_or values v 0 ≤ NONE = elim (cases_eq (get_or values v 0) NONE) [
            | inl e ↦ omega (arith, e)
            | inr some ↦ omega (arith, a.within v (omega (arith, v_in, a.size)) some)
          ] in
          absurd (omega (arith, none, less, small_enough, div-le (get_or values' v 0) delta some_delta))

      in_mid : (v : ℕ) → v < length values → v < length mid.places
      in_mid v lt = omega (arith, lt, mid_size)

      in_places : (v : ℕ) → v < length values → v < length s.places
      in_places v lt = omega (arith, lt, a.size, a.places_size)

      size' : length values' ≡ vertices g
      size' = taken.size ∙ a.size

      draws_are : s.draws ++ (record { bucket = b; ids = ids }) ∷ [] ≡ mid.draws
      draws_are = ap (λ (l : List ℕ). let d : Draw = record { bucket = b; ids = l } in s.draws ++ d ∷ []) drawn.ids_are ∙ sym mid_draws

      -- the vertices whose numbers fell were moved
      module _ (t : State) (moved : HasMoved delta values' fell mid t) where
        still_at : (v : ℕ) → v < length values → get_or values' v 0 ≡ get_or values v 0 → get_or t.places v 0 ≡ get_or (emptied s.places b) v 0
        still_at v lt same =
            moved.still v (in_mid v lt) (λ there. absurd (omega (arith, same, ((taken.fell_are v).0 there).1))) ∙ ap (λ l. get_or l v 0) mid_places

        -- each vertex whose number fell has a new place, the others that of the emptied bucket
        are_placed : ArePlaced delta ids values values' s.places t.places
        are_placed = record {
          fell = λ v lt less.
              let there : Contains fell v = (taken.fell_are v).1 (lt, less) in
              moved.there v (in_mid v lt) there (some_bucket v there);
          taken = λ v lt same there. still_at v lt same ∙ emptied-here s.places b v (in_places v lt) ((are_in v).0 there).1;
          same = λ v lt same other. still_at v lt same ∙ emptied-other s.places b v (in_places v lt) (λ is. other ((are_in v).1 (in_places v lt) is));
        }

        places_size' : length t.places ≡ vertices g
        places_size' = moved.size ∙ mid_size ∙ a.size

        next_advancing : IsAdvancing g sources delta values' t.places (s.draws ++ (record { bucket = b; ids = ids }) ∷ [])
        next_advancing =
            advances g lawful sources sources_in delta some_delta values s.places s.draws a b ids in_bucket are_in seat seat' lowered values' t.places seat_floors
            h.exact exact' relaxed size' places_size' are_placed

        -- none of them goes behind the front
        goes_on : (v : ℕ) → Contains fell v → IsNotBehind mid.order (bucket_of delta values' v) mid.front
        goes_on v there =
            let (v_in, less) = (taken.fell_are v).0 there in
            let ahead' : b ≤ get_or values' v 0 / delta =
            not_behind g lawful sources sources_in delta some_delta values s.places s.draws a b ids in_bucket are_in seat seat' lowered values' t.places seat_floors
            h.exact exact' relaxed size' places_size' are_placed v (omega (arith, v_in, a.size)) less in
            subst (λ (o : Order). IsNotBehind o (bucket_of delta values' v) mid.front) (sym mid_order) (omega (arith, ahead', mid_front))

        pub fewer : remaining values' t.places < remaining values s.places
        fewer =
            let less : placed (emptied s.places b) < placed s.places = placed_emptied s.places b in_bucket drawn.first.held in
            omega (arith, moved.few, taken.less, less, ap placed mid_places)

        pub next : IsSearching g sources delta table home values' seat' t
        next = record {
          advancing = subst (λ (l : List Draw). IsAdvancing g sources delta values' t.places l) (draws_are ∙ sym (ap (λ (x : State). x.draws) moved.state_is)) next_advancing;
          order = ap (λ (x : State). x.order) moved.state_is ∙ mid_order;
          exact = exact';
          home_is = relaxed.home ∙ h.home_is;
          floors = h.floors;
          of_table = table';
          words = h.words;
          alone = relaxed.alone;
          offers = relaxed.offers h.offers;
        }

      -- where they are to go is known before they are moved
      pub can_go : All (CanGo mid delta values') fell
      can_go =
          let t : State = record mid { places = set_places mid.places (moves_of mid delta values' fell) } in
          let moved : HasMoved delta values' fell mid t = moved_once delta values' mid t fell (λ v there. in_mid v (fell_in v there)) refl in
          All-from_get_or (CanGo mid delta values') fell 0
          (λ k lt.
          let there : Contains fell (get_or fell k 0) = Contains-get_or fell k 0 lt in
          let v_in : get_or fell k 0 < length values = fell_in (get_or fell k 0) there in
          record { in_places = in_mid (get_or fell k 0) v_in; in_values = omega (arith, v_in, taken.size); not_behind = goes_on t moved (get_or fell k 0) there })

-- where no vertex has a place, the numbers are the distances
pub none_left : (g : RawGraph) → IsLawful g → (sources : List ℕ) → All (λ s. s < vertices g) sources → (delta : ℕ) (table : List ℕ) (home : Home)
    (values : List ℕ) (seat : Seat) (s : State) → IsSearching g sources delta table home values seat s → AllNone s.places → values ≡ distance_list g sources
none_left g lawful sources sources_in delta table home values seat s h none =
    ended g lawful sources sources_in delta values s.places s.draws h.advancing (λ v lt. none v 0 (omega (arith, lt, h.advancing.places_size)))

-- ---- the same for the values that a loop has

-- a bucket was drawn
pub drawn_at : (s mid : State) (o : Option (ℕ × Vec ℕ Global)) (b : ℕ) (ids : Vec ℕ Global) → o ≡ Some (b, ids) →
    MatchOption o (AllNone s.places × (mid ≡ s)) (λ d. IsDrawn s d.0 d.1.items mid) → IsDrawn s b ids.items mid
drawn_at s mid o b ids is h = subst (λ x. MatchOption x (AllNone s.places × (mid ≡ s)) (λ d. IsDrawn s d.0 d.1.items mid)) is h

-- none was left, and the search is as it was
pub ended_at : (P : State → Type 0) (s mid : State) (o : Option (ℕ × Vec ℕ Global)) → o ≡ None →
    MatchOption o (AllNone s.places × (mid ≡ s)) (λ d. IsDrawn s d.0 d.1.items mid) → P s → P mid × AllNone mid.places
ended_at P s mid o is h p =
    let e : AllNone s.places × (mid ≡ s) = subst (λ x. MatchOption x (AllNone s.places × (mid ≡ s)) (λ d. IsDrawn s d.0 d.1.items mid)) is h in
    (subst P (sym e.1) p, subst (λ (t : State). AllNone t.places) (sym e.1) e.0)

module _ (g : RawGraph) (lawful : IsLawful g) (sources : List ℕ) (sources_in : All (λ s. s < vertices g) sources) (delta : ℕ) (some_delta : 1 ≤ delta) (table : List ℕ) (home : Home)
    (values : List ℕ) (seat : Seat) (s : State) (h : IsSearching g sources delta table home values seat s) (b : ℕ) (ids : List ℕ) (mid : State) (drawn : IsDrawn s b ids mid) where
  -- the vertices that were drawn, as a list that is lent
  module _ (from : List ℕ) (from_is : from ≡ ids) where
    pub from_in : IsSubset (listed Push (vertices g) from)
    from_in = subst (λ l. IsSubset (listed Push (vertices g) l)) (sym from_is) (is_subset g lawful sources sources_in delta some_delta table home values seat s h b ids mid drawn)

    pub from_few : length from ≤ 16777216
    from_few = omega (arith, length_below from (vertices g) from_in.increasing from_in.within, lawful.few_vertices)

    pub ahead_at : All (λ u. b * delta ≤ get_or values u 0) from
    ahead_at = subst (λ l. All (λ u. b * delta ≤ get_or values u 0) l) (sym from_is) (ahead g lawful sources sources_in delta some_delta table home values seat s h b ids mid drawn)

    pub floors_at : AreAboveFloors g from values seat.home
    floors_at = subst (λ l. AreAboveFloors g l values seat.home) (sym from_is) (floors g lawful sources sources_in delta some_delta table home values seat s h b ids mid drawn)

    -- what a round finds: its words, and the vertices whose numbers fell
    module _ (seat' seat'' : Seat) (lowered : List ℕ) (relaxed : HasRelaxed g from values (b * delta) seat seat' lowered) (same : seat'' ≡ seat')
        (found values' fell sent : List ℕ) (found_is : found ≡ lowered) (taken : HasTaken (word_of seat') values values' found fell) (sent_is : sent ≡ fell) where
      relaxed' : HasRelaxed g ids values (b * delta) seat seat' lowered
      relaxed' = subst (λ l. HasRelaxed g l values (b * delta) seat seat' lowered) from_is relaxed

      taken' : HasTaken (word_of seat') values values' lowered sent
      taken' = subst (λ l. HasTaken (word_of seat') values values' lowered l) (sym sent_is) (subst (λ l. HasTaken (word_of seat') values values' l fell) found_is taken)

      pub can_go_at : All (CanGo mid delta values') sent
      can_go_at = can_go g lawful sources sources_in delta some_delta table home values seat s h b ids mid drawn seat' lowered relaxed' values' sent taken'

      module _ (after : State) (moved : HasMoved delta values' sent mid after) where
        pub fewer_at : remaining values' after.places < remaining values s.places
        fewer_at = fewer g lawful sources sources_in delta some_delta table home values seat s h b ids mid drawn seat' lowered relaxed' values' sent taken' after moved

        pub next_at : IsSearching g sources delta table home values' seat'' after
        next_at =
            subst (λ x. IsSearching g sources delta table home values' x after) (sym same)
            (next g lawful sources sources_in delta some_delta table home values seat s h b ids mid drawn seat' lowered relaxed' values' sent taken' after moved)

-- ---- the draws

-- the buckets of the draws never fall
pub never_fall : (s : State) → IsState s → s.order ≡ Increasing → NeverFall s.draws
never_fall s state order i j d less lt = subst (λ (o : Order). IsNotBehind o (get_or s.draws j d).bucket (get_or s.draws i d).bucket) order (state.drawn i j d less lt)
