-- Where a search starts, and what it gives.
use Rattle.std.proofs.Common.{◌≡◌, ◌≢◌, ℕ, ◌+◌, ◌/◌, ◌<◌, ◌≤◌, List, [], ◌∷◌, ◌++◌, length, get_or, set, replicate, take, refl, ap, sym, ◌∙◌, subst, arith, inl, inr}
use Rattle.std.specs.Prelude.{Contains}
use Rattle.std.specs.List.{All}
use Rattle.std.proofs.lemmas.Bool.{cases_eq}
use Rattle.std.proofs.lemmas.List.{length-set, take_more, take_all, get_or-replicate, get_or-set_same, get_or-set_other}
use Rattle.std.proofs.lemmas.List.Elements.{All-nil, All-contains, Contains-append_left, Contains-push, Contains-push_cases, All-weaker}
use Rattle.jul_base.specs.declared.graphs.RawGraph.{RawGraph}
use Rattle.jul_base.specs.declared.limits.TheConstants.{NONE}
use Rattle.jul_base.specs.Graph.{vertices, IsLawful}
use Rattle.jul_base.specs.Sources.{first_numbers}
use Rattle.jul_base.specs.Distances.{AreDistances}
use Rattle.jul_base.specs.DistanceList.{distance_list}
use Rattle.jul_base.specs.Logs.{Home, Entry}
use Rattle.jul_base.proofs.SourceLaws.{length-first, first_source, first_some, first_is}
use Rattle.jul_base.proofs.DistanceListLaws.{distance_list-is}
use Rattle.jul_base.proofs.CappedLaws.{first_floors}
use Rattle.jul_words.specs.Seats.{Seat, AreFloorsOf, rooted}
use Rattle.jul_edge.specs.EdgeMaps.{CanStamp}
use Rattle.jul_bucket.specs.declared.orders.Order.TheVariants.{Increasing}
use Rattle.jul_bucket.specs.declared.draws.Draw.{Draw}
use Rattle.jul_bucket.specs.Places.{AllNone}
use Rattle.jul_bucket.specs.States.{State}
use Rattle.jul_words.specs.Least.{word_of}
use Rattle.jul_dist.specs.Relaxing.{AreSums}
use Rattle.jul_dist.specs.Draws.{IsLastDraw}
use Rattle.jul_dist.specs.declared.limits.TheConstants.{MAX_SUM}
use Rattle.jul_dist.specs.Advancing.{IsAdvancing, IsSearching}
use Rattle.jul_dist.proofs.AdvanceLaws.{div-le}
use Rattle.jul_dist.proofs.SearchLaws.{none_left}

-- ---- the first numbers

-- these sources have 0, and no other vertex has a number
pub record AreStarted (n : ℕ) (sources values : List ℕ) : Type 0 where
  pub size : length values ≡ n
  pub zero_at : (v : ℕ) → v < n → Contains sources v → get_or values v 0 ≡ 0
  pub none_at : (v : ℕ) → v < n → (Contains sources v → ⊥) → get_or values v 0 ≡ NONE

pub none_started : (values : List ℕ) → values ≡ replicate (length values) NONE → AreStarted (length values) [] values
none_started values none = record {
  size = refl;
  zero_at = λ v lt (k, k_lt, is). absurd (omega (arith, k_lt));
  none_at = λ v lt other. ap (λ l. get_or l v 0) none ∙ get_or-replicate (length values) v NONE 0 lt;
}

pub started_more : (n : ℕ) (sources values : List ℕ) (i : ℕ) → i < length sources → get_or sources i 0 < n → AreStarted n (take i sources) values → AreStarted n (take (i + 1) sources) (set values (get_or sources i 0) 0)
started_more n sources values i lt s_in h =
    let s : ℕ = get_or sources i 0 in
    let taken : take (i + 1) sources ≡ take i sources ++ s ∷ [] = take_more sources i 0 lt in
    let in_list : s < length values = omega (arith, s_in, h.size) in
    let s_there : Contains (take (i + 1) sources) s = subst (λ l. Contains l s) (sym taken) (Contains-push (take i sources) s) in
    record {
      size = length-set values s 0 ∙ h.size;
      zero_at = λ v v_in there. elim (cases_eq v s) [
        | inl e ↦ ap (λ x. get_or (set values s 0) x 0) e ∙ get_or-set_same values s 0 0 in_list
        | inr ne ↦ elim (Contains-push_cases (take i sources) s v (subst (λ l. Contains l v) taken there)) [
          | inl before ↦ get_or-set_other values s v 0 0 ne ∙ h.zero_at v v_in before
          | inr e ↦ absurd (ne (sym e))
        ]
      ];
      none_at = λ v v_in other.
          let ne : v ≢ s = λ e. other (subst (Contains (take (i + 1) sources)) (sym e) s_there) in
          get_or-set_other values s v 0 0 ne
          ∙ h.none_at v v_in (λ before. other (subst (λ l. Contains l v) (sym taken) (Contains-append_left (take i sources) (s ∷ []) v before)));
    }

pub started_are_first : (n : ℕ) (sources values : List ℕ) → AreStarted n sources values → values ≡ first_numbers n sources
started_are_first n sources values h = first_is n sources values h.size (λ v lt. (h.zero_at v lt, h.none_at v lt))

-- ---- the start of a search

module _ (g : RawGraph) (lawful : IsLawful g) (sources : List ℕ) (sources_in : All (λ s. s < vertices g) sources) (delta : ℕ) (some_delta : 1 ≤ delta) where
  abbrev First : List ℕ
  First = first_numbers (vertices g) sources

  zero_div : 0 / delta ≡ 0
  zero_div = omega (arith, div-le 0 delta some_delta)

  first_advancing : IsAdvancing g sources delta First First []
  first_advancing = record {
    size = length-first (vertices g) sources;
    places_size = length-first (vertices g) sources;
    starts = λ s there. first_source (vertices g) sources s (in_range s there) there;
    floors = λ v lt. first_floors g lawful sources sources_in v lt;
    within = λ v lt some. omega (arith, (first_some (vertices g) sources v lt some).1);
    in_place = λ v lt some.
        let zero_here : get_or First v 0 ≡ 0 = (first_some (vertices g) sources v lt some).1 in
        (some, zero_here ∙ sym (ap (λ x. x / delta) zero_here ∙ zero_div));
    closed = λ u p at none few. absurd (omega (arith, none, few));
    drawn = λ v lt none some. absurd (some none);
  } where
    in_range : (s : ℕ) → Contains sources s → s < vertices g
    in_range s there = All-contains (λ s. s < vertices g) sources s sources_in there

  pub begun : (table values : List ℕ) (seat : Seat) (s : State) (home : Home) → s.order ≡ Increasing → values ≡ First → home.table ≡ table → home.starts ≡ First → home.floors ≡ distance_list g sources → seat ≡ rooted home →
      s.places ≡ First → s.draws ≡ [] → IsSearching g sources delta table seat.home values seat s
  begun table values seat s home order first table_is starts floors root places draws =
      let home_is : seat.home ≡ home = ap (λ (x : Seat). x.home) root in
      record {
        advancing = subst (λ l. IsAdvancing g sources delta values l s.draws) (sym places) (subst (λ (l : List Draw). IsAdvancing g sources delta values First l) (sym draws)
            (subst (λ l. IsAdvancing g sources delta l First []) (sym first) first_advancing));
        order = order;
        exact = λ v lt. ap (λ (x : Seat). word_of x v) root ∙ ap (λ l. get_or l v 0) (starts ∙ sym first);
        home_is = refl;
        floors = ap (λ (x : Home). x.floors) home_is ∙ floors;
        of_table = ap (λ (x : Home). x.table) home_is ∙ table_is;
        words = ap (λ (x : Home). length x.starts) home_is ∙ ap (λ (l : List ℕ). length l) starts ∙ length-first (vertices g) sources;
        alone = (ap (λ (x : Seat). x.root) root, ap (λ (x : Seat). x.out) root);
        offers = subst AreSums (sym (ap (λ (x : Seat). x.log) root)) (All-nil (λ (e : Entry). e.number ≤ MAX_SUM));
      }

  -- ---- its end
  pub found : (table : List ℕ) (home : Home) (values dist : List ℕ) (seat : Seat) (s : State) → IsSearching g sources delta table home values seat s → AllNone s.places → dist ≡ values →
      AreDistances g sources dist
  found table home values dist seat s h none is =
      subst (AreDistances g sources) (sym (is ∙ none_left g lawful sources sources_in delta table home values seat s h none)) (distance_list-is g lawful sources sources_in)

pub started_whole : (n : ℕ) (sources values : List ℕ) (i : ℕ) → length sources ≤ i → AreStarted n (take i sources) values → values ≡ first_numbers n sources
started_whole n sources values i past h = started_are_first n (take i sources) values h ∙ ap (first_numbers n) (take_all i sources past)

-- each vertex that has a distance was last drawn from its bucket
pub found_drawn : (g : RawGraph) (sources : List ℕ) (delta : ℕ) (table : List ℕ) (home : Home) (values dist : List ℕ) (seat : Seat) (s : State) →
    IsSearching g sources delta table home values seat s → AllNone s.places → dist ≡ values →
    (v : ℕ) → v < vertices g → get_or dist v 0 ≢ NONE → IsLastDraw s.draws v (get_or dist v 0 / delta)
found_drawn g sources delta table home values dist seat s h none is =
    subst (λ l. (v : ℕ) → v < vertices g → get_or l v 0 ≢ NONE → IsLastDraw s.draws v (get_or l v 0 / delta)) (sym is)
    (λ v lt some. h.advancing.drawn v lt (none v 0 (omega (arith, lt, h.advancing.places_size))) some)

-- ---- tables and buckets that a search may start with

pub first_few : (n most : ℕ) (sources start : List ℕ) → start ≡ first_numbers n sources → n ≤ most → length start ≤ most
first_few n most sources start is few = omega (arith, ap (λ (l : List ℕ). length l) is, length-first n sources)

pub first_above : (g : RawGraph) → IsLawful g → (sources : List ℕ) → All (λ s. s < vertices g) sources → (n : ℕ) (start : List ℕ) → start ≡ first_numbers n sources → n ≡ vertices g →
    AreFloorsOf start (distance_list g sources)
first_above g lawful sources sources_in n start is n_is =
    let first : start ≡ first_numbers (vertices g) sources = is ∙ ap (λ m. first_numbers m sources) n_is in
    let size : length start ≡ vertices g = ap (λ (l : List ℕ). length l) first ∙ length-first (vertices g) sources in
    record {
      as_many = (distance_list-is g lawful sources sources_in).size ∙ sym size;
      below = λ v lt. omega (arith, first_floors g lawful sources sources_in v (omega (arith, lt, size)), ap (λ l. get_or l v 0) first);
    }

-- a table that may be stamped with the first round may be stamped with any
pub stamps_any : (n : ℕ) (table : List ℕ) (seat : Seat) (draws round : ℕ) → CanStamp n table 1 seat → draws < round → CanStamp n table round seat
stamps_any n table seat draws round h later = record {
  of_table = h.of_table;
  words = h.words;
  alone = h.alone;
  some = omega (arith, later);
  above = All-weaker (λ (e : Entry). e.number < 1) (λ (e : Entry). e.number < round) (λ e lt. omega (arith, lt, later)) seat.log h.above;
}
