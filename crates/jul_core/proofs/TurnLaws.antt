-- A turn of the loop, from the draw to the next one.
use Rattle.std.proofs.Common.{◌≡◌, ◌≢◌, ℕ, ◌+◌, ◌-◌, ◌<◌, ◌≤◌, ◌^◌, List, [], length, length-append, get_or, eqb, sym, ◌∙◌, ap, subst, refl, arith, inl, inr, Vec, Global}
use Rattle.std.specs.Prelude.{All, slice_index, Option, MatchOption, Some}
use Rattle.std.specs.List.{IsDistinct}
use Rattle.std.specs.List.Sorted.{IsStrictlyIncreasing}
use Rattle.std.proofs.lemmas.Bool.{cases_eq, eqb-true}
use Rattle.std.proofs.lemmas.Bool.Decides.{Decides-eqb}
use Rattle.std.proofs.lemmas.List.{length-map, length-replicate}
use Rattle.std.proofs.lemmas.List.Elements.{All-map, All-contains}
use Rattle.std.proofs.lemmas.List.Folds.{Any-from_list_any}
use Rattle.std.proofs.lemmas.Map.Made.{IsDistinct-from_AllPairs}
use Rattle.std.proofs.lemmas.Map.Steps.{length-le_from_distinct_below}
use Rattle.jul_base.specs.declared.graphs.RawGraph.{RawGraph}
use Rattle.jul_base.specs.declared.limits.TheConstants.{NONE}
use Rattle.jul_base.specs.Graph.{vertices, IsLawful}
use Rattle.jul_base.specs.Logs.{Home}
use Rattle.jul_base.specs.Symmetry.{IsSymmetric}
use Rattle.jul_words.specs.Seats.{Seat, rooted, zeros}
use Rattle.jul_words.specs.Counts.{adds, drained}
use Rattle.jul_count.specs.Counts.{AreNotedCounts, counted}
use Rattle.jul_bucket.specs.declared.orders.Order.{Order}
use Rattle.jul_bucket.specs.declared.orders.Order.TheVariants.{Increasing}
use Rattle.jul_bucket.specs.Places.{ids_at, emptied, set_places, AllNone}
use Rattle.jul_bucket.specs.States.{State, IsDrawn}
use Rattle.jul_count.specs.Adds.{CanCount}
use Rattle.jul_core.specs.FirstHeld.{IsFirstHeld}
use Rattle.jul_core.specs.Peels.{AreDegrees}
use Rattle.jul_core.specs.PeelMoves.{CanLower}
use Rattle.jul_core.specs.PeelWork.{IsPeeling, CanRound, HasRound, IsPeeledOut, work_of}
use Rattle.jul_core.proofs.LowerLaws.{emptied-drawn, emptied-other}
use Rattle.jul_core.proofs.PeelStatementLaws.{rounds_are_few}
use Rattle.jul_core.proofs.WholeLaws.{ids_are_a_subset, adds_are_few}
use Rattle.jul_core.proofs.WorkLaws.{work_starts, work_goes_on, work_ends}
use Rattle.jul_core.proofs.StateLaws.{turn}

-- a bucket was drawn
pub drawn_at : (s mid : State) (o : Option (ℕ × Vec ℕ Global)) (b : ℕ) (ids : Vec ℕ Global) → o ≡ Some (b, ids) →
    MatchOption o (AllNone s.places × (mid ≡ s)) (λ d. IsDrawn s d.0 d.1.items mid) → IsDrawn s b ids.items mid
drawn_at s mid o b ids is h = subst (λ x. MatchOption x (AllNone s.places × (mid ≡ s)) (λ d. IsDrawn s d.0 d.1.items mid)) is h

module _ (g : RawGraph) (lawful : IsLawful g) (table : List ℕ) (home : Home) (seat : Seat) (s : State) (h : IsPeeling g table home seat s)
    (bucket : ℕ) (ids : List ℕ) (mid : State) (drawn : IsDrawn s bucket ids mid) where
  places_are : mid.places ≡ emptied s.places bucket
  places_are = ap (λ (s : State). s.places) drawn.after

  size : length s.places ≡ vertices g
  size = h.under_way.peeled.places_are.size

  first : IsFirstHeld s.places bucket
  first = subst (λ (o : Order). Rattle.jul_bucket.specs.Places.IsFirstHeld o s.places bucket) h.order drawn.first

  subset : IsStrictlyIncreasing ids × All (λ v. v < vertices g) ids
  subset = subst (λ l. IsStrictlyIncreasing l × All (λ v. v < vertices g) l) (sym drawn.ids_are) (ids_are_a_subset g s.places bucket size)

  pub can_count : CanCount (vertices g) table seat
  can_count = record {
    of_table = h.of_table;
    words = h.words;
    alone = h.alone;
    zero = h.zero;
    few = (let few = adds_are_few g (length s.draws) s.places s.draws seat.log lawful h.under_way.peeled h.under_way.adds in omega (arith, few, lawful.few_places));
  }

  later : (v : ℕ) → v < vertices g → slice_index mid.places v ≢ NONE → bucket < slice_index mid.places v
  later v lt some =
      let in' : v < length s.places = omega (arith, size, lt) in
      let at : slice_index mid.places v ≡ slice_index (emptied s.places bucket) v = ap (λ l. slice_index l v) places_are in
      elim (cases_eq (slice_index s.places v) bucket) [
        | inl here ↦ absurd (some (at ∙ emptied-drawn s.places bucket v in' here))
        | inr other ↦
            let same : slice_index mid.places v ≡ slice_index s.places v = at ∙ emptied-other s.places bucket v in' other in
            let no_earlier : bucket ≤ slice_index s.places v = first.first v 0 in' (λ none. some (same ∙ none)) in
            grind (arith, same, no_earlier, other)
      ]

  pub can_round : CanRound g table bucket ids seat mid
  can_round = record {
    increasing = subset.0;
    within = subset.1;
    can_count = can_count;
    order = ap (λ (s : State). s.order) drawn.after ∙ h.order;
    front = ap (λ (s : State). s.front) drawn.after;
    size = ap length places_are ∙ length-map s.places _ ∙ size;
    later = later;
  }

  draws_grew : (seat' : Seat) (new : State) → HasRound g bucket ids seat seat' mid new → length new.draws ≡ length s.draws + 1
  draws_grew seat' new round =
      ap (λ (s : State). length s.draws) round.moved ∙ ap (λ (s : State). length s.draws) drawn.after ∙ length-append s.draws _

  -- fewer rounds are left
  pub fewer : (seat' : Seat) (new : State) → HasRound g bucket ids seat seat' mid new → vertices g - length new.draws < vertices g - length s.draws
  fewer seat' new round =
      let few : length s.draws < vertices g = rounds_are_few g (length s.draws) bucket s.places s.draws lawful h.under_way.peeled first in
      omega (arith, few, draws_grew seat' new round)

  pub still_peeling : IsSymmetric g → (seat' : Seat) (new : State) → HasRound g bucket ids seat seat' mid new → IsPeeling g table home seat' new
  still_peeling symmetric seat' new round =
      let did = round.counted_is in
      let homes : seat'.home ≡ seat.home = ap (λ (s : Seat). s.home) did.seat_is in
      let goes = turn g bucket ids round.counts did.gained seat.log seat'.log s mid new h.order drawn
      round.counts_are did.adds (ap (λ (s : Seat). s.log) did.seat_is) round.moved in
      record {
        under_way = work_goes_on g bucket ids round.counts did.gained (work_of s seat.log) (work_of new seat'.log) lawful symmetric h.under_way goes;
        order = ap (λ (s : State). s.order) round.moved ∙ ap (λ (s : State). s.order) drawn.after ∙ h.order;
        home_is = homes ∙ h.home_is;
        of_table = ap (λ (h : Home). h.table) homes ∙ h.of_table;
        words = ap (λ (h : Home). length h.starts) homes ∙ h.words;
        alone = (ap (λ (s : Seat). s.root) did.seat_is ∙ h.alone.0, ap (λ (s : Seat). s.out) did.seat_is ∙ h.alone.1);
        zero = round.zero;
      }

-- what is counted, and lent, may be moved
pub can_lower : (g : RawGraph) (table : List ℕ) (bucket : ℕ) (ids : List ℕ) (seat : Seat) (s : State) (counts lent : List (ℕ × ℕ)) → CanRound g table bucket ids seat s →
    AreNotedCounts g ids counts → lent ≡ counts → CanLower s bucket lent
can_lower g table bucket ids seat s counts lent can are lent_is = subst (CanLower s bucket) (sym lent_is) (record {
  order = can.order;
  front = can.front;
  ahead = λ k d lt.
      let e : ℕ × ℕ = get_or counts k d in
      let within : e.0 < vertices g = are.each.within k d lt in
      let range : e.0 < length s.places = omega (arith, within, can.size) in
      record { in_range = range; some = are.each.some k d lt; later = λ some. can.later e.0 within some };
})

-- no more vertices are counted than there are
pub counts_few : (g : RawGraph) (ids : List ℕ) (counts lent : List (ℕ × ℕ)) → IsLawful g → AreNotedCounts g ids counts → lent ≡ counts → length lent < 2 ^ 32
counts_few g ids counts lent lawful are lent_is =
    let same : length (counted counts) ≡ length counts = length-map counts _ in
    let within : All (λ v. v < vertices g) (counted counts) = All-map (λ v. v < vertices g) (λ (e : ℕ × ℕ). e.0) counts are.each.within in
    let distinct : IsDistinct eqb (counted counts) = IsDistinct-from_AllPairs Decides-eqb (counted counts) are.apart in
    let few : length (counted counts) ≤ vertices g = length-le_from_distinct_below (counted counts) (vertices g) distinct (λ q held.
    let (k, v, lt, at, is) = Any-from_list_any (eqb q) (counted counts) held in
    let same : q ≡ v = eqb-true q v is in
    let in_range : v < vertices g = All-contains (λ (u : ℕ). u < vertices g) (counted counts) v within (k, lt, at) in
    omega arith) in
    omega (arith, same, few, lawful.few_vertices, ap length lent_is)

-- ---- the first turn, and the last

pub start_at : (g : RawGraph) → IsLawful g → (table : List ℕ) (seat : Seat) (s : State) → seat ≡ rooted (zeros table (vertices g)) → s.order ≡ Increasing → AreDegrees g s.places → s.draws ≡ [] →
    IsPeeling g table seat.home seat s
start_at g lawful table seat s seat_is order degrees none =
    let empty : seat.log ≡ [] = ap (λ (s : Seat). s.log) seat_is in record {
      under_way = work_starts g (work_of s seat.log) lawful (record { degrees = degrees; no_draws = none; no_entries = empty });
      order = order;
      home_is = refl;
      of_table = ap (λ (s : Seat). s.home.table) seat_is;
      words = ap (λ (s : Seat). length s.home.starts) seat_is ∙ length-replicate (vertices g) 0;
      alone = (ap (λ (s : Seat). s.root) seat_is, ap (λ (s : Seat). s.out) seat_is);
      zero = λ v near. ap (adds v) empty ∙ sym (ap (drained v) empty);
    }

pub peeled_out : (g : RawGraph) → IsLawful g → (table : List ℕ) (home : Home) (seat : Seat) (s : State) → IsPeeling g table home seat s → AllNone s.places → IsPeeledOut g (work_of s seat.log)
peeled_out g lawful table home seat s h none = work_ends g (work_of s seat.log) lawful h.under_way none
