-- All that the rounds of a cover carry, what a turn asks for, and what it does.
use Rattle.std.specs.Prelude.{◌≡◌, ◌≢◌, ℕ, ◌+◌, ◌<◌, ◌≤◌, ◌==◌, not, List, length, All, Contains, slice_index, if◌then◌else◌}
use Rattle.std.specs.List.{filter, flat_map, sum_by}
use Rattle.std.specs.List.Sorted.{IsStrictlyIncreasing}
use Rattle.jul_base.specs.declared.limits.TheConstants.{NONE, MAX_N}
use Rattle.jul_base.specs.Logs.{Home}
use Rattle.jul_base.specs.Numbers.{IsLeastOrNone}
use Rattle.jul_base.specs.Sets.{has}
use Rattle.jul_base.specs.CoverRounds.{set_at, size as size_of, greatest_size, floor_log2, covered_before, chosen_in}
use Rattle.jul_words.specs.Seats.{Seat}
use Rattle.jul_words.specs.Least.{word_of}
use Rattle.jul_bucket.specs.declared.orders.Order.TheVariants.{Decreasing}
use Rattle.jul_bucket.specs.Places.{set_places}
use Rattle.jul_bucket.specs.States.{State}
use Rattle.jul_cover.specs.declared.packed_sets.PackedSets.{PackedSets}
use Rattle.jul_cover.specs.PackedSets.{pack_at, is_open, ArePacked, HasPacked}
use Rattle.jul_cover.specs.CoverBids.{bid_base, IsBidWord}
use Rattle.jul_cover.specs.CoverDraws.{HaveDraws}
use Rattle.jul_cover.specs.Columns.{AreWritten}
use Rattle.jul_cover.specs.Offers.{IsRootOf, HasOffered}
use Rattle.jul_cover.specs.Choosing.{active_of, chosen_of}
use Rattle.jul_cover.specs.CoverMoves.{moves_of}

-- ---- what holds before round t

-- the elements of set s that aren't covered
abbrev pub packed : List (List ℕ) → List ℕ → ℕ → List ℕ
packed sets c s = filter (λ e. not (has c e)) (set_at sets s)

-- a round before t chose s, which holds e, and e wasn't covered before that round
abbrev pub IsOwner : List (List ℕ) → ℕ → ℕ → ℕ → Type 0
IsOwner sets e t s = (u : ℕ) × (u < t) × Contains (chosen_in sets u) s × Contains (set_at sets s) e × (Contains (covered_before sets u) e → ⊥)

-- the round before t in which s is chosen
abbrev pub IsRoundBefore : List (List ℕ) → ℕ → ℕ → ℕ → Type 0
IsRoundBefore sets t s = IsLeastOrNone (λ u. (u < t) × Contains (chosen_in sets u) s)

-- a set that has elements left is in a bucket, which is no less than that of its size
pub record IsStored (sets : List (List ℕ)) (c places : List ℕ) (s : ℕ) : Type 0 where
  pub some : slice_index places s ≢ NONE
  pub high : floor_log2 (size_of sets c s) ≤ slice_index places s

-- where the rounds stand: the next round, the roots of the two tables
pub record At : Type 0 where
  pub round : ℕ
  pub bids : Seat
  pub owners : Seat

-- what the loop carries: columns, packed sets, words and buckets are those before the round
pub record IsCovering (sets : List (List ℕ)) (bid_table owner_table : List ℕ) (bid_home owner_home : Home) (p : PackedSets) (round by : List ℕ) (at : At) (s : State) : Type 0 where
  pub n : p.n ≡ length sets
  pub packed_well : ArePacked p
  pub packs : (x : ℕ) → x < length sets → filter (λ e. not (has (covered_before sets at.round) e)) (pack_at p x) ≡ packed sets (covered_before sets at.round) x
  pub few : at.round ≤ length sets
  pub bid_root : IsRootOf (length sets) bid_table at.bids
  pub owner_root : IsRootOf (length sets) owner_table at.owners
  pub bid_home_is : at.bids.home ≡ bid_home
  pub owner_home_is : at.owners.home ≡ owner_home
  pub round_size : length round ≡ length sets
  pub by_size : length by ≡ length sets
  pub bids : (e : ℕ) → e < length sets → IsBidWord sets e at.round (word_of at.bids e)
  pub owners : (e : ℕ) → e < length sets → IsLeastOrNone (IsOwner sets e at.round) (slice_index by e)
  pub by_words : (e : ℕ) → e < length sets → word_of at.owners e ≡ slice_index by e
  pub rounds : (x : ℕ) → x < length sets → IsRoundBefore sets at.round x (slice_index round x)
  pub order : s.order ≡ Decreasing
  pub places_size : length s.places ≡ length sets
  pub stored : (x : ℕ) → x < length sets → 0 < size_of sets (covered_before sets at.round) x → IsStored sets (covered_before sets at.round) s.places x
  pub low : (x : ℕ) → x < length sets → slice_index s.places x ≢ NONE → slice_index s.places x < NONE
  pub made : (u : ℕ) → u < at.round → 0 < greatest_size sets (covered_before sets u)
  pub draws : HaveDraws sets s.draws at.round

-- ---- a turn

-- what a turn asks for, once a bucket was drawn
pub record CanTurn (bid_table owner_table : List ℕ) (bucket : ℕ) (drawn : List ℕ) (p : PackedSets) (round by : List ℕ) (at : At) (s : State) : Type 0 where
  pub packed_well : ArePacked p
  pub increasing : IsStrictlyIncreasing drawn
  pub in_range : All (λ x. x < p.n) drawn
  pub few : at.round ≤ MAX_N
  pub bid_root : IsRootOf p.n bid_table at.bids
  pub owner_root : IsRootOf p.n owner_table at.owners
  pub round_size : length round ≡ p.n
  pub by_size : length by ≡ p.n
  pub order : s.order ≡ Decreasing
  pub front : s.front ≡ bucket
  pub is_bucket : bucket < NONE
  pub places_size : length s.places ≡ p.n
  pub out : All (λ x. slice_index s.places x ≡ NONE) drawn
  pub small : All (λ x. floor_log2 (length (filter (is_open by) (pack_at p x))) ≤ bucket) drawn

-- the next round, if some set was active
abbrev pub next_round : ℕ → List ℕ → ℕ
next_round t active = if length active == 0 then t else t + 1

-- what the chosen sets were given: each its round, each of their elements the least of them, and what became of the drawn sets
pub record HasGiven (drawn chosen : List ℕ) (pack : ℕ → List ℕ) (round by round' by' : List ℕ) (at at' : At) (s s' : State) : Type 0 where
  pub owned : HasOffered chosen pack 0 at.owners at'.owners
  pub rounds : AreWritten chosen (λ _. at.round) round round'
  pub by_are : AreWritten (flat_map pack chosen) (word_of at'.owners) by by'
  pub moved : s' ≡ record s { places = set_places s.places (moves_of pack round' drawn) }

-- what a turn did: the drawn sets were packed, the active ones bid, those that won half took their elements, the others went to
-- the buckets of their sizes
pub record HasTurned (bucket : ℕ) (drawn : List ℕ) (p p' : PackedSets) (round by round' by' : List ℕ) (at at' : At) (s s' : State) : Type 0 where
  pub packed : HasPacked by drawn p p'
  pub bid : HasOffered (active_of (pack_at p') bucket drawn) (pack_at p') (bid_base at.round) at.bids at'.bids
  pub chosen : List ℕ
  pub chosen_are : chosen ≡ chosen_of (pack_at p') (word_of at'.bids) (bid_base at.round) bucket (active_of (pack_at p') bucket drawn)
  pub owned : HasOffered chosen (pack_at p') 0 at.owners at'.owners
  pub rounds : AreWritten chosen (λ _. at.round) round round'
  pub by_are : AreWritten (flat_map (pack_at p') chosen) (word_of at'.owners) by by'
  pub round_is : at'.round ≡ next_round at.round (active_of (pack_at p') bucket drawn)
  pub moved : s' ≡ record s { places = set_places s.places (moves_of (pack_at p') round' drawn) }

-- falls with each turn
abbrev pub remaining : List ℕ → ℕ
remaining places = sum_by (λ p. if p == NONE then 0 else p + 1) places
