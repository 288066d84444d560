-- What a search for least distances keeps from round to round.
use Rattle.std.specs.Prelude.{◌≡◌, ◌≢◌, ℕ, ◌/◌, ◌<◌, ◌≤◌, List, length, Contains, slice_index}
use Rattle.jul_base.specs.declared.graphs.RawGraph.{RawGraph}
use Rattle.jul_base.specs.declared.limits.TheConstants.{NONE}
use Rattle.jul_base.specs.Graph.{vertices, target, weight, IsPlaceOf}
use Rattle.jul_base.specs.DistanceList.{distance_list}
use Rattle.jul_dist.specs.declared.limits.TheConstants.{MAX_SUM}
use Rattle.jul_base.specs.Logs.{Home}
use Rattle.jul_words.specs.Seats.{Seat, IsSeatOf, IsAlone}
use Rattle.jul_bucket.specs.declared.orders.Order.TheVariants.{Increasing}
use Rattle.jul_bucket.specs.declared.draws.Draw.{Draw}
use Rattle.jul_bucket.specs.States.{State}
use Rattle.jul_words.specs.Least.{word_of}
use Rattle.jul_dist.specs.Relaxing.{offer, AreSums}
use Rattle.jul_dist.specs.Draws.{IsLastDraw}

-- Between two rounds, by the numbers of the vertices, their places and the draws so far. No number is below the distance.
-- A vertex that has a place has that of its number. One that has none offers nothing that is less than what a target has,
-- and if it has a number, it was last drawn from the bucket of that number
pub record IsAdvancing (g : RawGraph) (sources : List ℕ) (delta : ℕ) (values places : List ℕ) (draws : List Draw) : Type 0 where
  pub size : length values ≡ vertices g
  pub places_size : length places ≡ vertices g
  pub starts : (s : ℕ) → Contains sources s → slice_index values s ≡ 0
  pub floors : (v : ℕ) → v < vertices g → slice_index (distance_list g sources) v ≤ slice_index values v
  pub within : (v : ℕ) → v < vertices g → slice_index values v ≢ NONE → slice_index values v ≤ MAX_SUM
  pub in_place : (v : ℕ) → v < vertices g → slice_index places v ≢ NONE → (slice_index values v ≢ NONE) × (slice_index places v ≡ slice_index values v / delta)
  pub closed : (u p : ℕ) → IsPlaceOf g u p → slice_index places u ≡ NONE → offer values u (weight g p) ≤ MAX_SUM →
      slice_index values (target g p) ≤ offer values u (weight g p)
  pub drawn : (v : ℕ) → v < vertices g → slice_index places v ≡ NONE → slice_index values v ≢ NONE → IsLastDraw draws v (slice_index values v / delta)

-- The same with the words and the buckets: each word is the number of its vertex by the root's log alone, no
-- word falls below its distance, and nothing above MAX_SUM was offered
pub record IsSearching (g : RawGraph) (sources : List ℕ) (delta : ℕ) (table : List ℕ) (home : Home) (values : List ℕ) (seat : Seat) (s : State) : Type 0 where
  pub advancing : IsAdvancing g sources delta values s.places s.draws
  pub order : s.order ≡ Increasing
  pub exact : (v : ℕ) → v < vertices g → word_of seat v ≡ slice_index values v
  pub home_is : seat.home ≡ home
  pub floors : home.floors ≡ distance_list g sources
  pub of_table : IsSeatOf table seat
  pub words : length home.starts ≡ vertices g
  pub alone : IsAlone seat
  pub offers : AreSums seat.log
