-- All that the loop of a peeling carries, what a turn does to it, and what is handed back.
use Rattle.std.specs.Prelude.{◌≡◌, ◌≢◌, ℕ, ◌<◌, All, slice_index, List, [], ◌∷◌, ◌++◌, length}
use Rattle.jul_base.specs.declared.graphs.RawGraph.{RawGraph}
use Rattle.jul_base.specs.declared.results.Cores.{Cores}
use Rattle.jul_base.specs.Graph.{vertices}
use Rattle.jul_base.specs.Logs.{Entry, Home}
use Rattle.jul_words.specs.Seats.{Seat, IsSeatOf, IsAlone}
use Rattle.jul_bucket.specs.declared.orders.Order.TheVariants.{Increasing}
use Rattle.jul_bucket.specs.States.{State}
use Rattle.jul_count.specs.Adds.{AreZero, CanCount, HasCounted}
use Rattle.jul_base.specs.declared.limits.TheConstants.{NONE}
use Rattle.std.specs.List.Sorted.{IsStrictlyIncreasing}
use Rattle.jul_core.specs.Peels.{draws_before, IsPeeled, AreDegrees, AreCoredBy, AreCores, IsDrawnAt}
use Rattle.jul_bucket.specs.declared.draws.Draw.{Draw}
use Rattle.jul_bucket.specs.Places.{ids_at}
use Rattle.jul_core.specs.FirstHeld.{IsFirstHeld}
use Rattle.jul_core.specs.PeelPlaces.{HasAddsOf, HasOneAddEach}
use Rattle.jul_count.specs.Adds.{HasAddsFrom}
use Rattle.jul_core.specs.PeelMoves.{moves_of}
use Rattle.jul_count.specs.Counts.{AreNotedCounts}
use Rattle.jul_bucket.specs.Places.{emptied, set_places}

-- the places and draws of the buckets, and the entries of the log
pub record Work : Type 0 where
  pub places : List ℕ
  pub draws : List Draw
  pub log : List Entry

-- what holds before each turn
pub record IsUnderWay (g : RawGraph) (w : Work) : Type 0 where
  pub peeled : IsPeeled g (length w.draws) w.places w.draws
  pub adds : HasAddsOf g w.draws w.log

-- nothing was drawn yet, and the buckets hold the degrees
pub record IsStart (g : RawGraph) (w : Work) : Type 0 where
  pub degrees : AreDegrees g w.places
  pub no_draws : w.draws ≡ []
  pub no_entries : w.log ≡ []

-- the first bucket was drawn, what its ids reach was counted, and the moves were made
pub record GoesOn (g : RawGraph) (bucket : ℕ) (ids : List ℕ) (counts : List (ℕ × ℕ)) (gained : List Entry) (old new : Work) : Type 0 where
  pub first : IsFirstHeld old.places bucket
  pub ids_are : ids ≡ ids_at old.places bucket
  pub draws_are : new.draws ≡ old.draws ++ record { bucket = bucket; ids = ids } ∷ []
  pub counts_are : AreNotedCounts g ids counts
  pub gained_are : HasAddsFrom g ids gained
  pub log_is : new.log ≡ old.log ++ gained
  pub places_are : new.places ≡ set_places (emptied old.places bucket) (moves_of (emptied old.places bucket) bucket counts)

-- each level as a draw in the bucket of its coreness, each vertex in one draw, columns of these draws right, and one add for each place
pub record IsPeeledOut (g : RawGraph) (w : Work) : Type 0 where
  pub columns : (cores : Cores) → AreCoredBy g w.draws cores → AreCores g cores
  pub levels : w.draws ≡ draws_before g (length w.draws)
  pub once : (v : ℕ) → v < vertices g → (t : ℕ) × IsDrawnAt g w.draws v t
  pub adds : HasOneAddEach g w.log

-- the loop's work, from the buckets and the log
abbrev pub work_of : State → List Entry → Work
work_of s log = record { places = s.places; draws = s.draws; log = log }

-- between two rounds: the work, and the root of a table with a word for each vertex, all of them 0
pub record IsPeeling (g : RawGraph) (table : List ℕ) (home : Home) (seat : Seat) (s : State) : Type 0 where
  pub under_way : IsUnderWay g (work_of s seat.log)
  pub order : s.order ≡ Increasing
  pub home_is : seat.home ≡ home
  pub of_table : IsSeatOf table seat
  pub words : length seat.home.starts ≡ vertices g
  pub alone : IsAlone seat
  pub zero : AreZero seat

-- what a round asks for, once a bucket was drawn: its ids are vertices, whoever is in a bucket is in a later one, and the words are 0
pub record CanRound (g : RawGraph) (table : List ℕ) (bucket : ℕ) (ids : List ℕ) (seat : Seat) (s : State) : Type 0 where
  pub increasing : IsStrictlyIncreasing ids
  pub within : All (λ v. v < vertices g) ids
  pub can_count : CanCount (vertices g) table seat
  pub order : s.order ≡ Increasing
  pub front : s.front ≡ bucket
  pub size : length s.places ≡ vertices g
  pub later : (v : ℕ) → v < vertices g → slice_index s.places v ≢ NONE → bucket < slice_index s.places v

-- what the ids reach was counted, and the moves were made
pub record HasRound (g : RawGraph) (bucket : ℕ) (ids : List ℕ) (old new : Seat) (before after : State) : Type 0 where
  pub counts : List (ℕ × ℕ)
  pub counts_are : AreNotedCounts g ids counts
  pub counted_is : HasCounted g ids old new
  pub zero : AreZero new
  pub moved : after ≡ record before { places = set_places before.places (moves_of before.places bucket counts) }
