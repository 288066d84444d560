-- What a tree keeps from round to round.
use Rattle.std.specs.Prelude.{◌≡◌, ◌≢◌, ℕ, ◌+◌, ◌<◌, ◌≤◌, List, length, Contains, slice_index}
use Rattle.std.specs.List.Sorted.{IsStrictlyIncreasing}
use Rattle.jul_base.specs.declared.graphs.RawGraph.{RawGraph}
use Rattle.jul_base.specs.declared.limits.TheConstants.{NONE}
use Rattle.jul_base.specs.Numbers.{IsLeast}
use Rattle.jul_base.specs.Graph.{vertices, target, IsPlaceOf}
use Rattle.jul_base.specs.Logs.{Home}
use Rattle.jul_base.specs.Trees.{IsHopCount, IsLastStep}
use Rattle.jul_words.specs.Seats.{Seat, IsSeatOf, IsAlone, floor_of}
use Rattle.jul_words.specs.Least.{word_of}
use Rattle.jul_edge.specs.EdgeMaps.{CanStamp}
use Rattle.jul_tree.specs.Hooking.{key, IsTight, unreached}

-- u is the source of a last step to v
abbrev pub StepsFrom : RawGraph → List ℕ → List ℕ → ℕ → ℕ → Type 0
StepsFrom g dist hops v u = (p : ℕ) × IsLastStep g dist hops v u p

-- the word of v is the key of its hops and its least last step, and NONE for a source and a vertex not reached
pub record HasKey (g : RawGraph) (dist hops : List ℕ) (v word : ℕ) : Type 0 where
  pub none : slice_index hops v ≡ NONE → word ≡ NONE
  pub source : slice_index hops v ≡ 0 → word ≡ NONE
  pub parent : slice_index hops v ≢ NONE → slice_index hops v ≢ 0 → (u : ℕ) × IsLeast (StepsFrom g dist hops v) u × (word ≡ key (slice_index hops v) u)

-- Before the round that gives `hop`: the vertices reached have less, and each of their numbers is the length of a walk of
-- least sum. The members have one less. Tight places of the other vertices reached lead to vertices reached
pub record IsGrowing (g : RawGraph) (sources dist hops members : List ℕ) (hop : ℕ) (words : ℕ → ℕ) : Type 0 where
  pub size : length hops ≡ vertices g
  pub starts : (s : ℕ) → Contains sources s → slice_index hops s ≡ 0
  pub members_have : (v : ℕ) → Contains members v → (v < vertices g) × (slice_index hops v + 1 ≡ hop)
  pub members_are : (v : ℕ) → v < vertices g → slice_index hops v + 1 ≡ hop → Contains members v
  pub few : (v : ℕ) → v < vertices g → slice_index hops v ≢ NONE → slice_index hops v < hop
  pub counts : (v : ℕ) → v < vertices g → slice_index hops v ≢ NONE → IsHopCount g sources v (slice_index hops v)
  pub closed : (u p : ℕ) → IsPlaceOf g u p → IsTight g dist u p → slice_index hops u + 1 < hop →
      (slice_index hops (target g p) ≢ NONE) × (slice_index hops (target g p) ≤ slice_index hops u + 1)
  pub keys : (v : ℕ) → v < vertices g → HasKey g dist hops v (words v)
  pub bound : hop + (unreached hops + length members) ≤ vertices g + 1
  pub some : 1 ≤ hop

-- falls with each round
abbrev pub remaining : List ℕ → List ℕ → ℕ
remaining hops members = unreached hops + length members

-- The same with the words and the stamps: each seat is the root of its table, with none out
pub record IsSearching (g : RawGraph) (sources dist table stamp_table : List ℕ) (home stamp_home : Home) (hops members : List ℕ) (seat stamp_seat : Seat) (hop : ℕ) : Type 0 where
  pub growing : IsGrowing g sources dist hops members hop (word_of seat)
  pub increasing : IsStrictlyIncreasing members
  pub home_is : seat.home ≡ home
  pub of_table : IsSeatOf table seat
  pub words : length home.starts ≡ vertices g
  pub no_floors : (v : ℕ) → floor_of home v ≡ 0
  pub alone : IsAlone seat
  pub stamps : CanStamp (vertices g) stamp_table hop stamp_seat
  pub stamp_home_is : stamp_seat.home ≡ stamp_home
