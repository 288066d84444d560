-- Vertices that offer themselves to those that their places lead to.
use Rattle.std.specs.Prelude.{◌≡◌, ℕ, ◌<◌, ◌≤◌, List, [], ◌∷◌, Bool, true, length, Contains}
use Rattle.jul_base.specs.declared.graphs.RawGraph.{RawGraph}
use Rattle.jul_base.specs.Graph.{target, IsPlaceOf}
use Rattle.jul_base.specs.Logs.{Log, Home}
use Rattle.jul_words.specs.Seats.{floor_of}
use Rattle.jul_words.specs.Least.{lowering}
use Rattle.jul_edge.specs.Edges.{Application}

-- place p leads from the member u to v
pub record IsOfferedAt (g : RawGraph) (members : List ℕ) (v u p : ℕ) : Type 0 where
  pub from : IsPlaceOf g u p
  pub member : Contains members u
  pub to : target g p ≡ v

-- a place leads from the member u to v
abbrev pub IsOffered : RawGraph → List ℕ → ℕ → ℕ → Type 0
IsOffered g members v u = (p : ℕ) × IsOfferedAt g members v u p

-- an application logs its source for its target, and answers true
pub record Offers (a : Application) (answer : Bool) (added : Log) : Type 0 where
  pub answer_is : answer ≡ true
  pub found : ℕ
  pub added_is : added ≡ (lowering a.target a.source found ∷ []) ∷ []

-- it may be made with a seat of this home: the target has a word, whose floor is no more than the source
pub record CanOffer (a : Application) (homes : List Home) : Type 0 where
  pub home : Home
  pub homes_are : homes ≡ home ∷ []
  pub word : a.target < length home.starts
  pub not_below : floor_of home a.target ≤ a.source
