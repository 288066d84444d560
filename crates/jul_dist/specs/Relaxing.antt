-- One round: what is offered to words, and what is left of them.
use Rattle.std.specs.Prelude.{◌≡◌, ℕ, ◌+◌, ◌<◌, ◌≤◌, List, [], ◌∷◌, Bool, false, ◌||◌, nat_lt, length, slice_index, All, Contains}
use Rattle.jul_base.specs.declared.graphs.RawGraph.{RawGraph}
use Rattle.jul_base.specs.Graph.{vertices, target, weight, IsPlaceOf}
use Rattle.jul_base.specs.Logs.{Log, Entry, Home, LOWER}
use Rattle.jul_words.specs.Weights.{counted}
use Rattle.jul_words.specs.Seats.{Seat, IsAlone, floor_of, entry}
use Rattle.jul_words.specs.Least.{word_of, IsSettled}
use Rattle.jul_edge.specs.Edges.{Application}
use Rattle.jul_dist.specs.declared.limits.TheConstants.{MAX_SUM}

-- what a source offers over a place of this weight
abbrev pub offer : List ℕ → ℕ → ℕ → ℕ
offer values u w = slice_index values u + w

-- the offer of an application
abbrev pub offer_of : List ℕ → Application → ℕ
offer_of values a = offer values a.source a.weight

-- An application offers up to MAX_SUM: it logs what it offered, and answers whether the word was greater. What is above
-- that isn't offered, and nothing is logged
pub record Relaxes (values : List ℕ) (a : Application) (answer : Bool) (added : Log) : Type 0 where
  pub made : offer_of values a ≤ MAX_SUM →
      added ≡ (entry LOWER a.target (offer_of values a) (counted answer) ∷ []) ∷ []
  pub withheld : MAX_SUM < offer_of values a → (answer ≡ false) × (added ≡ [])

-- it may be made with a seat of this home: both vertices are there, and nothing below the floor is offered
pub record CanRelax (values : List ℕ) (a : Application) (homes : List Home) : Type 0 where
  pub home : Home
  pub homes_are : homes ≡ home ∷ []
  pub source : a.source < length values
  pub target : a.target < length home.starts
  pub floor : offer_of values a ≤ MAX_SUM → floor_of home a.target ≤ offer_of values a

-- what members offer is no less than the floors
abbrev pub AreAboveFloors : RawGraph → List ℕ → List ℕ → Home → Type 0
AreAboveFloors g members values home = (u p : ℕ) → IsPlaceOf g u p → Contains members u → offer values u (weight g p) ≤ MAX_SUM →
    floor_of home (target g p) ≤ offer values u (weight g p)

-- c was offered to v over a place of a member
pub record IsOffered (g : RawGraph) (members values : List ℕ) (v c : ℕ) : Type 0 where
  pub source : ℕ
  pub place : ℕ
  pub is_place : IsPlaceOf g source place
  pub member : Contains members source
  pub target_is : target g place ≡ v
  pub number_is : c ≡ offer values source (weight g place)
  pub within : c ≤ MAX_SUM

-- whether places that lead to v are walked: those to vertices that have more than the least, or to every vertex
abbrev pub may_fall : Bool → ℕ → List ℕ → ℕ → Bool
may_fall every least values v = every || nat_lt least (slice_index values v)

-- no number above MAX_SUM was offered
abbrev pub AreSums : List Entry → Type 0
AreSums log = All (λ (e : Entry). e.number ≤ MAX_SUM) log

-- What a round leaves. No word rises or falls below its floor. Over each place of a member, to a target that has more than
-- the least, the target has no more than what was offered, if that was within MAX_SUM. A vertex whose word fell is
-- listed, and the word is what some member offered, so it isn't below the least
pub record HasRelaxed (g : RawGraph) (members values : List ℕ) (least : ℕ) (old new : Seat) (lowered : List ℕ) : Type 0 where
  pub within : All (λ v. v < vertices g) lowered
  pub home : new.home ≡ old.home
  pub alone : IsAlone new
  pub settled : IsSettled new.home new.log
  pub falls : (v : ℕ) → word_of new v ≤ word_of old v
  pub floors : (v : ℕ) → v < vertices g → floor_of old.home v ≤ word_of new v
  pub reached : (u p : ℕ) → IsPlaceOf g u p → Contains members u → least < slice_index values (target g p) →
      offer values u (weight g p) ≤ MAX_SUM → word_of new (target g p) ≤ offer values u (weight g p)
  pub fell : (v : ℕ) → v < vertices g → word_of new v < word_of old v → Contains lowered v × IsOffered g members values v (word_of new v)
  pub ahead : (v : ℕ) → v < vertices g → word_of new v < word_of old v → least ≤ word_of new v
  pub offers : AreSums old.log → AreSums new.log
