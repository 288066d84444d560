-- One round: keys that are offered over tight places, and what is left of them.
use Rattle.std.specs.Prelude.{◌≡◌, ◌≢◌, ◌⊎◌, ℕ, ◌+◌, ◌*◌, ◌%◌, ◌<◌, ◌≤◌, ◌==◌, ◌&&◌, not, List, [], ◌∷◌, Bool, true, false, length, slice_index, Contains, count_by, if◌then◌else◌}
use Rattle.jul_base.specs.declared.graphs.RawGraph.{RawGraph}
use Rattle.jul_base.specs.declared.limits.TheConstants.{NONE, MAX_N}
use Rattle.jul_base.specs.Graph.{vertices, target, weight, IsPlaceOf}
use Rattle.jul_base.specs.Logs.{Log, Home, LOWER}
use Rattle.jul_words.specs.Seats.{Seat, IsAlone, floor_of, entry}
use Rattle.jul_words.specs.Least.{word_of}
use Rattle.jul_subset.specs.Subsets.{Subset}
use Rattle.jul_edge.specs.Edges.{Application}

-- hops and parent as one number: fewer hops first, then the lesser parent
abbrev pub key : ℕ → ℕ → ℕ
key hop u = hop * 4294967296 + u

-- the word of each vertex that was reached and is no source is its key
abbrev pub HasKeys : ℕ → List ℕ → (ℕ → ℕ) → List ℕ → List ℕ → Type 0
HasKeys n sources word hops parent = (v : ℕ) → v < n → (Contains sources v → ⊥) → slice_index hops v ≢ NONE →
    word v ≡ key (slice_index hops v) (slice_index parent v)

-- the parent that a key word tells
abbrev pub parent_of : ℕ → ℕ
parent_of word = if word == NONE then NONE else word % 4294967296

-- v wasn't reached yet, and has a distance
abbrev pub is_free : List ℕ → List ℕ → ℕ → Bool
is_free dist hops v = (slice_index hops v == NONE) && not (slice_index dist v == NONE)

-- place p of u is tight: the distance of its target is that of u and the weight together
abbrev pub IsTight : RawGraph → List ℕ → ℕ → ℕ → Type 0
IsTight g dist u p = slice_index dist u + weight g p ≡ slice_index dist (target g p)

-- the place of an application is tight
abbrev pub IsTightTo : List ℕ → Application → Type 0
IsTightTo dist a = slice_index dist a.source + a.weight ≡ slice_index dist a.target

-- over a tight place an application logs a key for its target, and answers true. Else it does nothing and answers false
pub record Hooks (dist : List ℕ) (hop : ℕ) (a : Application) (answer : Bool) (added : Log) : Type 0 where
  pub mark : ℕ
  pub made : IsTightTo dist a → (answer ≡ true) × (added ≡ (entry LOWER a.target (key hop a.source) mark ∷ []) ∷ [])
  pub withheld : (IsTightTo dist a → ⊥) → (answer ≡ false) × (added ≡ [])

-- it may be made with a seat of this home: both vertices are there, the word has no floor, and the key is small
pub record CanHook (dist : List ℕ) (hop : ℕ) (a : Application) (homes : List Home) : Type 0 where
  pub home : Home
  pub homes_are : homes ≡ home ∷ []
  pub source : a.source < length dist
  pub target : a.target < length dist
  pub word : a.target < length home.starts
  pub no_floor : floor_of home a.target ≡ 0
  pub few : hop ≤ MAX_N

-- a tight place p leads from a member u to v, which wasn't reached yet
pub record IsHooked (g : RawGraph) (members dist hops : List ℕ) (v u p : ℕ) : Type 0 where
  pub from : IsPlaceOf g u p
  pub member : Contains members u
  pub to : target g p ≡ v
  pub sum : slice_index dist u + weight g p ≡ slice_index dist v
  pub free : slice_index hops v ≡ NONE
  pub some : slice_index dist v ≢ NONE

-- a member with such a place to v
abbrev pub IsHook : RawGraph → List ℕ → List ℕ → List ℕ → ℕ → ℕ → Type 0
IsHook g members dist hops v u = (p : ℕ) × IsHooked g members dist hops v u p

-- What a round leaves. The subset has the vertices that a tight place of a member leads to and that weren't reached before.
-- No word is above the key of such a member, and a word that changed is one of these keys
pub record HasHooked (g : RawGraph) (members dist hops : List ℕ) (hop : ℕ) (old new : Seat) (hit : Subset) : Type 0 where
  pub n : hit.n ≡ vertices g
  pub home : new.home ≡ old.home
  pub alone : IsAlone new
  pub hit_by : (v : ℕ) → Contains hit.members v → (u : ℕ) × IsHook g members dist hops v u
  pub hits : (v u : ℕ) → IsHook g members dist hops v u → Contains hit.members v
  pub lower : (v u : ℕ) → IsHook g members dist hops v u → word_of new v ≤ key hop u
  pub each : (v : ℕ) → (word_of new v ≡ word_of old v) ⊎ ((u : ℕ) × IsHook g members dist hops v u × (word_of new v ≡ key hop u))

-- how many vertices have no number yet
abbrev pub unreached : List ℕ → ℕ
unreached hops = count_by (λ x. x == NONE) hops

-- these vertices, which had no number, have this one
pub record HasSet (old new ids : List ℕ) (x : ℕ) : Type 0 where
  pub size : length new ≡ length old
  pub here : (v : ℕ) → v < length old → Contains ids v → slice_index new v ≡ x
  pub kept : (v : ℕ) → (Contains ids v → ⊥) → slice_index new v ≡ slice_index old v
  pub fewer : unreached new + length ids ≡ unreached old
