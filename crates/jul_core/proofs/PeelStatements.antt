-- The laws of a peeling by buckets, each as one statement that a contract can cite.
use Rattle.jul_core.specs.PeelWork.{Work, IsStart, IsUnderWay, GoesOn, IsPeeledOut}
use Rattle.std.specs.Prelude.{◌≡◌, ℕ, ◌+◌, ◌<◌, ◌≤◌, List, [], ◌∷◌, ◌++◌, ◌==◌, length, count_by, All}
use Rattle.std.specs.List.Sorted.{IsStrictlyIncreasing}
use Rattle.jul_base.specs.declared.graphs.RawGraph.{RawGraph}
use Rattle.jul_base.specs.declared.results.Cores.{Cores}
use Rattle.jul_base.specs.Graph.{vertices, IsLawful}
use Rattle.jul_base.specs.Levels.{next_bound, taken, peeling}
use Rattle.jul_base.specs.Logs.{Entry, ADD}
use Rattle.jul_base.specs.Symmetry.{IsSymmetric}
use Rattle.jul_core.specs.Peels.{draws_before, AreWritten, IsPeeled, IsLowered, AreDegrees, IsDrawnAt, AreCoredBy, AreCores}
use Rattle.jul_bucket.specs.declared.draws.Draw.{Draw}
use Rattle.jul_bucket.specs.Places.{ids_at, AllNone}
use Rattle.jul_core.specs.FirstHeld.{IsFirstHeld}
use Rattle.jul_core.specs.PeelPlaces.{CountsEachPlace, HasAddsOf, HasOneAddEach}
use Rattle.jul_count.specs.Adds.{HasAddsFrom}
use Rattle.jul_core.specs.PeelMoves.{moves_of}
use Rattle.jul_count.specs.Counts.{AreNotedCounts}
use Rattle.jul_bucket.specs.Places.{emptied, set_places}

-- buckets that hold the degrees, and no draws, are a start
abbrev pub DegreesStart : Type 0
DegreesStart = (g : RawGraph) (places : List ℕ) → IsLawful g → AreDegrees g places → IsPeeled g 0 places []

-- a round keeps what is kept
abbrev pub RoundsKeep : Type 0
RoundsKeep =
    (g : RawGraph) (t bucket : ℕ) (old new : List ℕ) (draws : List Draw) → IsLawful g → IsSymmetric g →
    IsPeeled g t old draws → IsFirstHeld old bucket → IsLowered g old bucket new →
    IsPeeled g (t + 1) new (draws ++ record { bucket = bucket; ids = ids_at old bucket } ∷ [])

-- there are fewer rounds than vertices as long as a bucket holds an id
abbrev pub RoundsAreFew : Type 0
RoundsAreFew =
    (g : RawGraph) (t bucket : ℕ) (places : List ℕ) (draws : List Draw) → IsLawful g →
    IsPeeled g t places draws → IsFirstHeld places bucket → t < vertices g

-- once no bucket holds an id, each vertex stands in exactly one draw, which is its level, in the bucket of its coreness
abbrev pub EachIsDrawnOnce : Type 0
EachIsDrawnOnce =
    (g : RawGraph) (t : ℕ) (places : List ℕ) (draws : List Draw) → IsLawful g → IsPeeled g t places draws → AllNone places →
    (v : ℕ) → v < vertices g → (i : ℕ) × IsDrawnAt g draws v i

-- columns that bear out the draws are then right
abbrev pub ColumnsAreRight : Type 0
ColumnsAreRight =
    (g : RawGraph) (t : ℕ) (places : List ℕ) (draws : List Draw) (cores : Cores) → IsLawful g → IsPeeled g t places draws → AllNone places →
    AreCoredBy g draws cores → AreCores g cores

-- and each place of the graph was counted once
abbrev pub PlacesAreCountedOnce : Type 0
PlacesAreCountedOnce =
    (g : RawGraph) (t : ℕ) (places : List ℕ) (draws : List Draw) → IsLawful g → IsPeeled g t places draws → AllNone places →
    CountsEachPlace g draws

-- the moves made of the counts lower the places
abbrev pub CountsLower : Type 0
CountsLower =
    (g : RawGraph) (old : List ℕ) (bucket : ℕ) (counts : List (ℕ × ℕ)) → length old ≡ vertices g → IsFirstHeld old bucket →
    AreNotedCounts g (ids_at old bucket) counts →
    IsLowered g old bucket (set_places (emptied old bucket) (moves_of (emptied old bucket) bucket counts))

-- columns in which each level is written stay right
abbrev pub ColumnsKeep : Type 0
ColumnsKeep =
    (g : RawGraph) (t : ℕ) (old new : Cores) → AreCoredBy g (draws_before g t) old →
    AreWritten (taken g (peeling g t)) t old.level new.level →
    AreWritten (taken g (peeling g t)) (next_bound g (peeling g t)) old.core new.core →
    AreCoredBy g (draws_before g (t + 1)) new

-- the adds of one more draw are those of the draws with it
abbrev pub AddsKeep : Type 0
AddsKeep =
    (g : RawGraph) (draws : List Draw) (draw : Draw) (log gained : List Entry) → HasAddsOf g draws log → HasAddsFrom g draw.ids gained →
    HasAddsOf g (draws ++ draw ∷ []) (log ++ gained)

-- and at the end there is one for each place
abbrev pub AddsAreAll : Type 0
AddsAreAll =
    (g : RawGraph) (t : ℕ) (places : List ℕ) (draws : List Draw) (log : List Entry) → IsLawful g → IsPeeled g t places draws → AllNone places →
    HasAddsOf g draws log → HasOneAddEach g log

-- as long as rounds go on, the log has no more adds than there are places
abbrev pub AddsAreFew : Type 0
AddsAreFew =
    (g : RawGraph) (t : ℕ) (places : List ℕ) (draws : List Draw) (log : List Entry) → IsLawful g → IsPeeled g t places draws →
    HasAddsOf g draws log → count_by (λ (e : Entry). e.kind == ADD) log ≤ length g.targets

-- the drawn ids are vertices, in increasing order
abbrev pub IdsAreASubset : Type 0
IdsAreASubset =
    (g : RawGraph) (places : List ℕ) (bucket : ℕ) → length places ≡ vertices g →
    IsStrictlyIncreasing (ids_at places bucket) × All (λ v. v < vertices g) (ids_at places bucket)

-- a whole round: the first bucket is drawn, what its ids reach is counted, and the moves are made
abbrev pub WholeRoundsKeep : Type 0
WholeRoundsKeep =
    (g : RawGraph) (t bucket : ℕ) (old new ids : List ℕ) (draws draws' : List Draw) (counts : List (ℕ × ℕ)) → IsLawful g → IsSymmetric g →
    IsPeeled g t old draws → IsFirstHeld old bucket → ids ≡ ids_at old bucket → AreNotedCounts g ids counts →
    new ≡ set_places (emptied old bucket) (moves_of (emptied old bucket) bucket counts) →
    draws' ≡ draws ++ record { bucket = bucket; ids = ids } ∷ [] → IsPeeled g (t + 1) new draws'

-- the loop starts, goes on and ends right
abbrev pub WorkStarts : Type 0
WorkStarts = (g : RawGraph) (w : Work) → IsLawful g → IsStart g w → IsUnderWay g w

abbrev pub WorkGoesOn : Type 0
WorkGoesOn =
    (g : RawGraph) (bucket : ℕ) (ids : List ℕ) (counts : List (ℕ × ℕ)) (gained : List Entry) (old new : Work) → IsLawful g → IsSymmetric g →
    IsUnderWay g old → GoesOn g bucket ids counts gained old new → IsUnderWay g new

abbrev pub WorkEnds : Type 0
WorkEnds = (g : RawGraph) (w : Work) → IsLawful g → IsUnderWay g w → AllNone w.places → IsPeeledOut g w
