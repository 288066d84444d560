-- What is added at each place, by each chunk, and what the root then drains.
use Rattle.std.specs.Prelude.{◌≡◌, ℕ, ◌++◌, ◌<◌, ◌==◌, List, [], ◌∷◌, Bool, true, All, length, map}
use Rattle.std.specs.List.{flat_map, count_by}
use Rattle.jul_base.specs.declared.graphs.RawGraph.{RawGraph}
use Rattle.jul_base.specs.Graph.{vertices, IsLawful}
use Rattle.jul_base.specs.Logs.{Log, Entry, Home, ADD}
use Rattle.jul_words.specs.Weights.{counted, weigh}
use Rattle.jul_words.specs.Seats.{Seat, entry}
use Rattle.jul_words.specs.Counts.{draining, tally, is_first, AreTallies}
use Rattle.jul_rows.specs.Visits.{Step, Visited, push_steps}
use Rattle.jul_pool.specs.Added.{HasAdded}
use Rattle.jul_count.specs.Adds.{HasAddsFrom}

-- every target is wanted
abbrev pub all_wanted : ℕ → Bool
all_wanted v = true

-- the add of a place, and whether its target was 0
abbrev pub add_of : Step → Bool → Entry
add_of s first = entry ADD s.target s.place (counted first)

-- a place adds to a log of one part
abbrev pub AddsOne : Step → Bool → Log → Type 0
AddsOne s first added = added ≡ (add_of s first ∷ []) ∷ []

-- a visit of a place
abbrev pub VisitAdds : {T : Type 0} → (T → Log) → Visited → T → T → Type 0
VisitAdds log x old new = HasAdded (AddsOne x.step) (log old) (log new) x.noted

-- the places of the listed vertices, in order
abbrev pub steps_of : RawGraph → List ℕ → List Step
steps_of g ids = flat_map (push_steps g all_wanted) ids

-- a chunk may be run: each member is a vertex, and the table has a word for each vertex
pub record MayCount (g : RawGraph) (members : List ℕ) (home : List Home) : Type 0 where
  pub lawful : IsLawful g
  pub members_in : All (λ u. u < vertices g) members
  pub words : All (λ (h : Home). length h.starts ≡ vertices g) home

-- the places of all chunks were added, the entries stand behind those of the old log, and each vertex is noted as often as
-- it was 0 at an add
pub record AddedAll (g : RawGraph) (members : List ℕ) (old new : Seat) (noted : List ℕ) : Type 0 where
  pub gained : List Entry
  pub seat_is : new ≡ record { home = old.home; root = old.root; out = old.out; log = old.log ++ gained }
  pub adds : HasAddsFrom g members gained
  pub only : All (λ (e : Entry). e.kind ≡ ADD) gained
  pub within : All (λ v. v < vertices g) noted
  pub noted_are : (v : ℕ) → count_by (λ x. x == v) noted ≡ weigh (is_first v) gained

-- the same, and before and after the root knows each word by the log alone
pub record HasAddedRound (g : RawGraph) (members : List ℕ) (old new : Seat) (noted : List ℕ) : Type 0 where
  pub added : AddedAll g members old new noted
  pub before : AreTallies old.home old.log
  pub after : AreTallies new.home new.log

-- a vertex with what its word is by a log
abbrev pub word_in : List Entry → ℕ → ℕ × ℕ
word_in log v = (v, tally v log)

-- a log, and behind it a drain of each of some vertices
abbrev pub drained_each : List Entry → List ℕ → List Entry
drained_each log ids = log ++ map (λ v. draining v (tally v log)) ids
