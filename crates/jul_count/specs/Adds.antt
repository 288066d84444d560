-- The adds of a log, and the places of a graph that they were made for.
use Rattle.std.specs.Prelude.{◌≡◌, ◌≢◌, ℕ, ◌-◌, ◌<◌, ◌^◌, ◌==◌, ◌++◌, List, length, All, if◌then◌else◌}
use Rattle.std.specs.List.{sum_by, range_with_len, count_by}
use Rattle.jul_base.specs.declared.graphs.RawGraph.{RawGraph}
use Rattle.jul_base.specs.Graph.{target, row_start, row_end}
use Rattle.jul_base.specs.Logs.{Entry, ADD, DRAIN}
use Rattle.jul_words.specs.Seats.{Seat, IsSeatOf, IsAlone}
use Rattle.jul_words.specs.Counts.{adds, drained}

-- the places of v, in file order
abbrev pub places_of : RawGraph → ℕ → List ℕ
places_of g v = range_with_len (row_start g v) (row_end g v - row_start g v)

-- a weight for each place, added up over the places from the listed vertices
abbrev pub weight_from : RawGraph → (ℕ → ℕ) → List ℕ → ℕ
weight_from g weight ids = sum_by (λ v. sum_by weight (places_of g v)) ids

-- what an entry weighs: an add by its vertex and its place, whatever its mark, and another nothing
abbrev pub add_weight : (ℕ → ℕ → ℕ) → Entry → ℕ
add_weight weight e = if e.kind == ADD then weight e.vertex e.number else 0

-- the entries have one add for each place from the listed vertices, with its target: they weigh the same, whatever the weights
abbrev pub HasAddsFrom : RawGraph → List ℕ → List Entry → Type 0
HasAddsFrom g ids log = (weight : ℕ → ℕ → ℕ) → sum_by (add_weight weight) log ≡ weight_from g (λ p. weight (target g p) p) ids

-- how many adds a log has
abbrev pub add_count : List Entry → ℕ
add_count log = count_by (λ (e : Entry). e.kind == ADD) log

-- each word is 0 by the log alone: what was added to it was drained
abbrev pub AreZero : Seat → Type 0
AreZero s = (v : ℕ) → v < length s.home.starts → adds v s.log ≡ drained v s.log

-- the root seat, with none out, of a table with a word for each of n vertices; all words are 0, and fewer than 2^63 adds were made
pub record CanCount (n : ℕ) (table : List ℕ) (s : Seat) : Type 0 where
  pub of_table : IsSeatOf table s
  pub words : length s.home.starts ≡ n
  pub alone : IsAlone s
  pub zero : AreZero s
  pub few : add_count s.log < 2 ^ 63

-- the log of the seat gained one add for each place from the listed vertices, and drains; nothing else of the seat is changed
pub record HasCounted (g : RawGraph) (ids : List ℕ) (old new : Seat) : Type 0 where
  pub gained : List Entry
  pub seat_is : new ≡ record { home = old.home; root = old.root; out = old.out; log = old.log ++ gained }
  pub adds : HasAddsFrom g ids gained
  pub others : All (λ (e : Entry). e.kind ≢ ADD → e.kind ≡ DRAIN) gained
