-- The rule of a table of words, by what its words mean.
use Rattle.std.specs.Prelude.{◌≡◌, ℕ, ◌+◌, ◌≤◌, List, [], true, length, drop}
use Rattle.atomic_table.specs.Table.{State, Me, Step}
use Rattle.jul_base.specs.Logs.{Entry, Home}
use Rattle.jul_words.specs.Weights.{weigh, HasSameEntries}
use Rattle.jul_words.specs.Seats.{Seat, IsAlone, home, logs}
use Rattle.jul_words.specs.Views.{View, lives, live_seats, Kin}

-- what the words of a home mean after a history, whose newest entry stands first
abbrev pub Meaning : Type 1
Meaning = Home → List ℕ → List Entry → Type 0

-- the words mean a history, which is that of the live views
pub record Ruled (R : Meaning) (h : Home) (words : List ℕ) (views : List View) : Type 0 where
  pub history : List Entry
  pub kin : Kin h views history
  pub holds : R h words history

-- what a table keeps gives a rule in plain form: of its live seats, under the table's own name
abbrev pub StandFor : Meaning → (Home → List ℕ → List Seat → Type 0) → Type 0
StandFor R Rule = (h : Home) (words table : List ℕ) (views : List View) → Ruled R h words views → Rule (home table h.starts h.floors) (drop 1 words) (live_seats table views)

-- what a log says by itself, whatever the name of the table
abbrev pub InAnyTable : (Home → List Entry → Type 0) → Home → List Entry → Type 0
InAnyTable Settled h log = (table : List ℕ) → Settled (home table h.starts h.floors) log

-- what the words mean settles each log with the entries of the history
abbrev pub Settles : Meaning → (Home → List Entry → Type 0) → Type 0
Settles R Settled = (h : Home) (words : List ℕ) (history log : List Entry) → R h words history → HasSameEntries log history → InAnyTable Settled h log

-- what a seat knows of the history
pub record Knows (s : Seat) (history : List Entry) : Type 0 where
  pub own : (f : Entry → ℕ) → weigh f s.log ≤ weigh f history
  pub whole : IsAlone s → HasSameEntries s.log history

abbrev pub Words : Type 0
Words = State (Unit {0}) View

-- a view, and the slots that a seat holds, which are none
abbrev pub Sat : Type 0
Sat = Me (Unit {0}) View

-- what the seats of a program keep: the view is live, no slot is held, and each start has a word after the table's own
abbrev pub IsSeated : ℕ → Sat → Type 0
IsSeated words me = (me.1 ≡ []) × (me.0.live ≡ true) × (words ≡ length me.0.seat.home.starts + 1)

-- a number that tells nothing of its vertex
abbrev pub IsNothing : Seat → ℕ → ℕ → Type 0
IsNothing s v n = Unit {0}

-- a step that leaves the word and the seat: what the number found tells of its vertex, and what the root with none out knows of its log
pub record Looks (Tells : Seat → ℕ → ℕ → Type 0) (Settled : Home → List Entry → Type 0) (st : Step (Unit {0})) (m : Sat) (n : ℕ) (w : Sat) : Type 0 where
  pub same : w ≡ m
  pub tells : (v : ℕ) → st.word ≡ v + 1 → Tells m.0.seat v n
  pub settled : IsAlone m.0.seat → Settled m.0.seat.home m.0.seat.log

-- a step that logs the entry e of its operands, the vertex and the number found
pub record Logs (e : Step (Unit {0}) → ℕ → ℕ → Entry) (Tells : Seat → ℕ → ℕ → Type 0) (Settled : Home → List Entry → Type 0) (st : Step (Unit {0})) (m : Sat) (n : ℕ) (w : Sat) : Type 0 where
  pub logged : (v : ℕ) → st.word ≡ v + 1 → w ≡ (lives (logs m.0.seat (e st v n)), m.1)
  pub tells : (v : ℕ) → st.word ≡ v + 1 → Tells m.0.seat v n
  pub settled : IsAlone w.0.seat → Settled w.0.seat.home w.0.seat.log
