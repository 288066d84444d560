-- Words that count.
use Rattle.std.specs.Prelude.{◌≡◌, ℕ, ◌+◌, ◌-◌, ◌<◌, ◌^◌, List, length, cond, ◌==◌, ◌&&◌, nat_lt, slice_index}
use Rattle.atomic_table.specs.Table.{Step}
use Rattle.jul_base.specs.Logs.{Entry, Home, ADD, DRAIN}
use Rattle.jul_words.specs.Weights.{weigh, counted}
use Rattle.jul_words.specs.Seats.{Seat, IsAlone, AreKin, AtMoment, entry, named, all_entries}
use Rattle.jul_words.specs.Ruled.{Sat, Looks, Logs}

-- the entry of an `add` that found n: it is marked where n is 0
abbrev pub adding : ℕ → ℕ → ℕ → Entry
adding v place n = entry ADD v place (counted (n == 0))

-- the entry of a `drain` that found n
abbrev pub draining : ℕ → ℕ → Entry
draining v n = entry DRAIN v n 0

abbrev pub is_add : ℕ → Entry → ℕ
is_add v e = counted ((e.kind == ADD) && (e.vertex == v))

abbrev pub is_first : ℕ → Entry → ℕ
is_first v e = counted (((e.kind == ADD) && (e.vertex == v)) && (e.mark == 1))

abbrev pub drained_by : ℕ → Entry → ℕ
drained_by v e = cond ((e.kind == DRAIN) && (e.vertex == v)) e.number 0

abbrev pub is_full : ℕ → Entry → ℕ
is_full v e = counted (((e.kind == DRAIN) && (e.vertex == v)) && (nat_lt 0 e.number))

-- how often v was added to, and how often it was 0 then
abbrev pub adds : ℕ → List Entry → ℕ
adds v log = weigh (is_add v) log

abbrev pub firsts : ℕ → List Entry → ℕ
firsts v log = weigh (is_first v) log

-- the answers of the drains of v, added up, and how many of these are positive
abbrev pub drained : ℕ → List Entry → ℕ
drained v log = weigh (drained_by v) log

abbrev pub full_drains : ℕ → List Entry → ℕ
full_drains v log = weigh (is_full v) log

-- the word of v by a log alone: what was added less what was drained
abbrev pub tally : ℕ → List Entry → ℕ
tally v log = adds v log - drained v log

-- there are fewer adds than a word can count
abbrev pub IsFew : ℕ → List Entry → Type 0
IsFew v log = adds v log < 2 ^ 64

-- the word is what was added less what was drained, and its adds to 0 are as many as its drains of more, and one more where the word is positive
pub record IsTally (v word : ℕ) (log : List Entry) : Type 0 where
  pub count : word + drained v log ≡ adds v log
  pub marked : firsts v log ≡ full_drains v log + counted (nat_lt 0 word)

-- by the log alone each word is a tally
abbrev pub AreTallies : Home → List Entry → Type 0
AreTallies h log = (v : ℕ) → v < length h.starts → IsFew v log → IsTally v (tally v log) log

-- what holds of the words and of all live seats between any two steps
pub record CountWordsRule (h : Home) (words : List ℕ) (seats : List Seat) : Type 0 where
  pub kin : AreKin h seats
  pub tallies : (v : ℕ) → v < length h.starts → IsFew v (all_entries seats) → IsTally v (slice_index words v) (all_entries seats)

-- the word of v, which is word v + 1 of the table, is a tally of the history
pub record IsCount (h : Home) (words : List ℕ) (history : List Entry) : Type 0 where
  pub size : length words ≡ length h.starts + 1
  pub words_are : (v : ℕ) → v < length h.starts → IsFew v history → IsTally v (slice_index words (v + 1)) history

-- what the number n found for v tells the seat
pub record Tells (s : Seat) (v n : ℕ) : Type 0 where
  pub moment : (table : List ℕ) → AtMoment CountWordsRule (named table s) v n
  pub exact : IsAlone s → IsFew v s.log → n ≡ tally v s.log

abbrev pub Loads : Step (Unit {0}) → Sat → ℕ → Sat → Type 0
Loads = Looks Tells AreTallies

abbrev pub Adds : ℕ → Step (Unit {0}) → Sat → ℕ → Sat → Type 0
Adds place = Logs (λ st v n. adding v place n) Tells AreTallies

abbrev pub Drains : Step (Unit {0}) → Sat → ℕ → Sat → Type 0
Drains = Logs (λ st v n. draining v n) Tells AreTallies
