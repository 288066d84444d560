-- Words that are lowered.
use Rattle.std.specs.Prelude.{◌≡◌, ℕ, ◌+◌, ◌<◌, ◌≤◌, List, [], ◌∷◌, length, cond, min, ◌==◌, nat_lt, slice_index}
use Rattle.atomic_table.specs.Table.{Step}
use Rattle.jul_base.specs.Logs.{Entry, Home, LOWER}
use Rattle.jul_words.specs.Weights.{counted}
use Rattle.jul_words.specs.Seats.{Seat, IsAlone, AreKin, AtMoment, start_of, floor_of, entry, named, all_entries}
use Rattle.jul_words.specs.Ruled.{Sat, Looks, Logs}
use Rattle.jul_words.specs.Marks.{marks}

-- the least of the start and of the numbers logged for v
abbrev pub least : ℕ → ℕ → List Entry → ℕ
least v start [] = start
least v start (e ∷ es) = cond (e.vertex == v) (min e.number (least v start es)) (least v start es)

-- the word of v by a log alone
abbrev pub word_by : Home → List Entry → ℕ → ℕ
word_by h log v = least v (start_of h v) log

-- the word of v by the log of a seat
abbrev pub word_of : Seat → ℕ → ℕ
word_of s v = word_by s.home s.log v

-- the entry of a `lower` to c that found n: it is marked where n is greater
abbrev pub lowering : ℕ → ℕ → ℕ → Entry
lowering v c n = entry LOWER v c (counted (nat_lt c n))

-- the marked numbers of v are all different and below the start, and a word below the start is one of them
pub record Marks (start v : ℕ) (log : List Entry) : Type 0 where
  pub once : (c : ℕ) → marks v c log ≤ 1
  pub below : (c : ℕ) → 0 < marks v c log → c < start
  pub reached : least v start log < start → marks v (least v start log) log ≡ 1

-- by the log alone no word is below its floor, and the marks are as they should
abbrev pub IsSettled : Home → List Entry → Type 0
IsSettled h log = (v : ℕ) → v < length h.starts → (floor_of h v ≤ word_by h log v) × Marks (start_of h v) v log

-- what holds of the words and of all live seats between any two steps
pub record MinWordsRule (h : Home) (words : List ℕ) (seats : List Seat) : Type 0 where
  pub kin : AreKin h seats
  pub least_of_all : (v : ℕ) → v < length h.starts → slice_index words v ≡ word_by h (all_entries seats) v
  pub floors : (v : ℕ) → v < length h.starts → floor_of h v ≤ slice_index words v
  pub marked : (v : ℕ) → v < length h.starts → Marks (start_of h v) v (all_entries seats)

-- the newest entry stands first; each is what `lower` logs over the older ones
abbrev pub AreLowerings : Home → List Entry → Type 0
AreLowerings h [] = Unit {0}
AreLowerings h (e ∷ es) = (e ≡ lowering e.vertex e.number (word_by h es e.vertex)) × (floor_of h e.vertex ≤ e.number) × AreLowerings h es

-- the word of v, which is word v + 1 of the table, is the least of its start and of what was logged for it
pub record IsLeast (h : Home) (words : List ℕ) (history : List Entry) : Type 0 where
  pub size : length words ≡ length h.starts + 1
  pub floors : (v : ℕ) → v < length h.starts → floor_of h v ≤ start_of h v
  pub words_are : (v : ℕ) → v < length h.starts → slice_index words (v + 1) ≡ word_by h history v
  pub legal : AreLowerings h history

-- what the number n found for v tells the seat
pub record Tells (s : Seat) (v n : ℕ) : Type 0 where
  pub moment : (table : List ℕ) → AtMoment MinWordsRule (named table s) v n
  pub floor : floor_of s.home v ≤ n
  pub most : n ≤ word_by s.home s.log v
  pub exact : IsAlone s → n ≡ word_by s.home s.log v

abbrev pub Loads : Step (Unit {0}) → Sat → ℕ → Sat → Type 0
Loads = Looks Tells IsSettled

abbrev pub Lowers : Step (Unit {0}) → Sat → ℕ → Sat → Type 0
Lowers = Logs (λ st v n. lowering v st.first n) Tells IsSettled
