-- Words that are stamped with rounds.
use Rattle.std.specs.Prelude.{◌≡◌, ℕ, ◌+◌, ◌<◌, ◌≤◌, List, [], ◌∷◌, Bool, length, cond, max, ◌==◌, nat_lt, slice_index}
use Rattle.atomic_table.specs.Table.{Step}
use Rattle.jul_base.specs.Logs.{Entry, Home, STAMP}
use Rattle.jul_words.specs.Weights.{counted}
use Rattle.jul_words.specs.Seats.{Seat, IsAlone, AreKin, AtMoment, entry, named, all_entries}
use Rattle.jul_words.specs.Ruled.{Sat, Looks, Logs}
use Rattle.jul_words.specs.Marks.{marks}

-- the word of v by a log alone: the greatest round logged for it, and 0 where there is none
abbrev pub greatest : ℕ → List Entry → ℕ
greatest v [] = 0
greatest v (e ∷ es) = cond (e.vertex == v) (max e.number (greatest v es)) (greatest v es)

-- the entry of a `stamp` that found n: it is marked where n is less than the round
abbrev pub stamping : ℕ → ℕ → ℕ → Entry
stamping v round n = entry STAMP v round (counted (nat_lt n round))

-- no two entries of v with one round are marked, and the greatest round is marked once
pub record Firsts (v : ℕ) (log : List Entry) : Type 0 where
  pub once : (round : ℕ) → marks v round log ≤ 1
  pub reached : 0 < greatest v log → marks v (greatest v log) log ≡ 1

-- by the log alone the marks of each word are as they should
abbrev pub AllFirsts : Home → List Entry → Type 0
AllFirsts h log = (v : ℕ) → v < length h.starts → Firsts v log

-- what holds of the words and of all live seats between any two steps
pub record StampWordsRule (h : Home) (words : List ℕ) (seats : List Seat) : Type 0 where
  pub kin : AreKin h seats
  pub greatest_of_all : (v : ℕ) → v < length h.starts → slice_index words v ≡ greatest v (all_entries seats)
  pub marked : (v : ℕ) → v < length h.starts → Firsts v (all_entries seats)

-- the newest entry stands first; each is what `stamp` logs over the older ones
abbrev pub AreStampings : List Entry → Type 0
AreStampings [] = Unit {0}
AreStampings (e ∷ es) = (e ≡ stamping e.vertex e.number (greatest e.vertex es)) × AreStampings es

-- the word of v, which is word v + 1 of the table, is the greatest round of the history
pub record IsGreatest (h : Home) (words : List ℕ) (history : List Entry) : Type 0 where
  pub size : length words ≡ length h.starts + 1
  pub words_are : (v : ℕ) → v < length h.starts → slice_index words (v + 1) ≡ greatest v history
  pub legal : AreStampings history

-- what the number n found for v tells the seat
pub record Tells (s : Seat) (v n : ℕ) : Type 0 where
  pub moment : (table : List ℕ) → AtMoment StampWordsRule (named table s) v n
  pub least : greatest v s.log ≤ n
  pub exact : IsAlone s → n ≡ greatest v s.log

-- a stamp of v with the round met some word, and answers whether it was less than the round
abbrev pub Met : Seat → ℕ → ℕ → Bool → Type 0
Met s v round answer = (word : ℕ) × AtMoment StampWordsRule s v word × (greatest v s.log ≤ word) × (answer ≡ nat_lt word round)

abbrev pub Loads : Step (Unit {0}) → Sat → ℕ → Sat → Type 0
Loads = Looks Tells AllFirsts

abbrev pub StampsOn : Step (Unit {0}) → Sat → ℕ → Sat → Type 0
StampsOn = Logs (λ st v n. stamping v st.first n) Tells AllFirsts
