-- What contracts see of a seat, and of all live seats of a table together.
use Rattle.std.specs.Prelude.{◌≡◌, ℕ, ◌+◌, ◌-◌, ◌<◌, ◌≤◌, List, [], ◌∷◌, ◌++◌, Bool, true, false, All, length, replicate, slice_index}
use Rattle.atomic_table.specs.Seated.{TableId}
use Rattle.jul_base.specs.Logs.{Entry, Home}
use Rattle.jul_words.specs.Weights.{counted}

-- where it belongs, whether it is the root, how many seats the root has out, and what was done through it
pub record Seat : Type 0 where
  pub home : Home
  pub root : Bool
  pub out : ℕ
  pub log : List Entry

-- the seat is of this table
abbrev pub IsSeatOf : List ℕ → Seat → Type 0
IsSeatOf table s = s.home.table ≡ table

-- v is below the number of words
abbrev pub IsWord : Seat → ℕ → Type 0
IsWord s v = v < length s.home.starts

-- the root, with no seat out
abbrev pub IsAlone : Seat → Type 0
IsAlone s = (s.root ≡ true) × (s.out ≡ 0)

-- what the word of v started at, and what it never goes below
abbrev pub start_of : Home → ℕ → ℕ
start_of h v = slice_index h.starts v

abbrev pub floor_of : Home → ℕ → ℕ
floor_of h v = slice_index h.floors v

-- there is a floor for each start, and none is above it
pub record AreFloorsOf (starts floors : List ℕ) : Type 0 where
  pub as_many : length floors ≡ length starts
  pub below : (v : ℕ) → v < length starts → slice_index floors v ≤ slice_index starts v

abbrev pub entry : ℕ → ℕ → ℕ → ℕ → Entry
entry kind vertex number mark = record { kind = kind; vertex = vertex; number = number; mark = mark }

abbrev pub home : List ℕ → List ℕ → List ℕ → Home
home table starts floors = record { table = table; starts = starts; floors = floors }

-- of a table of words that start at 0
abbrev pub zeros : List ℕ → ℕ → Home
zeros table count = home table (replicate count 0) (replicate count 0)

-- the root at the start, and what is split off it
abbrev pub rooted : Home → Seat
rooted h = record { home = h; root = true; out = 0; log = [] }

abbrev pub beside : Seat → Seat
beside s = record { home = s.home; root = false; out = 0; log = [] }

-- the seat has logged the entry
abbrev pub logs : Seat → Entry → Seat
logs s e = record { home = s.home; root = s.root; out = s.out; log = s.log ++ e ∷ [] }

-- one more seat is out
abbrev pub lent : Seat → Seat
lent s = record { home = s.home; root = s.root; out = s.out + 1; log = s.log }

-- the other seat is taken in
abbrev pub joined : Seat → Seat → Seat
joined s t = record { home = s.home; root = s.root; out = s.out - 1; log = s.log ++ t.log }

-- the numbers that no two tables share
abbrev pub name_of : TableId → List ℕ
name_of z = z.words ∷ z.slots ∷ z.views_name ∷ z.atom ∷ z.block ∷ z.offset ∷ z.slot_names

-- the same seat, of the table with this name
abbrev pub named : List ℕ → Seat → Seat
named table s = record { home = home table s.home.starts s.home.floors; root = s.root; out = s.out; log = s.log }

-- what was logged through all the seats
abbrev pub all_entries : List Seat → List Entry
all_entries [] = []
all_entries (s ∷ ss) = s.log ++ all_entries ss

-- how many of the seats are roots
abbrev pub roots : List Seat → ℕ
roots [] = 0
roots (s ∷ ss) = counted s.root + roots ss

-- the seats are of one home, and the one root among them counts the others
pub record AreKin (h : Home) (seats : List Seat) : Type 0 where
  pub homes : All (λ s. s.home ≡ h) seats
  pub one_root : roots seats ≡ 1
  pub out : All (λ s. s.root ≡ true → length seats ≡ s.out + 1) seats

-- there is a moment at which the rule holds of the words and of all live seats, this one among them, and the word of v is n
abbrev pub AtMoment : (Home → List ℕ → List Seat → Type 0) → Seat → ℕ → ℕ → Type 0
AtMoment Rule s v n = (words : List ℕ) × (others : List Seat) × Rule s.home words (s ∷ others) × (slice_index words v ≡ n)
