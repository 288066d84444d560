-- Seats through which word 0 was lowered, for the test with four threads.
use Rattle.std.specs.Prelude.{◌≡◌, ℕ, List, [], ◌∷◌, ◌++◌, min}
use Rattle.jul_base.specs.Logs.{Entry}
use Rattle.jul_words.specs.Seats.{Seat, IsSeatOf, IsWord, floor_of}

-- the least of the start and the numbers
abbrev pub least_of : ℕ → List ℕ → ℕ
least_of start [] = start
least_of start (x ∷ xs) = min x (least_of start xs)

-- a seat of this table, whose word 0 has no floor
pub record CanLower (table : List ℕ) (s : Seat) : Type 0 where
  pub of_it : IsSeatOf table s
  pub word : IsWord s 0
  pub no_floor : floor_of s.home 0 ≡ 0

-- entries of word 0 with these numbers
abbrev pub Are : List Entry → List ℕ → Type 0
Are [] [] = Unit {0}
Are [] (x ∷ xs) = ⊥
Are (e ∷ es) [] = ⊥
Are (e ∷ es) (x ∷ xs) = (e.vertex ≡ 0) × (e.number ≡ x) × Are es xs

-- the seat t is s after these numbers were logged
pub record HasLowered (s t : Seat) (numbers : List ℕ) : Type 0 where
  pub home : t.home ≡ s.home
  pub root : t.root ≡ s.root
  pub out : t.out ≡ s.out
  pub added : List Entry
  pub log : t.log ≡ s.log ++ added
  pub are : Are added numbers
