-- What was done through a token of shared words, and where the token belongs.
use Rattle.std.specs.Prelude.{ℕ, List, [], ◌∷◌, ◌++◌}

-- one step: its kind, the vertex, the number logged, and its mark, which is 1 or 0
pub record Entry : Type 0 where
  pub kind : ℕ
  pub vertex : ℕ
  pub number : ℕ
  pub mark : ℕ

-- the kinds: the number logged is what was offered, the place, what was drained, and the round
abbrev pub LOWER : ℕ
LOWER = 1

abbrev pub ADD : ℕ
ADD = 2

abbrev pub DRAIN : ℕ
DRAIN = 3

abbrev pub STAMP : ℕ
STAMP = 4

-- a list of entries for each part of a token
abbrev pub Log : Type 0
Log = List (List Entry)

-- the table that a part belongs to, by the numbers that no two tables share, with the starts and floors of its words
pub record Home : Type 0 where
  pub table : List ℕ
  pub starts : List ℕ
  pub floors : List ℕ

-- one log followed by another, part by part
abbrev pub followed_by : Log → Log → Log
followed_by [] ys = ys
followed_by (x ∷ xs) [] = x ∷ xs
followed_by (x ∷ xs) (y ∷ ys) = (x ++ y) ∷ followed_by xs ys

-- a log without an entry, with a part for each home
abbrev pub empty_log : List Home → Log
empty_log [] = []
empty_log (h ∷ hs) = [] ∷ empty_log hs
