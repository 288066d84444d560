-- Entries counted and added up, in whatever order they stand.
use Rattle.std.specs.Prelude.{◌≡◌, ℕ, ◌+◌, List, [], ◌∷◌, Bool, cond}
use Rattle.jul_base.specs.Logs.{Entry}

-- 1 for true and 0 for false
abbrev pub counted : Bool → ℕ
counted b = cond b 1 0

-- the weights of the entries, added up
abbrev pub weigh : (Entry → ℕ) → List Entry → ℕ
weigh f [] = 0
weigh f (e ∷ es) = f e + weigh f es

-- the two have the same entries, in whatever order
abbrev pub HasSameEntries : List Entry → List Entry → Type 0
HasSameEntries log other = (f : Entry → ℕ) → weigh f log ≡ weigh f other
