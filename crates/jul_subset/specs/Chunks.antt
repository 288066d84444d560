-- Lists that are cut into chunks.
use Rattle.std.specs.Prelude.{ℕ, ◌*◌, List, take, drop}

-- the part of a list that chunk n has, where each has so many members
abbrev pub chunk_of : {X : Type 0} → List X → ℕ → ℕ → List X
chunk_of xs size n = take size (drop (n * size) xs)
