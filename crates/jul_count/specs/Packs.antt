-- Sets packed down to the elements that a test keeps.
use Rattle.std.specs.Prelude.{ℕ, Bool, List, [], ◌∷◌, map}
use Rattle.std.specs.List.{filter, slice_index_or}

-- a set with those of its elements that are kept
abbrev pub pack_of : (ℕ → Bool) → List (List ℕ) → ℕ → ℕ × List ℕ
pack_of kept sets s = (s, filter kept (slice_index_or sets s []))

-- the same of each listed set, in the order of the list
abbrev pub packs_of : (ℕ → Bool) → List (List ℕ) → List ℕ → List (ℕ × List ℕ)
packs_of kept sets listed = map (pack_of kept sets) listed

-- the pack of one set, as a list
abbrev pub alone : (ℕ → Bool) → List (List ℕ) → ℕ → List (ℕ × List ℕ)
alone kept sets s = pack_of kept sets s ∷ []
