-- Lists that are picked from another in its order.
use Rattle.std.specs.Prelude.{ℕ, List, [], ◌∷◌, ◌≡◌, Bool, length, if◌then◌else◌}

-- those of a list at which there is true
abbrev pub picked : List Bool → List ℕ → List ℕ
picked [] xs = []
picked (b ∷ bs) [] = []
picked (b ∷ bs) (x ∷ xs) = if b then x ∷ picked bs xs else picked bs xs

-- some of the list, in its order
abbrev pub PicksOf : List ℕ → List ℕ → Type 0
PicksOf xs some = (bs : List Bool) × (length bs ≡ length xs) × (some ≡ picked bs xs)
