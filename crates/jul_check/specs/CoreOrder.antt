-- The vertices in the order of their levels.
use Rattle.std.specs.Prelude.{◌≡◌, ℕ, ◌<◌, ◌≤◌, false, List, length, map}
use Rattle.std.specs.List.{slice_index_or}
use Rattle.std.specs.List.Sorted.{IsPermutation}
use Rattle.jul_base.specs.declared.results.Cores.{Cores}
use Rattle.jul_base.specs.Numbers.{below}
use Rattle.jul_check.specs.CoreChecks.{level_of, is_before}

-- a vertex behind its level
abbrev pub leveled : Cores → ℕ → ℕ × ℕ
leveled c v = (level_of c v, v)

-- the vertices below n behind their levels, by level, and by id where levels are equal
pub record IsByLevel (c : Cores) (n : ℕ) (order : List (ℕ × ℕ)) : Type 0 where
  pub permutation : IsPermutation (map (leveled c) (below n)) order
  pub sorted : (i j : ℕ) (d : ℕ × ℕ) → i ≤ j → j < length order →
      is_before c (slice_index_or order j d).1 (slice_index_or order i d).1 ≡ false
