-- Lists that stand one after another in one list, which bounds cut.
use Rattle.std.specs.Prelude.{ℕ, ◌+◌, ◌-◌, ◌<◌, ◌≤◌, List, length, map, slice_index, slice_range}
use Rattle.jul_base.specs.declared.limits.TheConstants.{MAX_N}
use Rattle.jul_base.specs.Numbers.{below}

-- part number v: the items from bound number v up to the next bound
abbrev pub part : List ℕ → List ℕ → ℕ → List ℕ
part bounds items v = slice_range items (slice_index bounds v) (slice_index bounds (v + 1))

-- how many parts the bounds cut
abbrev pub part_count : List ℕ → ℕ
part_count bounds = length bounds - 1

-- all parts, in order
abbrev pub parts : List ℕ → List ℕ → List (List ℕ)
parts bounds items = map (part bounds items) (below (part_count bounds))

-- bounds that cut a list of so many items
pub record IsCut (bounds : List ℕ) (items : ℕ) : Type 0 where
  pub some : 0 < length bounds
  pub few : length bounds ≤ MAX_N + 1
  pub rising : (v : ℕ) → v + 1 < length bounds → slice_index bounds v ≤ slice_index bounds (v + 1)
  pub within : (v : ℕ) → v < length bounds → slice_index bounds v ≤ items
