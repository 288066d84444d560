-- Windows of vertices, one behind another.
use Rattle.std.specs.Prelude.{◌≡◌, ℕ, ◌+◌, ◌<◌, ◌≤◌, List, length, slice_index}

-- so many windows, from each bound up to but not including the next, which together have the vertices before `end`
pub record AreWindows (windows end : ℕ) (bounds : List ℕ) : Type 0 where
  pub size : length bounds ≡ windows + 1
  pub first : slice_index bounds 0 ≡ 0
  pub last : slice_index bounds windows ≡ end
  pub rising : (i : ℕ) → i < windows → slice_index bounds i ≤ slice_index bounds (i + 1)
  pub within : (i : ℕ) → i ≤ windows → slice_index bounds i ≤ end
