-- A text that is cut for several threads.
use Rattle.std.specs.Prelude.{◌≡◌, ℕ, ◌+◌, ◌<◌, ◌≤◌, List, length, slice_index, slice_range, slice_get, Option, Some, IfSome, Vec}
use Rattle.std.specs.Global.{Global}
use Rattle.jul_text.specs.Numbers.{AreNumbers}

-- where a cut begins
abbrev pub place_of : List ℕ → ℕ → ℕ
place_of points chunk = slice_index points chunk

-- the bytes of a cut
abbrev pub cut_of : List ℕ → List ℕ → ℕ → List ℕ
cut_of bytes points chunk = slice_range bytes (place_of points chunk) (place_of points (chunk + 1))

-- the cut lies within the text
pub record CanRead (bytes points : List ℕ) (chunk : ℕ) : Type 0 where
  pub there : chunk + 1 < length points
  pub rising : place_of points chunk ≤ place_of points (chunk + 1)
  pub within : place_of points (chunk + 1) ≤ length bytes

-- a list of the numbers of a text, where it has nothing else
abbrev pub IsReadAs : List ℕ → ℕ → Option (Vec ℕ Global) → Type 0
IsReadAs cut bound read = IfSome read (λ v. AreNumbers cut bound v.items)

-- what was read of each cut
pub record AreCutsRead (bytes points : List ℕ) (pieces bound : ℕ) (cuts : List (Option (Vec ℕ Global))) : Type 0 where
  pub count : length cuts ≡ pieces
  pub each : (chunk : ℕ) (read : Option (Vec ℕ Global)) → slice_get cuts chunk ≡ Some read → IsReadAs (cut_of bytes points chunk) bound read
