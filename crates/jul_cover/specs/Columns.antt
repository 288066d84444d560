-- Columns in which some numbers were written.
use Rattle.std.specs.Prelude.{◌≡◌, ℕ, ◌<◌, List, length, Contains, slice_index}

-- the listed places have the numbers that f says, and the others are as they were
pub record AreWritten (listed : List ℕ) (f : ℕ → ℕ) (old new : List ℕ) : Type 0 where
  pub size : length new ≡ length old
  pub at : (v : ℕ) → v < length old → Contains listed v → slice_index new v ≡ f v
  pub other : (v : ℕ) → (Contains listed v → ⊥) → slice_index new v ≡ slice_index old v
