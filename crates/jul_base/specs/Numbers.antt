-- Least and greatest numbers, and columns that may lack a number.
use Rattle.std.specs.Prelude.{◌≡◌, ◌≢◌, ℕ, ◌<◌, ◌≤◌, List, length, slice_index}
use Rattle.std.specs.List.{range_with_len}
use Rattle.jul_base.specs.declared.limits.TheConstants.{NONE}

-- the numbers below n
abbrev pub below : ℕ → List ℕ
below n = range_with_len 0 n

-- x is the least number of which P holds
pub record IsLeast (P : ℕ → Type 0) (x : ℕ) : Type 0 where
  pub holds : P x
  pub least : (y : ℕ) → P y → x ≤ y

-- x is the greatest number of which P holds
pub record IsGreatest (P : ℕ → Type 0) (x : ℕ) : Type 0 where
  pub holds : P x
  pub greatest : (y : ℕ) → P y → y ≤ x

-- x is the least number of which P holds, or NONE where it holds of none
pub record IsLeastOrNone (P : ℕ → Type 0) (x : ℕ) : Type 0 where
  pub least : x ≢ NONE → IsLeast P x
  pub none : x ≡ NONE → (y : ℕ) → P y → ⊥

-- a column of n numbers whose number at each vertex is the one that P asks for
pub record IsColumn (n : ℕ) (P : ℕ → ℕ → Type 0) (column : List ℕ) : Type 0 where
  pub size : length column ≡ n
  pub each : (v : ℕ) → v < n → P v (slice_index column v)
