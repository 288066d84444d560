-- What contracts see of a vertex subset.
use Rattle.std.specs.Prelude.{ℕ, ◌<◌, ◌≤◌, Bool, List, All}
use Rattle.std.specs.List.Sorted.{IsStrictlyIncreasing}
use Rattle.jul_base.specs.declared.limits.TheConstants.{MAX_N}

-- vertices below n in increasing order, and whether they are kept as marks
pub record Subset : Type 0 where
  pub n : ℕ
  pub members : List ℕ
  pub dense : Bool

-- an increasing list of vertices below n
pub record IsSubset (s : Subset) : Type 0 where
  pub few : s.n ≤ MAX_N
  pub increasing : IsStrictlyIncreasing s.members
  pub within : All (λ v. v < s.n) s.members
