-- Lists of sources.
use Rattle.std.specs.Prelude.{ℕ, ◌<◌, ◌≤◌, List, length, map, All, if◌then◌else◌}
use Rattle.std.specs.List.Sorted.{IsStrictlyIncreasing}
use Rattle.jul_base.specs.declared.limits.TheConstants.{NONE, MAX_SOURCES}
use Rattle.jul_base.specs.Numbers.{below}
use Rattle.jul_base.specs.Sets.{has}

-- an increasing list of at least one and not too many numbers, which are vertices of a graph that has enough of them
pub record AreNamedSources (sources : List ℕ) : Type 0 where
  pub some : 1 ≤ length sources
  pub few : length sources ≤ MAX_SOURCES
  pub increasing : IsStrictlyIncreasing sources

-- an increasing list of at least one and not too many of n vertices
pub record AreSources (n : ℕ) (sources : List ℕ) : Type 0 where
  pub some : 1 ≤ length sources
  pub few : length sources ≤ MAX_SOURCES
  pub increasing : IsStrictlyIncreasing sources
  pub within : All (λ s. s < n) sources

-- what a search starts from: 0 for each source, NONE for each other of n vertices
abbrev pub first_numbers : ℕ → List ℕ → List ℕ
first_numbers n sources = map (λ v. if has sources v then 0 else NONE) (below n)
