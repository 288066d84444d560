-- Hops and parents: the tree that bears distances out.
use Rattle.std.specs.Prelude.{◌≡◌, ◌≢◌, ℕ, ◌+◌, List, Contains, length, slice_index}
use Rattle.jul_base.specs.declared.graphs.RawGraph.{RawGraph}
use Rattle.jul_base.specs.declared.limits.TheConstants.{NONE}
use Rattle.jul_base.specs.Numbers.{IsLeastOrNone, IsColumn}
use Rattle.jul_base.specs.Graph.{vertices, target, weight, IsPlaceOf}
use Rattle.jul_base.specs.Walks.{IsWalk, walk_sum}
use Rattle.jul_base.specs.Distances.{IsDistance, AreDistances}

-- x is the number of places of a walk from some source to v whose sum is the distance of v
pub record IsHopCount (g : RawGraph) (sources : List ℕ) (v x : ℕ) : Type 0 where
  pub source : ℕ
  pub is_source : Contains sources source
  pub walk : List ℕ
  pub is_walk : IsWalk g source walk v
  pub least : IsDistance g sources v (walk_sum g walk)
  pub count : length walk ≡ x

-- the least such number, NONE where there is no walk
abbrev pub IsHops : RawGraph → List ℕ → ℕ → ℕ → Type 0
IsHops g sources v = IsLeastOrNone (IsHopCount g sources v)

-- a place from u to v ends a walk of v's distance and hops
pub record IsLastStep (g : RawGraph) (dist hops : List ℕ) (v u p : ℕ) : Type 0 where
  pub from : IsPlaceOf g u p
  pub to : target g p ≡ v
  pub reached : slice_index dist u ≢ NONE
  pub sum : slice_index dist u + weight g p ≡ slice_index dist v
  pub hop : slice_index hops u + 1 ≡ slice_index hops v

-- the least vertex from which a place ends such a walk, NONE where there is none
abbrev pub IsParent : RawGraph → List ℕ → List ℕ → ℕ → ℕ → Type 0
IsParent g dist hops v = IsLeastOrNone (λ u. (p : ℕ) × IsLastStep g dist hops v u p)

-- the three columns of a list of sources
pub record AreTree (g : RawGraph) (sources dist hops parent : List ℕ) : Type 0 where
  pub distances : AreDistances g sources dist
  pub hop_counts : IsColumn (vertices g) (IsHops g sources) hops
  pub parents : IsColumn (vertices g) (IsParent g dist hops) parent
