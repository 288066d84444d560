-- Applications of a function to places, and which places are wanted.
use Rattle.std.specs.Prelude.{ℕ, List, ◌≡◌, Bool, true, map, All, Contains}
use Rattle.jul_base.specs.declared.graphs.RawGraph.{RawGraph}
use Rattle.jul_base.specs.Graph.{target, weight, IsPlaceOf}
use Rattle.jul_base.specs.Times.{times}
use Rattle.jul_edge.specs.declared.functions.Direction.{Direction}

-- one application: the direction in which the place is walked, its source, the place, its target and its weight
pub record Application : Type 0 where
  pub by : Direction
  pub source : ℕ
  pub place : ℕ
  pub target : ℕ
  pub weight : ℕ

abbrev pub application : Direction → ℕ → ℕ → ℕ → ℕ → Application
application by u p v w = record { by = by; source = u; place = p; target = v; weight = w }

-- it is to a wanted place, walked in this direction: one from a member to a target that is wanted
pub record IsWanted (by : Direction) (g : RawGraph) (members : List ℕ) (wanted : ℕ → Bool) (a : Application) : Type 0 where
  pub by_is : a.by ≡ by
  pub member : Contains members a.source
  pub place : IsPlaceOf g a.source a.place
  pub target_is : a.target ≡ target g a.place
  pub weight_is : a.weight ≡ weight g a.place
  pub target_wanted : wanted a.target ≡ true

-- the places of applications
abbrev pub places_of : List Application → List ℕ
places_of apps = map (λ (a : Application). a.place) apps

-- they are to each wanted place once, and to no other place
pub record AreWantedOnce (by : Direction) (g : RawGraph) (members : List ℕ) (wanted : ℕ → Bool) (apps : List Application) : Type 0 where
  pub no_other : All (IsWanted by g members wanted) apps
  pub once : (a : Application) → IsWanted by g members wanted a → times a.place (places_of apps) ≡ 1
