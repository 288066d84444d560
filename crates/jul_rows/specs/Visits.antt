-- Places that loops visit one after another, whatever is done at each.
use Rattle.std.specs.Prelude.{ℕ, ◌-◌, List, [], ◌∷◌, ◌++◌, ◌≡◌, Bool, true, map, if◌then◌else◌}
use Rattle.std.specs.List.{filter, range_with_len}
use Rattle.jul_base.specs.declared.graphs.RawGraph.{RawGraph}
use Rattle.jul_base.specs.Graph.{target, row_start, row_end, IsPlaceOf}
use Rattle.jul_base.specs.Logs.{Home}

-- a place with its source and its target
pub record Step : Type 0 where
  pub source : ℕ
  pub place : ℕ
  pub target : ℕ

abbrev pub step : ℕ → ℕ → ℕ → Step
step u p v = record { source = u; place = p; target = v }

-- it is a place of u, to a target that is wanted
pub record IsPushed (g : RawGraph) (wanted : ℕ → Bool) (u : ℕ) (s : Step) : Type 0 where
  pub source_is : s.source ≡ u
  pub place : IsPlaceOf g u s.place
  pub target_is : s.target ≡ target g s.place
  pub target_wanted : wanted s.target ≡ true

-- a place that was visited, and whether its target is to be noted
pub record Visited : Type 0 where
  pub step : Step
  pub noted : Bool

-- the targets that are to be noted
abbrev pub noted_of : List Visited → List ℕ
noted_of [] = []
noted_of (x ∷ xs) = if x.noted then x.step.target ∷ noted_of xs else noted_of xs

-- the wanted places of u, in order
abbrev pub push_steps : RawGraph → (ℕ → Bool) → ℕ → List Step
push_steps g wanted u = filter (λ s. wanted s.target) (map (λ p. step u p (target g p)) (range_with_len (row_start g u) (row_end g u - row_start g u)))

-- what no visit changes
pub record IsSame {T : Type 0} (home : T → List Home) (is_root : T → Bool) (out : T → ℕ) (old new : T) : Type 0 where
  pub home_is : home new ≡ home old
  pub root_is : is_root new ≡ is_root old
  pub out_is : out new ≡ out old

module _ {T : Type 0} (visits : Visited → T → T → Type 0) where
  abbrev pub VisitedInOrder : List Visited → T → T → Type 0
  VisitedInOrder [] old new = new ≡ old
  VisitedInOrder (x ∷ xs) old new = (mid : T) × visits x old mid × VisitedInOrder xs mid new

  -- these were visited in this order
  pub record HasVisited (steps : List Step) (old new : T) (visited : List Visited) : Type 0 where
    pub in_order : VisitedInOrder visited old new
    pub steps_are : map (λ (x : Visited). x.step) visited ≡ steps

  -- and those to be noted stand behind what was noted before
  pub record HasPushed (steps : List Step) (old new : T) (before after : List ℕ) : Type 0 where
    pub visited : List Visited
    pub has_visited : HasVisited steps old new visited
    pub noted_are : after ≡ before ++ noted_of visited
