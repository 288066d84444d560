-- What a pull does in each chunk, and what it asks of its caller.
use Rattle.std.specs.Prelude.{ℕ, ◌<◌, List, [], ◌∷◌, ◌++◌, ◌≡◌, ◌↔◌, Bool, false, ◌||◌, map, length, slice_index, Contains, if◌then◌else◌}
use Rattle.std.specs.List.{filter, flat_map, range_with_len, slice_index_or}
use Rattle.jul_base.specs.declared.graphs.RawGraph.{RawGraph}
use Rattle.jul_base.specs.Graph.{vertices, IsLawful}
use Rattle.jul_base.specs.InRows.{InEdges, IsFlip}
use Rattle.jul_base.specs.Logs.{Log, Home}
use Rattle.jul_base.specs.Sets.{has}
use Rattle.jul_rows.specs.Visits.{Step, step, Visited, noted_of, HasVisited}
use Rattle.jul_subset.specs.Applications.{NotesHits}
use Rattle.jul_subset.specs.Picks.{PicksOf}
use Rattle.jul_edge.specs.declared.functions.Direction.TheVariants.{Pull}
use Rattle.jul_edge.specs.Edges.{Application, IsWanted}
use Rattle.jul_edge.specs.Covers.{app_of, WantedGives}

-- it is a place that leads from a member to v
pub record IsPulled (edges : InEdges) (members : List ℕ) (v : ℕ) (s : Step) : Type 0 where
  pub target_is : s.target ≡ v
  pub index : ℕ
  pub in_row : index < length (slice_index_or edges.places v [])
  pub place_is : s.place ≡ slice_index (slice_index_or edges.places v []) index
  pub source_is : s.source ≡ slice_index (slice_index_or edges.sources v []) index
  pub member : Contains members s.source

-- the places that lead from members to v, in order
abbrev pub pull_steps : InEdges → List ℕ → ℕ → List Step
pull_steps edges members v =
    filter (λ s. has members s.source)
    (map (λ k. step (slice_index (slice_index_or edges.sources v []) k) (slice_index (slice_index_or edges.places v []) k) v)
    (range_with_len 0 (length (slice_index_or edges.places v []))))

-- those places where v is wanted
abbrev pub wanted_steps : InEdges → List ℕ → (ℕ → Bool) → ℕ → List Step
wanted_steps edges members wanted v = if wanted v then pull_steps edges members v else []

-- whether one of the places is to be noted
abbrev pub any_noted : List Visited → Bool
any_noted [] = false
any_noted (x ∷ xs) = x.noted || any_noted xs

module _ {T : Type 0} (visits : Visited → T → T → Type 0) where
  -- these places were visited, and the flag says whether one is to be noted
  pub record HasTried (steps : List Step) (old new : T) (hit : Bool) : Type 0 where
    pub visited : List Visited
    pub has_visited : HasVisited visits steps old new visited
    pub hit_is : hit ≡ any_noted visited

  -- and those of the vertices vs that were noted, each once and in order, stand behind what was noted before
  pub record HasPulled (steps : List Step) (vs : List ℕ) (old new : T) (before after : List ℕ) : Type 0 where
    pub visited : List Visited
    pub has_visited : HasVisited visits steps old new visited
    pub noted : List ℕ
    pub after_is : after ≡ before ++ noted
    pub picks : PicksOf vs noted
    pub holds : (v : ℕ) → Contains noted v ↔ Contains (noted_of visited) v

-- the applications of a pull to the in-rows of these vertices, in order
abbrev pub pulled_apps : RawGraph → InEdges → List ℕ → (ℕ → Bool) → List ℕ → List Application
pulled_apps g edges members wanted vs = map (app_of Pull g) (flat_map (wanted_steps edges members wanted) vs)

-- what the pull of a chunk of vertices gives: its applications, and those of its vertices that were answered true, in order
abbrev pub PulledChunk : (Application → Bool → Log → Type 0) → RawGraph → InEdges → List ℕ → (ℕ → Bool) → List ℕ → Log → List ℕ → Type 0
PulledChunk gives g edges members wanted vs added noted =
    NotesHits (WantedGives Pull g members wanted gives) (λ (a : Application). a.target) (pulled_apps g edges members wanted vs) added noted × PicksOf vs noted

-- a pull may be made with a token of this home
pub record MayPull (can_want : ℕ → Type 0) (can_apply : Application → List Home → Type 0) (g : RawGraph) (edges : InEdges) (members : List ℕ) (wanted : ℕ → Bool) (home : List Home) : Type 0 where
  pub lawful : IsLawful g
  pub flip : IsFlip g edges
  pub want : (v : ℕ) → v < vertices g → can_want v
  pub apply : (a : Application) → IsWanted Pull g members wanted a → can_apply a home
