-- What a search keeps from round to round.
use Rattle.std.specs.Prelude.{◌≡◌, ◌⊎◌, ℕ, ◌+◌, ◌≤◌, Bool, true, not, List, length, All, Contains, count_by}
use Rattle.jul_base.specs.declared.graphs.RawGraph.{RawGraph}
use Rattle.jul_base.specs.Graph.{vertices, target, IsPlaceOf}
use Rattle.jul_words.specs.Seats.{Seat}
use Rattle.jul_subset.specs.Subsets.{Subset}
use Rattle.jul_edge.specs.EdgeMaps.{CanStamp}
use Rattle.jul_reach.specs.Reaching.{mark_at, IsReached}

-- marks are sound, and each place of a marked vertex outside the frontier leads to a marked one
pub record IsReaching (g : RawGraph) (source : ℕ) (marks : List Bool) (frontier : List ℕ) : Type 0 where
  pub size : length marks ≡ vertices g
  pub begun : mark_at marks source ≡ true
  pub sound : (v : ℕ) → mark_at marks v ≡ true → IsReached g source v
  pub marked : All (λ v. mark_at marks v ≡ true) frontier
  pub closed : (u p : ℕ) → IsPlaceOf g u p → mark_at marks u ≡ true → (mark_at marks (target g p) ≡ true) ⊎ Contains frontier u

-- falls with each round
abbrev pub remaining : List Bool → List ℕ → ℕ
remaining marks frontier = count_by not marks + length frontier

-- the same, with the stamps of the rounds so far
pub record IsSearching (g : RawGraph) (source : ℕ) (table : List ℕ) (marks : List Bool) (frontier : Subset) (seat : Seat) (round : ℕ) : Type 0 where
  pub reaching : IsReaching g source marks frontier.members
  pub n : frontier.n ≡ vertices g
  pub stamps : CanStamp (vertices g) table round seat
  pub few : round + remaining marks frontier.members ≤ vertices g + 1
