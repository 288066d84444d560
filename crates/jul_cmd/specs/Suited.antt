-- Graphs that a problem can't be solved on: a line for each problem.
use Rattle.std.specs.Prelude.{◌≡◌, ℕ, List, [], ◌∷◌, Option, Some, None, nat_lt, if◌then◌else◌}
use Rattle.jul_base.specs.declared.graphs.RawGraph.{RawGraph}
use Rattle.jul_base.specs.Graph.{vertices}
use Rattle.jul_base.specs.Symmetry.{IsFirstAsymmetricPlace}
use Rattle.jul_cmd.specs.declared.statuses.Status.{Status}
use Rattle.jul_cmd.specs.declared.statuses.Status.TheVariants.{Asymmetric, SourceRange}
use Rattle.jul_query.specs.Queries.{Problem, distances, cores, cover}

-- the refusal of the first source that isn't below n, if there is one
abbrev pub refusal_of_sources : ℕ → List ℕ → Option Status
refusal_of_sources n [] = None
refusal_of_sources n (s ∷ ss) = if nat_lt s n then refusal_of_sources n ss else Some (SourceRange s n)

-- the graph isn't suited to the problem, and the status says why
abbrev pub IsUnsuited : RawGraph → Problem → Status → Type 0
IsUnsuited g (distances sources) status = refusal_of_sources (vertices g) sources ≡ Some status
IsUnsuited g cores status = (p : ℕ) × IsFirstAsymmetricPlace g p × (status ≡ Asymmetric p)
IsUnsuited g cover status = ⊥

abbrev pub IsSuited : RawGraph → Problem → Type 0
IsSuited g problem = (status : Status) → IsUnsuited g problem status → ⊥
