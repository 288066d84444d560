-- Verdicts on columns of small graphs, computed.
use Rattle.std.specs.Prelude.{◌≡◌, true, false, ℕ, List, [], ◌∷◌, refl}
use Rattle.jul_base.specs.declared.graphs.RawGraph.{RawGraph}
use Rattle.jul_base.specs.declared.limits.TheConstants.{NONE}
use Rattle.jul_base.specs.declared.results.Distances.{Distances}
use Rattle.jul_check.specs.declared.verdicts.Reason.TheVariants as reasons
use Rattle.jul_check.specs.declared.verdicts.Verdict.TheVariants.{Yes, No}
use Rattle.jul_check.specs.DistanceChecks.{distances_verdict}

abbrev columns : List ℕ → List ℕ → List ℕ → Distances
columns dist hops parent = record { dist = dist; hops = hops; parent = parent }

-- two ways from 0 to 1: the edge of weight 5, and by way of 2
abbrev two_ways : RawGraph
two_ways = record { weighted = true; offsets = 0 ∷ 2 ∷ 2 ∷ []; targets = 1 ∷ 2 ∷ 1 ∷ []; weights = 5 ∷ 1 ∷ 2 ∷ [] }

least : distances_verdict two_ways (0 ∷ []) (columns (0 ∷ 3 ∷ 1 ∷ []) (0 ∷ 2 ∷ 1 ∷ []) (NONE ∷ 2 ∷ 0 ∷ [])) ≡ Yes
least = refl

not_least : distances_verdict two_ways (0 ∷ []) (columns (0 ∷ 5 ∷ 1 ∷ []) (0 ∷ 1 ∷ 1 ∷ []) (NONE ∷ 0 ∷ 0 ∷ [])) ≡ No 2 reasons.Lowerable
not_least = refl

hops_at_the_source : distances_verdict two_ways (0 ∷ []) (columns (0 ∷ 3 ∷ 1 ∷ []) (1 ∷ 2 ∷ 1 ∷ []) (NONE ∷ 2 ∷ 0 ∷ [])) ≡ No 0 reasons.Source
hops_at_the_source = refl

-- from 0 to 1, and a circle of weight 0 between 1 and 2
abbrev circle : RawGraph
circle = record { weighted = true; offsets = 0 ∷ 1 ∷ 2 ∷ []; targets = 1 ∷ 2 ∷ 1 ∷ []; weights = 5 ∷ 0 ∷ 0 ∷ [] }

parents_in_a_circle : distances_verdict circle (0 ∷ []) (columns (0 ∷ 3 ∷ 3 ∷ []) (0 ∷ 1 ∷ 2 ∷ []) (NONE ∷ 2 ∷ 1 ∷ [])) ≡ No 1 reasons.Parent
parents_in_a_circle = refl

-- an edge from 0 to 1, and a vertex that isn't reached
abbrev one_edge : RawGraph
one_edge = record { weighted = false; offsets = 0 ∷ 1 ∷ 1 ∷ []; targets = 1 ∷ []; weights = [] }

apart : distances_verdict one_edge (0 ∷ []) (columns (0 ∷ 1 ∷ NONE ∷ []) (0 ∷ 1 ∷ NONE ∷ []) (NONE ∷ 0 ∷ NONE ∷ [])) ≡ Yes
apart = refl

apart_with_a_parent : distances_verdict one_edge (0 ∷ []) (columns (0 ∷ 1 ∷ NONE ∷ []) (0 ∷ 1 ∷ NONE ∷ []) (NONE ∷ 0 ∷ 1 ∷ [])) ≡ No 2 reasons.Unreached
apart_with_a_parent = refl

target_without_number : distances_verdict one_edge (0 ∷ []) (columns (0 ∷ NONE ∷ NONE ∷ []) (0 ∷ NONE ∷ NONE ∷ []) (NONE ∷ NONE ∷ NONE ∷ [])) ≡ No 0 reasons.Lowerable
target_without_number = refl

-- the sum at 0 isn't wrapped
abbrev heavy : RawGraph
heavy = record { weighted = true; offsets = 0 ∷ 1 ∷ 1 ∷ []; targets = 1 ∷ []; weights = 4294967295 ∷ [] }

greatest : distances_verdict heavy (2 ∷ []) (columns (18446744073709551614 ∷ 18446744073709551614 ∷ 0 ∷ []) (1 ∷ 1 ∷ 0 ∷ []) (2 ∷ 2 ∷ NONE ∷ [])) ≡ No 0 reasons.Parent
greatest = refl

-- two sources, each with 0, and vertex 1 nearest to 2
two_sources : distances_verdict two_ways (0 ∷ 2 ∷ []) (columns (0 ∷ 2 ∷ 0 ∷ []) (0 ∷ 1 ∷ 0 ∷ []) (NONE ∷ 2 ∷ NONE ∷ [])) ≡ Yes
two_sources = refl

-- the second source has a parent
second_source_with_a_parent : distances_verdict two_ways (0 ∷ 2 ∷ []) (columns (0 ∷ 3 ∷ 1 ∷ []) (0 ∷ 2 ∷ 1 ∷ []) (NONE ∷ 2 ∷ 0 ∷ [])) ≡ No 2 reasons.Source
second_source_with_a_parent = refl
