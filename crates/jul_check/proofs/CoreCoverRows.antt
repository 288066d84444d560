-- Verdicts on cores and covers of small graphs, computed.
use Rattle.std.specs.Prelude.{◌≡◌, false, ℕ, List, [], ◌∷◌, refl}
use Rattle.jul_base.specs.declared.graphs.RawGraph.{RawGraph}
use Rattle.jul_base.specs.declared.limits.TheConstants.{NONE}
use Rattle.jul_check.specs.declared.verdicts.Reason.TheVariants as reasons
use Rattle.jul_check.specs.declared.verdicts.Verdict.{Verdict}
use Rattle.jul_check.specs.declared.verdicts.Verdict.TheVariants.{Yes, No}
use Rattle.jul_check.specs.CoreChecks.{cores_verdict}
use Rattle.jul_check.specs.CoverChecks.{cover_verdict}

-- a triangle with one vertex hanging on it
abbrev tailed : RawGraph
tailed = record { weighted = false; offsets = 0 ∷ 2 ∷ 4 ∷ 7 ∷ []; targets = 1 ∷ 2 ∷ 0 ∷ 2 ∷ 0 ∷ 1 ∷ 3 ∷ 2 ∷ []; weights = [] }

abbrev on_tailed : List ℕ → List ℕ → Verdict
on_tailed core level = cores_verdict tailed (record { core = core; level = level })

peeled : on_tailed (2 ∷ 2 ∷ 2 ∷ 1 ∷ []) (1 ∷ 1 ∷ 1 ∷ 0 ∷ []) ≡ Yes
peeled = refl

too_great : on_tailed (2 ∷ 2 ∷ 2 ∷ 2 ∷ []) (1 ∷ 1 ∷ 1 ∷ 0 ∷ []) ≡ No 3 reasons.LowerBound
too_great = refl

all_zero : on_tailed (0 ∷ 0 ∷ 0 ∷ 0 ∷ []) (0 ∷ 0 ∷ 0 ∷ 0 ∷ []) ≡ No 0 reasons.UpperBound
all_zero = refl

tail_last : on_tailed (2 ∷ 2 ∷ 2 ∷ 1 ∷ []) (0 ∷ 0 ∷ 0 ∷ 0 ∷ []) ≡ No 3 reasons.Order
tail_last = refl

-- an edge from a vertex to itself
abbrev to_itself : RawGraph
to_itself = record { weighted = false; offsets = 0 ∷ []; targets = 0 ∷ []; weights = [] }

any_level : cores_verdict to_itself (record { core = 1 ∷ []; level = 7 ∷ [] }) ≡ Yes
any_level = refl

-- set 0 holds 2 and 3, set 1 holds 3 and 4
abbrev two_sets : RawGraph
two_sets = record { weighted = false; offsets = 0 ∷ 2 ∷ 4 ∷ 4 ∷ 4 ∷ []; targets = 2 ∷ 3 ∷ 3 ∷ 4 ∷ []; weights = [] }

abbrev on_two_sets : List ℕ → List ℕ → Verdict
on_two_sets round by = cover_verdict two_sets (record { round = round; by = by })

abbrev both : List ℕ
both = 0 ∷ 0 ∷ NONE ∷ NONE ∷ NONE ∷ []

covered : on_two_sets both (NONE ∷ NONE ∷ 0 ∷ 0 ∷ 1 ∷ []) ≡ Yes
covered = refl

not_held : on_two_sets both (NONE ∷ NONE ∷ 0 ∷ 0 ∷ 0 ∷ []) ≡ No 4 reasons.NotHeld
not_held = refl

no_such_set : on_two_sets both (NONE ∷ NONE ∷ 0 ∷ 0 ∷ 5 ∷ []) ≡ No 4 reasons.NotCovered
no_such_set = refl

not_chosen : on_two_sets (0 ∷ NONE ∷ NONE ∷ NONE ∷ NONE ∷ []) (NONE ∷ NONE ∷ 0 ∷ 0 ∷ 1 ∷ []) ≡ No 4 reasons.NotChosen
not_chosen = refl

no_element : on_two_sets both (0 ∷ NONE ∷ 0 ∷ 0 ∷ 1 ∷ []) ≡ No 0 reasons.NoElement
no_element = refl

nothing : cover_verdict (record { weighted = false; offsets = []; targets = []; weights = [] }) (record { round = []; by = [] }) ≡ Yes
nothing = refl
