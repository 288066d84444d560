-- What the checker tests of a set cover.
use Rattle.std.specs.Prelude.{◌≢◌, ℕ, ◌<◌, Bool, false, not, ◌&&◌, ◌||◌, List, [], ◌∷◌, Contains, slice_index, nat_lt}
use Rattle.std.specs.List.{list_any}
use Rattle.jul_base.specs.declared.graphs.RawGraph.{RawGraph}
use Rattle.jul_base.specs.declared.limits.TheConstants.{NONE}
use Rattle.jul_base.specs.declared.results.Cover.{Cover}
use Rattle.jul_base.specs.Numbers.{below}
use Rattle.jul_base.specs.Graph.{vertices}
use Rattle.jul_base.specs.Sets.{has, set_of, IsElement}
use Rattle.jul_check.specs.declared.verdicts.Reason.{Reason}
use Rattle.jul_check.specs.declared.verdicts.Reason.TheVariants as reasons
use Rattle.jul_check.specs.declared.verdicts.Verdict.{Verdict}
use Rattle.jul_check.specs.Verdicts.{is_none, verdict_by}

-- whether v stands in some set
abbrev pub is_element : RawGraph → ℕ → Bool
is_element g v = list_any (λ s. has (set_of g s) v) (below (vertices g))

-- the set that is said to cover v
abbrev pub by_of : Cover → ℕ → ℕ
by_of c v = slice_index c.by v

-- whether v stands in the set that is said to cover it
abbrev pub is_in_its_set : RawGraph → Cover → ℕ → Bool
is_in_its_set g c v = nat_lt (by_of c v) (vertices g) && has (set_of g (by_of c v)) v

abbrev pub fails_cover : RawGraph → Cover → ℕ → Reason → Bool
fails_cover g c v reasons.NotCovered = is_element g v && (is_none (by_of c v) || not (nat_lt (by_of c v) (vertices g)))
fails_cover g c v reasons.NotHeld = is_element g v && not (has (set_of g (by_of c v)) v)
fails_cover g c v reasons.NotChosen = is_element g v && is_none (slice_index c.round (by_of c v))
fails_cover g c v reasons.NoElement = not (is_element g v) && not (is_none (by_of c v))
fails_cover g c v _ = false

-- the reasons in the order in which they are tried
abbrev pub cover_reasons : List Reason
cover_reasons = reasons.NotCovered ∷ reasons.NotHeld ∷ reasons.NotChosen ∷ reasons.NoElement ∷ []

abbrev pub cover_verdict : RawGraph → Cover → Verdict
cover_verdict g c = verdict_by (vertices g) cover_reasons (fails_cover g c)

-- every element is in a set that has a round
abbrev pub HoldsEveryElement : RawGraph → List ℕ → Type 0
HoldsEveryElement g round = (e : ℕ) → IsElement g e → (s : ℕ) × (s < vertices g) × Contains (set_of g s) e × (slice_index round s ≢ NONE)
