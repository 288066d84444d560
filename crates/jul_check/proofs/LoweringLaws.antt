-- Whether a place lowers the number of its target, by what is read there.
use Rattle.std.proofs.Common.{◌≡◌, ◌≢◌, ℕ, ◌+◌, true, false, ◌||◌, ltb, List, get_or, ◌∙◌, ap}
use Rattle.std.proofs.lemmas.Bool.{eq-eqb, ne_eqb, or_left, or_right, or_from}
use Rattle.jul_base.specs.declared.graphs.RawGraph.{RawGraph}
use Rattle.jul_base.specs.declared.limits.TheConstants.{NONE}
use Rattle.jul_base.specs.Graph.{target, weight}
use Rattle.jul_check.specs.Verdicts.{is_none}
use Rattle.jul_check.specs.DistanceChecks.{is_lowered}

-- the test at a place whose target and weight are known
lowered_at : (g : RawGraph) (dist : List ℕ) (v p t w : ℕ) → target g p ≡ t → weight g p ≡ w →
    is_lowered g dist v p ≡ (is_none (get_or dist t 0) || ltb (get_or dist v 0 + w) (get_or dist t 0))
lowered_at g dist v p t w to has =
    ap (λ x. is_none (get_or dist x 0) || ltb (get_or dist v 0 + weight g p) (get_or dist x 0)) to
    ∙ ap (λ x. is_none (get_or dist t 0) || ltb (get_or dist v 0 + x) (get_or dist t 0)) has

pub is_lowered-none : (g : RawGraph) (dist : List ℕ) (v p t : ℕ) → target g p ≡ t → get_or dist t 0 ≡ NONE → is_lowered g dist v p ≡ true
is_lowered-none g dist v p t to none =
    or_left (is_none (get_or dist (target g p) 0)) (ltb (get_or dist v 0 + weight g p) (get_or dist (target g p) 0))
    (eq-eqb (get_or dist (target g p) 0) NONE (ap (λ x. get_or dist x 0) to ∙ none))

pub is_lowered-less : (g : RawGraph) (dist : List ℕ) (v p t w : ℕ) → target g p ≡ t → weight g p ≡ w →
    ltb (get_or dist v 0 + w) (get_or dist t 0) ≡ true → is_lowered g dist v p ≡ true
is_lowered-less g dist v p t w to has less =
    lowered_at g dist v p t w to has ∙ or_right (is_none (get_or dist t 0)) (ltb (get_or dist v 0 + w) (get_or dist t 0)) less

pub is_lowered-not : (g : RawGraph) (dist : List ℕ) (v p t w : ℕ) → target g p ≡ t → weight g p ≡ w →
    get_or dist t 0 ≢ NONE → ltb (get_or dist v 0 + w) (get_or dist t 0) ≡ false → is_lowered g dist v p ≡ false
is_lowered-not g dist v p t w to has some less =
    lowered_at g dist v p t w to has
    ∙ or_from (is_none (get_or dist t 0)) (ltb (get_or dist v 0 + w) (get_or dist t 0)) (ne_eqb (get_or dist t 0) NONE some) less
