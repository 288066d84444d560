-- A yes on a cover: the chosen sets hold every element.
use Rattle.std.proofs.Common.{◌≡◌, ◌≢◌, ℕ, ◌<◌, Bool, true, false, not, ◌&&◌, ltb, [], ◌∷◌, get_or, None, sym, ◌∙◌, ap, arith}
use Rattle.std.specs.List.{find, Contains}
use Rattle.std.proofs.lemmas.Bool.{both_ways, eq-eqb, ltb-true, not-false, or_parts}
use Rattle.std.proofs.lemmas.List.Folds.{list_any_at}
use Rattle.std.proofs.lemmas.List.FromFn.{length-range_with_len, get_or-range_with_len}
use Rattle.jul_base.specs.declared.graphs.RawGraph.{RawGraph}
use Rattle.jul_base.specs.declared.limits.TheConstants.{NONE}
use Rattle.jul_base.specs.declared.results.Cover.{Cover}
use Rattle.jul_base.specs.Numbers.{below}
use Rattle.jul_base.specs.Graph.{vertices}
use Rattle.jul_base.specs.Sets.{has, set_of, IsElement}
use Rattle.jul_base.proofs.SetLaws.{Contains-from_has, has-from_Contains, set_of-below}
use Rattle.jul_check.specs.declared.verdicts.Reason.{Reason}
use Rattle.jul_check.specs.declared.verdicts.Reason.TheVariants as reasons
use Rattle.jul_check.specs.declared.verdicts.Verdict.TheVariants.{Yes}
use Rattle.jul_check.specs.Verdicts.{is_none}
use Rattle.jul_check.specs.CoverChecks.{by_of, is_element, fails_cover, cover_reasons, cover_verdict, HoldsEveryElement}
use Rattle.jul_check.proofs.VerdictLaws.{yes_all, find_none}

pub is_element-from_IsElement : (g : RawGraph) (e : ℕ) → IsElement g e → is_element g e ≡ true
is_element-from_IsElement g e (s, lt, held) =
    let in_set : ℕ → Bool = λ r. has (set_of g r) e in
    let here : get_or (below (vertices g)) s 0 ≡ s = get_or-range_with_len 0 (vertices g) s 0 lt ∙ omega arith in
    list_any_at in_set (below (vertices g)) s 0 (omega (arith, length-range_with_len 0 (vertices g)))
    (ap in_set here ∙ has-from_Contains (set_of g s) e held)

-- a test under another that holds
and_false : (a b : Bool) → a ≡ true → (a && b) ≡ false → b ≡ false
and_false a b is none = sym (ap (λ t. t && b) is) ∙ none

is_some_number : (x : ℕ) → is_none x ≡ false → x ≢ NONE
is_some_number x fails e = both_ways _ fails (eq-eqb x NONE e)

pub cover_accepted : (g : RawGraph) (c : Cover) → cover_verdict g c ≡ Yes → HoldsEveryElement g c.round
cover_accepted g c accepted e element =
    let lt : e < vertices g = set_of-below g element.0 e element.2 in
    let is : is_element g e ≡ true = is_element-from_IsElement g e element in
    let f : Reason → Bool = fails_cover g c e in
    let a : (f reasons.NotCovered ≡ false) × (find f (reasons.NotHeld ∷ reasons.NotChosen ∷ reasons.NoElement ∷ []) ≡ None) =
    find_none f reasons.NotCovered (reasons.NotHeld ∷ reasons.NotChosen ∷ reasons.NoElement ∷ []) (yes_all (vertices g) cover_reasons (fails_cover g c) accepted e lt) in
    let b : (f reasons.NotHeld ≡ false) × (find f (reasons.NotChosen ∷ reasons.NoElement ∷ []) ≡ None) =
    find_none f reasons.NotHeld (reasons.NotChosen ∷ reasons.NoElement ∷ []) a.1 in
    let d : f reasons.NotChosen ≡ false = (find_none f reasons.NotChosen (reasons.NoElement ∷ []) b.1).0 in
    let covered : (is_none (by_of c e) ≡ false) × (not (ltb (by_of c e) (vertices g)) ≡ false) = or_parts _ _ (and_false _ _ is a.0) in
    let in_range : by_of c e < vertices g = ltb-true _ _ (not-false _ covered.1) in
    let held : Contains (set_of g (by_of c e)) e = Contains-from_has _ e (not-false _ (and_false _ _ is b.0)) in
    (by_of c e, in_range, held, is_some_number _ (and_false _ _ is d))
