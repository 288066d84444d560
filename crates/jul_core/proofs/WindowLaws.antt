-- Windows that are made one behind another, and what they say of a graph together.
use Rattle.std.proofs.Common.{◌≡◌, ℕ, zero, suc, ◌+◌, ◌-◌, ◌<◌, ◌≤◌, List, [], ◌∷◌, ◌++◌, length, get_or, Bool, true, refl, sym, ◌∙◌, ap, subst, arith, inl, inr}
use Rattle.std.specs.Prelude.{All, IsTrue}
use Rattle.std.proofs.lemmas.Bool.{cases_eq}
use Rattle.std.proofs.lemmas.Option.{slice_get-get_or}
use Rattle.std.proofs.lemmas.List.{length-append, get_or_append_left, get_or-append_right}
use Rattle.jul_base.specs.declared.graphs.RawGraph.{RawGraph}
use Rattle.jul_base.specs.Graph.{vertices}
use Rattle.jul_base.specs.Symmetry.{IsSymmetric}
use Rattle.jul_base.specs.Logs.{Log}
use Rattle.jul_pool.specs.Runs.{EachRunOnce}
use Rattle.jul_pool.proofs.GivenLaws.{given_at}
use Rattle.jul_rows.specs.Mirrors.{AreMirrored}
use Rattle.jul_rows.proofs.MirrorLaws.{mirrored_both, mirrored_symmetric}
use Rattle.jul_core.specs.Windows.{AreWindows}

pub no_window : AreWindows 0 0 (0 ∷ [])
no_window = record {
  size = refl;
  first = refl;
  last = refl;
  rising = λ i lt. absurd (omega (arith, lt));
  within = λ i le. let none : 0 ≡ i = omega (arith, le) in subst (λ j. get_or (0 ∷ []) j 0 ≤ 0) none (omega arith);
}

-- one window more
pub window_more : (windows end next : ℕ) (bounds : List ℕ) → AreWindows windows end bounds → end ≤ next → AreWindows (windows + 1) next (bounds ++ (next ∷ []))
window_more windows end next bounds are le = record {
  size = omega (arith, length-append bounds (next ∷ []), are.size);
  first = before 0 (omega arith) ∙ are.first;
  last = here;
  rising = λ i lt. elim (cases_eq i windows) [
    | inl same ↦ let P : ℕ → Type 0 = λ i. get_or (bounds ++ (next ∷ [])) i 0 ≤ get_or (bounds ++ (next ∷ [])) (i + 1) 0 in
        subst P (sym same) (omega (arith, before windows (omega arith), are.last, here, le))
    | inr other ↦ omega (arith, before i (omega (arith, lt)), before (i + 1) (omega (arith, lt, other)), are.rising i (omega (arith, lt, other)))
  ];
  within = λ i i_le. elim (cases_eq i (windows + 1)) [
    | inl same ↦ omega (arith, ap (λ j. get_or (bounds ++ (next ∷ [])) j 0) same, here)
    | inr other ↦ omega (arith, before i (omega (arith, i_le, other)), are.within i (omega (arith, i_le, other)), le)
  ];
} where
  before : (i : ℕ) → i ≤ windows → get_or (bounds ++ (next ∷ [])) i 0 ≡ get_or bounds i 0
  before i i_le = get_or_append_left bounds (next ∷ []) 0 i (omega (arith, i_le, are.size))

  here : get_or (bounds ++ (next ∷ [])) (windows + 1) 0 ≡ next
  here =
      let none : (windows + 1) - (windows + 1) ≡ 0 = omega arith in
      get_or-append_right bounds (next ∷ []) (windows + 1) (windows + 1) 0 are.size (omega arith) ∙ ap (λ j. get_or (next ∷ []) j 0) none

module _ (g : RawGraph) where
  before_bound : (windows end : ℕ) (bounds : List ℕ) → AreWindows windows end bounds → ((i : ℕ) → i < windows → AreMirrored g (get_or bounds i 0) (get_or bounds (i + 1) 0)) →
      (i : ℕ) → i ≤ windows → AreMirrored g 0 (get_or bounds i 0)
  before_bound windows end bounds are each zero le = λ u w less ge lt w_lt. absurd (omega (arith, lt, are.first))
  before_bound windows end bounds are each (suc i) le =
      let next : i + 1 ≡ suc i = omega arith in
      subst (λ j. AreMirrored g 0 (get_or bounds j 0)) next
      (mirrored_both g 0 (get_or bounds i 0) (get_or bounds (i + 1) 0) (before_bound windows end bounds are each i (omega (arith, le))) (each i (omega (arith, le))))

  -- windows that have all vertices
  pub windows_symmetric : (windows : ℕ) (bounds : List ℕ) → AreWindows windows (vertices g) bounds → ((i : ℕ) → i < windows → AreMirrored g (get_or bounds i 0) (get_or bounds (i + 1) 0)) → IsSymmetric g
  windows_symmetric windows bounds are each =
      mirrored_symmetric g (subst (AreMirrored g 0) are.last (before_bound windows (vertices g) bounds are each windows (omega arith)))

  -- windows that were each run once and each found mirrored
  pub found_symmetric : (windows : ℕ) (bounds : List ℕ) (old new : Log) (outs : List Bool) (order : List ℕ) → AreWindows windows (vertices g) bounds →
      EachRunOnce (λ (i : ℕ) (out : Bool) (added : Log). IsTrue out → AreMirrored g (get_or bounds i 0) (get_or bounds (i + 1) 0)) windows old new outs order → All (λ found. IsTrue found) outs → IsSymmetric g
  found_symmetric windows bounds old new outs order are ran found = windows_symmetric windows bounds are (λ i lt.
      let in_outs : i < length outs = omega (arith, lt, ran.count) in
      let given = given_at (λ (i : ℕ) (out : Bool) (added : Log). IsTrue out → AreMirrored g (get_or bounds i 0) (get_or bounds (i + 1) 0)) windows old new outs order ran i (get_or outs i true)
      (slice_get-get_or outs i true in_outs) in
      given.1 (found i true in_outs))
