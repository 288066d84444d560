-- Numbers that are set one after another, and parents that are read off the words.
use Rattle.std.proofs.Common.{◌≡◌, ◌≢◌, ℕ, ◌+◌, ◌<◌, ◌≤◌, cond, eqb, List, [], ◌∷◌, ◌++◌, length, get_or, set, take, refl, ap, sym, ◌∙◌, subst, eq-eqb, arith, inl, inr}
use Rattle.std.specs.Prelude.{Contains}
use Rattle.std.specs.List.Sorted.{IsStrictlyIncreasing}
use Rattle.std.proofs.lemmas.Bool.{cases_eq, ne_eqb}
use Rattle.std.proofs.lemmas.List.{length-set, length-take, take_more, take_all, get_or-set_same, get_or-set_other, get_or_default, get_or-take}
use Rattle.std.proofs.lemmas.List.Sums.{sum_by-set}
use Rattle.std.proofs.lemmas.List.Elements.{Contains-append_left, Contains-push, Contains-push_cases}
use Rattle.jul_base.specs.declared.limits.TheConstants.{NONE}
use Rattle.jul_subset.proofs.IncreasingLaws.{apart}
use Rattle.jul_tree.specs.Hooking.{unreached, HasSet}

-- nothing was set yet
pub none_set : (hops : List ℕ) (x : ℕ) → HasSet hops hops [] x
none_set hops x = record {
  size = refl;
  here = λ v lt (k, k_lt, is). absurd (omega (arith, k_lt));
  kept = λ v other. refl;
  fewer = omega arith;
}

-- a vertex that stands at a later place of an increasing list isn't among those before
not_before : (ids : List ℕ) (i : ℕ) → IsStrictlyIncreasing ids → i < length ids → Contains (take i ids) (get_or ids i 0) → ⊥
not_before ids i up lt (k, k_lt, k_is) =
    let k_in : k < i = omega (arith, k_lt, length-take i ids) in
    let same : get_or ids k 0 ≡ get_or ids i 0 = get_or_default ids k 0 (get_or ids i 0) (omega arith) ∙ sym (get_or-take i ids k (get_or ids i 0) k_in) ∙ k_is in
    omega (arith, k_in, apart ids up k i (omega arith) lt same)

module _ (old hops ids : List ℕ) (x i : ℕ) (some : x ≢ NONE) (up : IsStrictlyIncreasing ids) (lt : i < length ids) (id_in : get_or ids i 0 < length old) (none : get_or old (get_or ids i 0) 0 ≡ NONE) (h : HasSet old hops (take i ids) x) where
  abbrev id : ℕ
  id = get_or ids i 0

  id_in_now : id < length hops
  id_in_now = omega (arith, id_in, h.size)

  taken : take (i + 1) ids ≡ take i ids ++ id ∷ []
  taken = take_more ids i 0 lt

  as_before : get_or hops id 0 ≡ NONE
  as_before = h.kept id (not_before ids i up lt) ∙ none

  pub set_more : HasSet old (set hops id x) (take (i + 1) ids) x
  set_more = record {
    size = length-set hops id x ∙ h.size;
    here = λ v v_in there. elim (cases_eq v id) [
      | inl e ↦ ap (λ y. get_or (set hops id x) y 0) e ∙ get_or-set_same hops id x 0 id_in_now
      | inr ne ↦ elim (Contains-push_cases (take i ids) id v (subst (λ l. Contains l v) taken there)) [
        | inl before ↦ get_or-set_other hops id v x 0 ne ∙ h.here v v_in before
        | inr e ↦ absurd (ne (sym e))
      ]
    ];
    kept = λ v other.
        let ne : v ≢ id = λ e. other (subst (Contains (take (i + 1) ids)) (sym e) (subst (λ l. Contains l id) (sym taken) (Contains-push (take i ids) id))) in
        get_or-set_other hops id v x 0 ne
        ∙ h.kept v (λ before. other (subst (λ l. Contains l v) (sym taken) (Contains-append_left (take i ids) (id ∷ []) v before)));
    fewer =
        let count : unreached (set hops id x) + cond (eqb (get_or hops id 0) NONE) 1 0 ≡ unreached hops + cond (eqb x NONE) 1 0 = sum_by-set (λ y. cond (eqb y NONE) 1 0) hops id x 0 id_in_now in
        let one : cond {A = ℕ} (eqb (get_or hops id 0) NONE) 1 0 ≡ 1 = ap (λ b. cond {A = ℕ} b 1 0) (eq-eqb (get_or hops id 0) NONE as_before) in
        let zero_now : cond {A = ℕ} (eqb x NONE) 1 0 ≡ 0 = ap (λ b. cond {A = ℕ} b 1 0) (ne_eqb x NONE some) in
        omega (arith, count, one, zero_now, h.fewer, length-take i ids, length-take (i + 1) ids, lt);
  }

pub set_whole : (old hops ids : List ℕ) (x i : ℕ) → length ids ≤ i → HasSet old hops (take i ids) x → HasSet old hops ids x
set_whole old hops ids x i past h = subst (λ l. HasSet old hops l x) (take_all i ids past) h
