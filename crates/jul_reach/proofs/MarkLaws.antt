-- Vertices that are marked one after another.
use Rattle.std.proofs.Common.{◌≡◌, ◌↔◌, ◌⊎◌, ℕ, ◌+◌, ◌<◌, Bool, true, false, not, List, [], ◌∷◌, ◌++◌, length, get_or, set, take, sym, ◌∙◌, ap, subst, cond, arith, inl, inr}
use Rattle.std.specs.List.{Contains, count_by}
use Rattle.std.specs.List.Sorted.{IsStrictlyIncreasing}
use Rattle.std.proofs.lemmas.Bool.{cases_eq, cases_Bool, both_ways}
use Rattle.std.proofs.lemmas.List.{take_more, get_or-set_same, get_or-set_other, get_or_default, get_or-take, length-take}
use Rattle.std.proofs.lemmas.List.Elements.{Contains-append_left, Contains-push, Contains-push_cases}
use Rattle.std.proofs.lemmas.List.Sums.{sum_by-set}
use Rattle.jul_subset.proofs.IncreasingLaws.{apart}
use Rattle.jul_reach.specs.Reaching.{mark_at}

-- these have a mark: those that had one, and these ids
pub record HasMarked (old new : List Bool) (ids : List ℕ) : Type 0 where
  pub marked : (v : ℕ) → (mark_at new v ≡ true) ↔ ((mark_at old v ≡ true) ⊎ Contains ids v)
  pub fewer : count_by not new + length ids ≡ count_by not old

pub none_marked : (marks : List Bool) → HasMarked marks marks []
none_marked marks = record { marked = λ v. (inl, λ h. elim h [ inl m ↦ m | inr (k, lt, is) ↦ absurd (omega (arith, lt)) ]); fewer = omega arith }

-- a vertex that stands at a later place of an increasing list isn't among those before
not_before : (ids : List ℕ) (i v : ℕ) → IsStrictlyIncreasing ids → i < length ids → v ≡ get_or ids i 0 → Contains (take i ids) v → ⊥
not_before ids i v up lt is (k, k_lt, k_is) =
    let k_in : k < i = omega (arith, k_lt, length-take i ids) in
    let same : get_or ids k 0 ≡ get_or ids i 0 = get_or_default ids k 0 v (omega arith) ∙ sym (get_or-take i ids k v k_in) ∙ k_is ∙ is in
    omega (arith, k_in, apart ids up k i (omega arith) lt same)

module _ (old marks : List Bool) (ids : List ℕ) (i v : ℕ) (up : IsStrictlyIncreasing ids) (lt : i < length ids) (is : v ≡ get_or ids i 0) (within : v < length marks) (fresh : mark_at old v ≡ false) (done : HasMarked old marks (take i ids)) where
  unmarked : mark_at marks v ≡ false
  unmarked = elim (cases_Bool (mark_at marks v)) [
    | inl m ↦ elim ((done.marked v).0 m) [
      | inl was ↦ absurd (both_ways _ fresh was)
      | inr before ↦ absurd (not_before ids i v up lt is before)
    ]
    | inr free ↦ free
  ]

  taken : take (i + 1) ids ≡ take i ids ++ v ∷ []
  taken = take_more ids i 0 lt ∙ ap (λ x. take i ids ++ x ∷ []) (sym is)

  now_marked : (x : ℕ) → mark_at (set marks v true) x ≡ true → (mark_at old x ≡ true) ⊎ Contains (take (i + 1) ids) x
  now_marked x m = elim (cases_eq x v) [
    | inl e ↦ inr (subst (λ l. Contains l x) (sym taken) (subst (Contains (take i ids ++ v ∷ [])) (sym e) (Contains-push (take i ids) v)))
    | inr ne ↦ elim ((done.marked x).0 (sym (get_or-set_other marks v x true false ne) ∙ m)) [
      | inl was ↦ inl was
      | inr before ↦ inr (subst (λ l. Contains l x) (sym taken) (Contains-append_left (take i ids) (v ∷ []) x before))
    ]
  ]

  still_marked : (x : ℕ) → mark_at marks x ≡ true → mark_at (set marks v true) x ≡ true
  still_marked x m = elim (cases_eq x v) [
    | inl e ↦ ap (λ y. mark_at (set marks v true) y) e ∙ get_or-set_same marks v true false within
    | inr ne ↦ get_or-set_other marks v x true false ne ∙ m
  ]

  was_asked : (x : ℕ) → (mark_at old x ≡ true) ⊎ Contains (take (i + 1) ids) x → mark_at (set marks v true) x ≡ true
  was_asked x (inl was) = still_marked x ((done.marked x).1 (inl was))
  was_asked x (inr there) = elim (Contains-push_cases (take i ids) v x (subst (λ l. Contains l x) taken there)) [
    | inl before ↦ still_marked x ((done.marked x).1 (inr before))
    | inr e ↦ ap (λ y. mark_at (set marks v true) y) (sym e) ∙ get_or-set_same marks v true false within
  ]

  pub marked_more : HasMarked old (set marks v true) (take (i + 1) ids)
  marked_more = record {
    marked = λ x. (now_marked x, was_asked x);
    fewer =
        let count : count_by not (set marks v true) + cond (not (get_or marks v false)) 1 0 ≡ count_by not marks + 0 = sum_by-set (λ b. cond (not b) 1 0) marks v true false within in
        let one : cond {A = ℕ} (not (get_or marks v false)) 1 0 ≡ 1 = ap (λ b. cond {A = ℕ} (not b) 1 0) unmarked in
        omega (arith, count, one, done.fewer, length-take i ids, length-take (i + 1) ids);
  }
