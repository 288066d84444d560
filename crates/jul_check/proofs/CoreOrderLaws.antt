-- The order by level: who stands before a vertex of the sorted list, and how far the greatest core is known.
use Rattle.std.proofs.Common.{◌≡◌, ◌≢◌, ℕ, ◌+◌, ◌<◌, ◌≤◌, max, Bool, true, false, ◌&&◌, ◌||◌, eqb, ltb, cond, List, [], ◌∷◌, ◌++◌, map, take, length, get_or, set, sym, ◌∙◌, subst, refl, ap, arith, inl, inr}
use Rattle.std.specs.List.{list_any, All}
use Rattle.std.specs.List.Sorted.{IsPermutation, IsSorted}
use Rattle.std.specs.Cmp.{IsStrictWeakOrder}
use Rattle.std.proofs.Common.{Ordering, Less, Equal, Greater}
use Rattle.std.specs.Ordering.{is_lt, nat_cmp, ordering_then}
use Rattle.std.proofs.lemmas.Bool.{cases_eq, cases_lt, both_ways, and_parts, and_from, ltb-true, le-ltb}
use Rattle.std.proofs.lemmas.Bool.Decides.{nat_tests}
use Rattle.std.proofs.lemmas.List.{get_or-take, get_or_default, get_or-set_same, get_or-set_other, length-set, length-take-le}
use Rattle.std.proofs.lemmas.List.Sorted.{sorted_far, All-permutation, Contains-permutation, list_any-IsPermutation}
use Rattle.std.proofs.lemmas.List.Folds.{list_any_at, list_any_more, Any-from_list_any}
use Rattle.std.proofs.lemmas.List.FromFn.{length-map-range_with_len, get_or-map-range_with_len, map-range_with_len_more}
use Rattle.jul_base.specs.declared.results.Cores.{Cores}
use Rattle.jul_base.specs.Numbers.{below}
use Rattle.jul_check.specs.CoreChecks.{core_of, level_of, is_before, is_outranked}
use Rattle.jul_check.specs.CoreOrder.{leveled, IsByLevel}
use Rattle.jul_check.specs.Marks.{AreMarks}
use Rattle.jul_check.proofs.TestLaws.{same_test, list_any-map}

-- ---- pairs in order

abbrev pub pair_cmp : ℕ × ℕ → ℕ × ℕ → Ordering
pair_cmp x y = ordering_then (nat_cmp x.0 y.0) (nat_cmp x.1 y.1)

abbrev pair_lt : ℕ × ℕ → ℕ × ℕ → Bool
pair_lt x y = ltb x.0 y.0 || (eqb x.0 y.0 && ltb x.1 y.1)

lt_by_tests : (p q r s : Bool) →
    is_lt (ordering_then (cond p Less (cond q Equal Greater)) (cond r Less (cond s Equal Greater))) ≡ (p || (q && r))
lt_by_tests true q r s = refl
lt_by_tests false true true s = refl
lt_by_tests false true false true = refl
lt_by_tests false true false false = refl
lt_by_tests false false r s = refl

is_lt-pair_cmp : (x y : ℕ × ℕ) → is_lt (pair_cmp x y) ≡ pair_lt x y
is_lt-pair_cmp x y = lt_by_tests (ltb x.0 y.0) (eqb x.0 y.0) (ltb x.1 y.1) (eqb x.1 y.1)

pair_lt_one_way : (a b x y : ℕ) → (ltb a x || (eqb a x && ltb b y)) ≡ true → (ltb x a || (eqb x a && ltb y b)) ≡ false
pair_lt_one_way a b x y h = grind (arith, nat_tests)

pair_lt_chain : (a b x y s t : ℕ) → (ltb a x || (eqb a x && ltb b y)) ≡ false → (ltb x s || (eqb x s && ltb y t)) ≡ false →
    (ltb a s || (eqb a s && ltb b t)) ≡ false
pair_lt_chain a b x y s t h k = grind (arith, nat_tests)

pairs_ranked : IsStrictWeakOrder pair_lt
pairs_ranked = record {
  one_way = λ x y h. pair_lt_one_way x.0 x.1 y.0 y.1 h;
  chain = λ x y z h k. pair_lt_chain x.0 x.1 y.0 y.1 z.0 z.1 h k;
}

-- ---- the sorted list

pub record IsEntry (c : Cores) (n : ℕ) (p : ℕ × ℕ) : Type 0 where
  pub level : p.0 ≡ level_of c p.1
  pub vertex : p.1 < n

all_leveled : (c : Cores) (n : ℕ) → All (IsEntry c n) (map (leveled c) (below n))
all_leveled c n k d lt =
    let in_range : k < n = omega (arith, lt, length-map-range_with_len (leveled c) 0 n) in
    let is : get_or (map (leveled c) (below n)) k d ≡ leveled c k = get_or-map-range_with_len (leveled c) 0 n k k d in_range (omega arith) in
    let entry : IsEntry c n (leveled c k) = record { level = refl; vertex = in_range } in
    subst (IsEntry c n) (sym is) entry

entries : (c : Cores) (n : ℕ) (order : List (ℕ × ℕ)) → IsPermutation (map (leveled c) (below n)) order → All (IsEntry c n) order
entries c n order moved = All-permutation (IsEntry c n) (map (leveled c) (below n)) order moved (all_leveled c n)

pub entry_at : (c : Cores) (n : ℕ) (order : List (ℕ × ℕ)) → IsByLevel c n order → (i : ℕ) (d : ℕ × ℕ) → i < length order →
    IsEntry c n (get_or order i d)
entry_at c n order by i d lt = entries c n order by.permutation i d lt

-- what the sort of the pairs gives
pub IsByLevel-from_sort : (c : Cores) (n : ℕ) (order : List (ℕ × ℕ)) → IsPermutation (map (leveled c) (below n)) order → IsSorted pair_cmp order →
    IsByLevel c n order
IsByLevel-from_sort c n order moved up = record {
  permutation = moved;
  sorted = λ i j d le lt.
      let far : pair_lt (get_or order j d) (get_or order i d) ≡ false =
      sorted_far pair_lt pairs_ranked order (λ k d low high. sym (is_lt-pair_cmp (get_or order (k + 1) d) (get_or order k d)) ∙ up k d low high) i j d le lt in
      let here : IsEntry c n (get_or order i d) = entries c n order moved i d (omega arith) in
      let there : IsEntry c n (get_or order j d) = entries c n order moved j d lt in
      rw (sym here.level, sym there.level) far;
}

-- one more vertex behind its level
pub leveled_more : (c : Cores) (v level : ℕ) (before after : List (ℕ × ℕ)) → after ≡ before ++ (level, v) ∷ [] → level ≡ level_of c v →
    before ≡ map (leveled c) (below v) → after ≡ map (leveled c) (below (v + 1))
leveled_more c v level before after pushed is so_far =
    pushed
    ∙ ap (λ l. before ++ (l, v) ∷ []) is
    ∙ ap (λ ps. ps ++ leveled c v ∷ []) so_far
    ∙ sym (map-range_with_len_more (leveled c) 0 v v (omega arith))

-- every vertex stands somewhere in the list
pub place_in_order : (c : Cores) (n : ℕ) (order : List (ℕ × ℕ)) → IsByLevel c n order → (v : ℕ) → v < n →
    (j : ℕ) × (j < length order) × (get_or order j (leveled c v) ≡ leveled c v)
place_in_order c n order by v lt =
    Contains-permutation (map (leveled c) (below n)) order (leveled c v) by.permutation (
      v,
      omega (arith, lt, length-map-range_with_len (leveled c) 0 n),
      get_or-map-range_with_len (leveled c) 0 n v v (leveled c v) lt (omega arith),
    )

-- ---- who stands before a vertex

pub before_other : (c : Cores) (u v : ℕ) → u ≢ v → is_before c v u ≡ false → is_before c u v ≡ true
before_other c u v ne h = grind (arith, nat_tests)

outranks : Cores → ℕ → ℕ × ℕ → Bool
outranks c v p = is_before c p.1 v && ltb (core_of c v) (core_of c p.1)

-- the number of an entry that passes, at any default
any_place : (test : ℕ × ℕ → Bool) (xs : List (ℕ × ℕ)) (d : ℕ × ℕ) → list_any test xs ≡ true → (k : ℕ) × (k < length xs) × (test (get_or xs k d) ≡ true)
any_place test xs d h =
    let (k, p, lt, at, is) = Any-from_list_any test xs h in
    let there : get_or xs k d ≡ p = get_or_default xs k d p lt ∙ at in
    (k, lt, ap test there ∙ is)

-- that some vertex outranks v is said of the sorted list too
outranked_by_entry : (c : Cores) (n : ℕ) (order : List (ℕ × ℕ)) → IsByLevel c n order → (v : ℕ) →
    list_any (outranks c v) order ≡ is_outranked c n v
unfolding outranks
outranked_by_entry c n order by v =
    sym (list_any-IsPermutation (outranks c v) (map (leveled c) (below n)) order by.permutation) ∙ list_any-map (outranks c v) (leveled c) (below n)

module _ (c : Cores) (n : ℕ) (order : List (ℕ × ℕ)) (by : IsByLevel c n order) (i : ℕ) (d : ℕ × ℕ) (i_lt : i < length order) where
  at : ℕ
  at = (get_or order i d).1

  is_greater : ℕ × ℕ → Bool
  is_greater p = ltb (core_of c at) (core_of c p.1)

  not_itself : (p : ℕ × ℕ) → is_greater p ≡ true → p.1 ≢ at
  unfolding is_greater
  not_itself p greater e = absurd (omega (arith, ltb-true _ _ greater, ap (core_of c) e))

  outranks_there : list_any is_greater (take i order) ≡ true → list_any (outranks c at) order ≡ true
  unfolding outranks is_greater at
  outranks_there h =
      let (k, k_lt, greater) = any_place is_greater (take i order) d h in
      let early : k < i = omega (arith, length-take-le i order) in
      let same : get_or (take i order) k d ≡ get_or order k d = get_or-take i order k d early in
      let greater' : is_greater (get_or order k d) ≡ true = ap is_greater (sym same) ∙ greater in
      let before : is_before c (get_or order k d).1 at ≡ true =
      before_other c (get_or order k d).1 at (not_itself (get_or order k d) greater') (by.sorted k i d (omega arith) i_lt) in
      list_any_at (outranks c at) order k d (omega arith) (and_from _ _ before greater')

  outranks_back : list_any (outranks c at) order ≡ true → list_any is_greater (take i order) ≡ true
  unfolding outranks is_greater at
  outranks_back h =
      let (k, k_lt, holds) = any_place (outranks c at) order d h in
      let both : (is_before c (get_or order k d).1 at ≡ true) × (is_greater (get_or order k d) ≡ true) = and_parts _ _ holds in
      elim (cases_lt k i) [
        | inl early ↦
            let same : get_or (take i order) k d ≡ get_or order k d = get_or-take i order k d early in
            list_any_at is_greater (take i order) k d (omega (arith, length-take-le i order)) (ap is_greater same ∙ both.1)
        | inr late ↦ absurd (both_ways _ (by.sorted i k d late k_lt) both.0)
      ]

-- a vertex of the sorted list is outranked where an entry before it has a greater core
pub outranked_in_order : (c : Cores) (n : ℕ) (order : List (ℕ × ℕ)) → IsByLevel c n order → (i : ℕ) (d : ℕ × ℕ) → i < length order →
    list_any (λ (p : ℕ × ℕ). ltb (core_of c (get_or order i d).1) (core_of c p.1)) (take i order) ≡ is_outranked c n (get_or order i d).1
unfolding is_greater at
outranked_in_order c n order by i d lt =
    same_test _ _ (outranks_there c n order by i d lt) (outranks_back c n order by i d lt)
    ∙ outranked_by_entry c n order by (get_or order i d).1

-- ---- the pass in that order

-- the marks of the first i entries, and the greatest core among them
pub record MarksSoFar (c : Cores) (n : ℕ) (order : List (ℕ × ℕ)) (i : ℕ) (marks : List Bool) (greatest : ℕ) : Type 0 where
  pub size : length marks ≡ n
  pub most : (k : ℕ) → list_any (λ (p : ℕ × ℕ). ltb k (core_of c p.1)) (take i order) ≡ ltb k greatest
  pub each : (j : ℕ) (d : ℕ × ℕ) → j < i → get_or marks (get_or order j d).1 false ≡ is_outranked c n (get_or order j d).1

pub MarksSoFar-none : (c : Cores) (n : ℕ) (order : List (ℕ × ℕ)) (marks : List Bool) → length marks ≡ n → MarksSoFar c n order 0 marks 0
MarksSoFar-none c n order marks size = record {
  size = size;
  most = λ k. sym (le-ltb k 0 (omega arith));
  each = λ j d lt. absurd (omega arith);
}

ltb-max : (k a b : ℕ) → (ltb k a || ltb k b) ≡ ltb k (max a b)
ltb-max k a b = grind (arith, nat_tests)

pub MarksSoFar-more : (c : Cores) (n : ℕ) (order : List (ℕ × ℕ)) → IsByLevel c n order → (i : ℕ) (marks : List Bool) (greatest : ℕ) →
    MarksSoFar c n order i marks greatest → i < length order → (v core : ℕ) → v ≡ (get_or order i (0, 0)).1 → core ≡ core_of c v →
    MarksSoFar c n order (i + 1) (set marks v (ltb core greatest)) (max greatest core)
MarksSoFar-more c n order by i marks greatest before lt v core at is =
    let in_range : v < n = omega (arith, at, (entry_at c n order by i (0, 0) lt).vertex) in
    let P : ℕ → Type 0 = λ w. list_any (λ (p : ℕ × ℕ). ltb (core_of c w) (core_of c p.1)) (take i order) ≡ is_outranked c n w in
    let Q : ℕ → Type 0 = λ k. list_any (λ (p : ℕ × ℕ). ltb k (core_of c p.1)) (take i order) ≡ is_outranked c n v in
    let here : ltb core greatest ≡ is_outranked c n v =
    sym (before.most core) ∙ subst Q (sym is) (subst P (sym at) (outranked_in_order c n order by i (0, 0) lt)) in
    record {
      size = length-set marks v (ltb core greatest) ∙ before.size;
      most = λ k.
          let test : ℕ × ℕ → Bool = λ p. ltb k (core_of c p.1) in
          let last : test (get_or order i (0, 0)) ≡ ltb k core = ap (λ w. ltb k (core_of c w)) (sym at) ∙ ap (ltb k) (sym is) in
          list_any_more test order i (0, 0) lt
          ∙ ap (λ b. b || test (get_or order i (0, 0))) (before.most k)
          ∙ ap (λ b. ltb k greatest || b) last
          ∙ ltb-max k greatest core;
      each = λ j d j_lt.
          let w : ℕ = (get_or order j d).1 in
          elim (cases_eq w v) [
            | inl same ↦
                ap (λ x. get_or (set marks v (ltb core greatest)) x false) same
                ∙ get_or-set_same marks v (ltb core greatest) false (omega (arith, before.size, in_range))
                ∙ here
                ∙ ap (is_outranked c n) (sym same)
            | inr other ↦
                let earlier : j < i = elim (cases_eq j i) [
                  | inl now ↦ absurd (other (ap (λ x. (get_or order x d).1) now ∙ ap (λ (p : ℕ × ℕ). p.1) (get_or_default order i d (0, 0) lt) ∙ sym at))
                  | inr past ↦ omega arith
                ] in
                get_or-set_other marks v w (ltb core greatest) false other ∙ before.each j d earlier
          ];
    }

-- at the end every vertex has its mark
pub AreMarks-from_all : (c : Cores) (n : ℕ) (order : List (ℕ × ℕ)) → IsByLevel c n order → (i : ℕ) (marks : List Bool) (greatest : ℕ) →
    MarksSoFar c n order i marks greatest → length order ≤ i → AreMarks n (is_outranked c n) marks
AreMarks-from_all c n order by i marks greatest done end = record {
  size = done.size;
  each = λ v lt.
      let (j, j_lt, at) = place_in_order c n order by v lt in
      let is : (get_or order j (leveled c v)).1 ≡ v = ap (λ (p : ℕ × ℕ). p.1) at in
      let P : ℕ → Type 0 = λ w. get_or marks w false ≡ is_outranked c n w in
      subst P is (done.each j (leveled c v) (omega arith));
}
