-- The bound of the round in which a vertex is taken is its coreness.
use Rattle.std.proofs.Common.{◌≡◌, ◌⊎◌, ℕ, zero, suc, ◌<◌, ◌≤◌, min, Bool, true, eqb, ltb, leb, cond, List, [], ◌∷◌, map, get_or, sym, ◌∙◌, subst, refl, ap, arith, inl, inr}
use Rattle.std.specs.List.{filter, fold, All, Contains, Any}
use Rattle.std.proofs.lemmas.Bool.{cases_lt, cases_Bool, eqb-true, eq-eqb, lt-ltb, ltb-true, leb-true, cond-true, cond-false, or_cases, or_left, or_right}
use Rattle.std.proofs.lemmas.List.Folds.{list_any_at, Any-from_list_any}
use Rattle.std.proofs.lemmas.List.FromFn.{length-range_with_len, get_or-range_with_len}
use Rattle.std.proofs.lemmas.List.Sums.{sum_by-le-sum_by}
use Rattle.std.proofs.lemmas.List.Elements.{All-contains}
use Rattle.jul_base.specs.declared.graphs.RawGraph.{RawGraph}
use Rattle.jul_base.specs.Numbers.{below}
use Rattle.jul_base.specs.Graph.{vertices, row}
use Rattle.jul_base.specs.Sets.{has}
use Rattle.jul_base.specs.Coreness.{inner_degree, IsCore, IsCoreness}
use Rattle.jul_base.specs.Levels.{Peeling, least_of, next_bound, taken, after_round, peeling, IsLevel}

-- what stands in the one list stands in the other
abbrev pub IsWithin : List ℕ → List ℕ → Type 0
IsWithin xs ys = (x : ℕ) → has xs x ≡ true → has ys x ≡ true

pub has-from_Contains : (xs : List ℕ) (x : ℕ) → Contains xs x → has xs x ≡ true
has-from_Contains xs x (k, lt, is) = list_any_at (λ y. eqb y x) xs k x lt (eq-eqb _ _ is)

contains_any : (xs : List ℕ) (x : ℕ) → Any (λ y. eqb y x ≡ true) xs → Contains xs x
contains_any xs x (k, y, lt, is, e) = (k, lt, subst (λ z. get_or xs k z ≡ z) (eqb-true y x e) is)

pub Contains-from_has : (xs : List ℕ) (x : ℕ) → has xs x ≡ true → Contains xs x
Contains-from_has xs x h = contains_any xs x (Any-from_list_any (λ y. eqb y x) xs h)

pub All-from_has : (P : ℕ → Type 0) (xs : List ℕ) → ((x : ℕ) → has xs x ≡ true → P x) → All P xs
All-from_has P xs f k d lt = f (get_or xs k d) (list_any_at (λ y. eqb y (get_or xs k d)) xs k d lt (eq-eqb _ _ refl))

below_at : (n x : ℕ) → Contains (below n) x → x < n
below_at n x (k, lt, is) =
    let k_lt : k < n = omega (arith, lt, length-range_with_len 0 n) in
    omega (arith, is, get_or-range_with_len 0 n k x k_lt)

pub below_from_has : (n x : ℕ) → has (below n) x ≡ true → x < n
below_from_has n x h = below_at n x (Contains-from_has (below n) x h)

pub has_below : (n x : ℕ) → x < n → has (below n) x ≡ true
has_below n x lt = list_any_at (λ y. eqb y x) (below n) x 0 (omega (arith, length-range_with_len 0 n)) (eq-eqb _ _ (get_or-range_with_len 0 n x 0 lt ∙ omega arith))

-- a longer list has more inner places
pub inner_degree-le : (g : RawGraph) (xs ys : List ℕ) (u : ℕ) → IsWithin xs ys → inner_degree g xs u ≤ inner_degree g ys u
inner_degree-le g xs ys u within = sum_by-le-sum_by (λ w. cond (has xs w) 1 0) (λ w. cond (has ys w) 1 0) (row g u) (λ w.
    elim (cases_Bool (has xs w)) [
      | inl h ↦
          let one_x : cond {A = ℕ} (has xs w) 1 0 ≡ 1 = cond-true _ _ _ h in
          let one_y : cond {A = ℕ} (has ys w) 1 0 ≡ 1 = cond-true _ _ _ (within w h) in
          omega arith
      | inr h ↦ let zero_x : cond {A = ℕ} (has xs w) 1 0 ≡ 0 = cond-false _ _ _ h in omega arith
    ])

-- what a filter keeps
pub has_filter : (p : ℕ → Bool) (xs : List ℕ) (x : ℕ) → has (filter p xs) x ≡ true → (has xs x ≡ true) × (p x ≡ true)
has_filter p [] x h = absurd (cc)
has_filter p (y ∷ ys) x h =
    elim (cases_Bool (p y)) [
      | inl py ↦ elim (or_cases (eqb y x) (has (filter p ys) x) (subst (λ l. has l x ≡ true) (cond-true _ _ _ py) h)) [
        | inl e ↦ (or_left _ _ e, subst (λ z. p z ≡ true) (eqb-true y x e) py)
        | inr more ↦ let r : (has ys x ≡ true) × (p x ≡ true) = has_filter p ys x more in (or_right _ _ r.0, r.1)
      ]
      | inr py ↦ let r : (has ys x ≡ true) × (p x ≡ true) = has_filter p ys x (subst (λ l. has l x ≡ true) (cond-false _ _ _ py) h) in (or_right _ _ r.0, r.1)
    ]

pub has_kept : (p : ℕ → Bool) (xs : List ℕ) (x : ℕ) → has xs x ≡ true → p x ≡ true → has (filter p xs) x ≡ true
has_kept p [] x h k = h
has_kept p (y ∷ ys) x h k =
    elim (or_cases (eqb y x) (has ys x) h) [
      | inl e ↦ subst (λ l. has l x ≡ true) (sym (cond-true _ _ _ (subst (λ z. p z ≡ true) (sym (eqb-true y x e)) k))) (or_left _ _ e)
      | inr more ↦ elim (cases_Bool (p y)) [
        | inl py ↦ subst (λ l. has l x ≡ true) (sym (cond-true _ _ _ py)) (or_right _ _ (has_kept p ys x more k))
        | inr py ↦ subst (λ l. has l x ≡ true) (sym (cond-false _ _ _ py)) (has_kept p ys x more k)
      ]
    ]

fold_min-le : (a : ℕ) (zs : List ℕ) → fold min a zs ≤ a
fold_min-le a [] = omega arith
fold_min-le a (z ∷ zs) = omega (arith, fold_min-le (min a z) zs)

fold_min-map : (f : ℕ → ℕ) (a : ℕ) (ys : List ℕ) (u : ℕ) → has ys u ≡ true → fold min a (map f ys) ≤ f u
fold_min-map f a [] u h = absurd (cc)
fold_min-map f a (y ∷ ys) u h =
    elim (or_cases (eqb y u) (has ys u) h) [
      | inl e ↦ omega (arith, fold_min-le (min a (f y)) (map f ys), ap f (eqb-true y u e))
      | inr more ↦ fold_min-map f (min a (f y)) ys u more
    ]

least_of-map : (f : ℕ → ℕ) (xs : List ℕ) (u : ℕ) → has xs u ≡ true → least_of (map f xs) ≤ f u
least_of-map f [] u h = absurd (cc)
least_of-map f (x ∷ xs) u h =
    elim (or_cases (eqb x u) (has xs u) h) [
      | inl e ↦ omega (arith, fold_min-le (f x) (map f xs), ap f (eqb-true x u e))
      | inr more ↦ fold_min-map f (f x) xs u more
    ]

-- ---- the lower bound: what is left before a round lies in a list of that bound

stays_within : (g : RawGraph) (t : ℕ) → IsWithin (peeling g (suc t)).left (peeling g t).left
stays_within g t x h = (has_filter (λ u. ltb (next_bound g (peeling g t)) (inner_degree g (peeling g t).left u)) (peeling g t).left x h).0

left_in_range : (g : RawGraph) (t x : ℕ) → has (peeling g t).left x ≡ true → x < vertices g
left_in_range g zero x h = below_from_has (vertices g) x h
left_in_range g (suc t) x h = left_in_range g t x (stays_within g t x h)

CoreOf : RawGraph → ℕ → Type 0
CoreOf g t = (s : List ℕ) × IsCore g (peeling g (suc t)).bound s × IsWithin (peeling g t).left s

itself : (g : RawGraph) (t : ℕ) → (peeling g t).bound ≤ least_of (map (inner_degree g (peeling g t).left) (peeling g t).left) → CoreOf g t
unfolding CoreOf
itself g t le =
    let left : List ℕ = (peeling g t).left in (
      left,
      record {
        vertices = All-from_has (λ u. u < vertices g) left (λ x h. left_in_range g t x h);
        degrees = All-from_has (λ u. (peeling g (suc t)).bound ≤ inner_degree g left u) left (λ x h. omega (arith, le, least_of-map (inner_degree g left) left x h));
      },
      λ x h. h,
    )

core_of_left : (g : RawGraph) (t : ℕ) → CoreOf g t
unfolding CoreOf
core_of_left g zero = itself g zero (omega arith)
core_of_left g (suc t) =
    elim (cases_lt (least_of (map (inner_degree g (peeling g (suc t)).left) (peeling g (suc t)).left)) (peeling g (suc t)).bound) [
      | inl lt ↦
          let before : CoreOf g t = core_of_left g t in
          let same : (peeling g (suc t)).bound ≡ (peeling g (suc (suc t))).bound = omega (arith, lt) in
          (before.0, subst (λ k. IsCore g k before.0) same before.1, λ x h. before.2 x (stays_within g t x h))
      | inr le ↦ itself g (suc t) le
    ]

-- ---- the upper bound: a list of a greater bound stays whole

split : (g : RawGraph) (p : Peeling) (s : List ℕ) → IsWithin s p.left →
    IsWithin s (after_round g p).left ⊎ ((u : ℕ) × (has s u ≡ true) × (inner_degree g p.left u ≤ next_bound g p))
split g p [] within = inl (λ x h. absurd (cc))
split g p (t ∷ ts) within =
    elim (cases_lt (next_bound g p) (inner_degree g p.left t)) [
      | inl lt ↦ elim (split g p ts (λ x h. within x (or_right _ _ h))) [
        | inl all ↦ inl (λ x h. elim (or_cases (eqb t x) (has ts x) h) [
          | inl e ↦ has_kept (λ u. ltb (next_bound g p) (inner_degree g p.left u)) p.left x (within x h)
              (subst (λ z. ltb (next_bound g p) (inner_degree g p.left z) ≡ true) (eqb-true t x e) (lt-ltb _ _ lt))
          | inr more ↦ all x more
        ])
        | inr (u, in_ts, le) ↦ inr (u, or_right _ _ in_ts, le)
      ]
      | inr le ↦ inr (t, or_left _ _ (eq-eqb t t refl), le)
    ]

left_or_bounded : (g : RawGraph) (k : ℕ) (s : List ℕ) → IsCore g k s → (t : ℕ) → IsWithin s (peeling g t).left ⊎ (k ≤ (peeling g t).bound)
left_or_bounded g k s core zero = inl (λ x h. has_below (vertices g) x (All-contains (λ u. u < vertices g) s x core.vertices (Contains-from_has s x h)))
left_or_bounded g k s core (suc t) =
    elim (left_or_bounded g k s core t) [
      | inr le ↦ inr (omega (arith, le))
      | inl within ↦ elim (split g (peeling g t) s within) [
        | inl all ↦ inl all
        | inr (u, in_s, le) ↦
            inr (omega (
              arith,
              le,
              inner_degree-le g s (peeling g t).left u within,
              All-contains (λ u. k ≤ inner_degree g s u) s u core.degrees (Contains-from_has s u in_s),
            ))
      ]
    ]

-- the bound of the round in which a vertex is taken is its coreness
pub level_bound : (g : RawGraph) (v t : ℕ) → IsLevel g v t → IsCoreness g v (peeling g (suc t)).bound
unfolding CoreOf
level_bound g v t level =
    let p : Peeling = peeling g t in
    let is_taken : (has p.left v ≡ true) × (leb (inner_degree g p.left v) (next_bound g p) ≡ true) =
    has_filter (λ u. leb (inner_degree g p.left u) (next_bound g p)) p.left v (has-from_Contains (taken g p) v level) in
    let core : CoreOf g t = core_of_left g t in
    record {
      holds = (core.0, core.1, Contains-from_has core.0 v (core.2 v is_taken.0));
      greatest = λ k (s, is_core, in_s). elim (left_or_bounded g k s is_core (suc t)) [
        | inl within ↦
            let kept : (has p.left v ≡ true) × (ltb (next_bound g p) (inner_degree g p.left v) ≡ true) =
            has_filter (λ u. ltb (next_bound g p) (inner_degree g p.left u)) p.left v (within v (has-from_Contains s v in_s)) in
            absurd (omega (arith, ltb-true _ _ kept.1, leb-true _ _ is_taken.1))
        | inr le ↦ le
      ];
    }
