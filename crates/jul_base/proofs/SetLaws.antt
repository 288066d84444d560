-- Sets as increasing lists: one list is determined by what it holds.
use Rattle.std.proofs.Common.{◌≡◌, ℕ, zero, suc, ◌+◌, ◌<◌, ◌⊎◌, List, [], ◌∷◌, length, get_or, Bool, true, eqb, sym, ◌∙◌, ap, subst, refl, arith, inl, inr}
use Rattle.std.specs.List.{filter, Contains, AllPairs}
use Rattle.std.specs.List.Sorted.{IsStrictlyIncreasing}
use Rattle.std.proofs.lemmas.Bool.{eq-eqb, eqb-true, cases_Bool, both_ways}
use Rattle.std.proofs.lemmas.List.Elements.{Contains-get_or}
use Rattle.std.proofs.lemmas.List.Folds.{Any-from_list_any, list_any_at}
use Rattle.std.proofs.lemmas.List.Kept.{IsStrictlyIncreasing-filter, AllPairs-from_increasing}
use Rattle.std.proofs.lemmas.List.FromFn.{length-range_with_len, get_or-range_with_len, length-map-range_with_len, get_or-map-range_with_len}
use Rattle.jul_base.specs.declared.graphs.RawGraph.{RawGraph}
use Rattle.jul_base.specs.Numbers.{below}
use Rattle.jul_base.specs.Graph.{vertices, row}
use Rattle.jul_base.specs.Sets.{has, set_of, sets_of, AreSets, IsElementOf, IsElement}

pub Contains-from_has : (xs : List ℕ) (x : ℕ) → has xs x ≡ true → Contains xs x
Contains-from_has xs x found =
    let (k, y, lt, at, is) = Any-from_list_any (λ y. eqb y x) xs found in
    let P : ℕ → Type 0 = λ z. get_or xs k z ≡ z in
    (k, lt, subst P (eqb-true y x is) at)

pub has-from_Contains : (xs : List ℕ) (x : ℕ) → Contains xs x → has xs x ≡ true
has-from_Contains xs x (k, lt, at) = list_any_at (λ y. eqb y x) xs k x lt (eq-eqb (get_or xs k x) x at)

-- a number is in a list or isn't
pub member_cases : (xs : List ℕ) (x : ℕ) → Contains xs x ⊎ (Contains xs x → ⊥)
member_cases xs x = elim (cases_Bool (has xs x)) [
  | inl there ↦ inl (Contains-from_has xs x there)
  | inr not' ↦ inr (λ there. both_ways (has xs x) not' (has-from_Contains xs x there))
]

pub Contains-cons : (y : ℕ) (xs : List ℕ) (x : ℕ) → Contains xs x → Contains (y ∷ xs) x
Contains-cons y xs x (k, lt, at) = (suc k, omega arith, at)

pub Contains-cons_cases : (y : ℕ) (xs : List ℕ) (x : ℕ) → Contains (y ∷ xs) x → (y ≡ x) ⊎ Contains xs x
Contains-cons_cases y xs x (zero, lt, at) = inl at
Contains-cons_cases y xs x (suc k, lt, at) = inr (k, omega arith, at)

-- what a filter keeps
pub Contains-filter : (p : ℕ → Bool) (xs : List ℕ) (x : ℕ) → Contains xs x → p x ≡ true → Contains (filter p xs) x
Contains-filter p [] x (k, lt, at) passes = absurd (omega arith)
Contains-filter p (y ∷ xs) x held passes =
    elim (Contains-cons_cases y xs x held) [
      | inl same ↦ rw (ap p same ∙ passes) (0, omega arith, same)
      | inr later ↦
          let rest : Contains (filter p xs) x = Contains-filter p xs x later passes in
          elim (cases_Bool (p y)) [
            | inl kept ↦ rw kept (Contains-cons y (filter p xs) x rest)
            | inr dropped ↦ rw dropped rest
          ]
    ]

pub Contains-from_filter : (p : ℕ → Bool) (xs : List ℕ) (x : ℕ) → Contains (filter p xs) x → Contains xs x × (p x ≡ true)
Contains-from_filter p [] x (k, lt, at) = absurd (omega arith)
Contains-from_filter p (y ∷ xs) x held =
    elim (cases_Bool (p y)) [
      | inl kept ↦
          let held' : Contains (y ∷ filter p xs) x = rw kept at held in
          elim (Contains-cons_cases y (filter p xs) x held') [
            | inl same ↦ ((0, omega arith, same), ap p (sym same) ∙ kept)
            | inr later ↦
                let rest : Contains xs x × (p x ≡ true) = Contains-from_filter p xs x later in
                (Contains-cons y xs x rest.0, rest.1)
          ]
      | inr dropped ↦
          let rest : Contains xs x × (p x ≡ true) = Contains-from_filter p xs x (rw dropped at held) in
          (Contains-cons y xs x rest.0, rest.1)
    ]

pub Contains-below : (n x : ℕ) → x < n → Contains (below n) x
Contains-below n x lt = (x, omega (arith, length-range_with_len 0 n), get_or-range_with_len 0 n x x lt ∙ omega arith)

pub below-Contains : (n x : ℕ) → Contains (below n) x → x < n
below-Contains n x (k, lt, at) =
    let in_range : k < n = omega (arith, length-range_with_len 0 n) in
    omega (arith, get_or-range_with_len 0 n k x in_range, at)

pub IsStrictlyIncreasing-below : (n : ℕ) → IsStrictlyIncreasing (below n)
IsStrictlyIncreasing-below n k lt =
    let size : length (below n) ≡ n = length-range_with_len 0 n in
    omega (arith, get_or-range_with_len 0 n k 0 (omega (arith, size)), get_or-range_with_len 0 n (k + 1) 0 (omega (arith, size)))

pub IsStrictlyIncreasing-set_of : (g : RawGraph) (s : ℕ) → IsStrictlyIncreasing (set_of g s)
IsStrictlyIncreasing-set_of g s = IsStrictlyIncreasing-filter (has (row g s)) (below (vertices g)) (IsStrictlyIncreasing-below (vertices g))

-- the first of an increasing list is less than the others
first_less : (x : ℕ) (xs : List ℕ) (z : ℕ) → AllPairs (λ a b. a < b) (x ∷ xs) → Contains xs z → x < z
first_less x xs z up (k, lt, at) =
    let less : x < get_or xs k z = up 0 (suc k) z (omega arith) (omega arith) in
    omega (arith, less, at)

rest_rises : (x : ℕ) (xs : List ℕ) → AllPairs (λ a b. a < b) (x ∷ xs) → AllPairs (λ a b. a < b) xs
rest_rises x xs up i j d lt in' = up (suc i) (suc j) d (omega arith) (omega arith)

-- what the rests hold, where the firsts are one
rest_holds : (x : ℕ) (xs ys : List ℕ) → AllPairs (λ a b. a < b) (x ∷ xs) → ((z : ℕ) → Contains (x ∷ xs) z → Contains (x ∷ ys) z) →
    (z : ℕ) → Contains xs z → Contains ys z
rest_holds x xs ys up there z held =
    elim (Contains-cons_cases x ys z (there z (Contains-cons x xs z held))) [
      | inl same ↦ absurd (omega (arith, first_less x xs z up held, same))
      | inr later ↦ later
    ]

firsts_are_one : (x y : ℕ) (xs ys : List ℕ) → AllPairs (λ a b. a < b) (x ∷ xs) → AllPairs (λ a b. a < b) (y ∷ ys) →
    Contains (y ∷ ys) x → Contains (x ∷ xs) y → x ≡ y
firsts_are_one x y xs ys up_xs up_ys x_in y_in =
    elim (Contains-cons_cases y ys x x_in) [
      | inl same ↦ sym same
      | inr x_later ↦
          elim (Contains-cons_cases x xs y y_in) [
            | inl same ↦ same
            | inr y_later ↦ absurd (omega (arith, first_less y ys x up_ys x_later, first_less x xs y up_xs y_later))
          ]
    ]

rising_unique : (xs ys : List ℕ) → AllPairs (λ a b. a < b) xs → AllPairs (λ a b. a < b) ys →
    ((z : ℕ) → Contains xs z → Contains ys z) → ((z : ℕ) → Contains ys z → Contains xs z) → xs ≡ ys
rising_unique [] [] up_xs up_ys there back = refl
rising_unique [] (y ∷ ys) up_xs up_ys there back = let (k, lt, at) = back y (0, omega arith, refl) in absurd (omega arith)
rising_unique (x ∷ xs) [] up_xs up_ys there back = let (k, lt, at) = there x (0, omega arith, refl) in absurd (omega arith)
rising_unique (x ∷ xs) (y ∷ ys) up_xs up_ys there back =
    let same : x ≡ y = firsts_are_one x y xs ys up_xs up_ys (there x (0, omega arith, refl)) (back y (0, omega arith, refl)) in
    let up_xs' : AllPairs (λ a b. a < b) (y ∷ xs) = rw same at up_xs in
    let there' : (z : ℕ) → Contains (y ∷ xs) z → Contains (y ∷ ys) z = rw same at there in
    let back' : (z : ℕ) → Contains (y ∷ ys) z → Contains (y ∷ xs) z = rw same at back in
    let rests : xs ≡ ys =
    rising_unique xs ys (rest_rises x xs up_xs) (rest_rises y ys up_ys) (rest_holds y xs ys up_xs' there') (rest_holds y ys xs up_ys back') in
    cc

-- increasing lists that hold the same numbers are one
pub increasing_unique : (xs ys : List ℕ) → IsStrictlyIncreasing xs → IsStrictlyIncreasing ys →
    ((x : ℕ) → Contains xs x → Contains ys x) → ((x : ℕ) → Contains ys x → Contains xs x) → xs ≡ ys
increasing_unique xs ys up_xs up_ys there back = rising_unique xs ys (AllPairs-from_increasing xs up_xs) (AllPairs-from_increasing ys up_ys) there back

pub get_or-sets_of : (g : RawGraph) (s : ℕ) → s < vertices g → get_or (sets_of g) s [] ≡ set_of g s
get_or-sets_of g s lt = get_or-map-range_with_len (set_of g) 0 (vertices g) s s [] lt (omega arith)

-- an element of one of the sets is one of the graph, and the other way round
pub IsElement-from_sets : (g : RawGraph) (e : ℕ) → IsElementOf (sets_of g) e → IsElement g e
IsElement-from_sets g e (s, lt, held) =
    let in_range : s < vertices g = omega (arith, length-map-range_with_len (set_of g) 0 (vertices g)) in
    let P : List ℕ → Type 0 = λ set. Contains set e in
    (s, in_range, subst P (get_or-sets_of g s in_range) held)

pub IsElementOf-from_graph : (g : RawGraph) (e : ℕ) → IsElement g e → IsElementOf (sets_of g) e
IsElementOf-from_graph g e (s, lt, held) =
    let P : List ℕ → Type 0 = λ set. Contains set e in
    (s, omega (arith, length-map-range_with_len (set_of g) 0 (vertices g)), subst P (sym (get_or-sets_of g s lt)) held)

pub length-sets_of : (g : RawGraph) → length (sets_of g) ≡ vertices g
length-sets_of g = length-map-range_with_len (set_of g) 0 (vertices g)

pub set_of-below : (g : RawGraph) (s e : ℕ) → Contains (set_of g s) e → e < vertices g
set_of-below g s e held = below-Contains (vertices g) e (Contains-from_filter (has (row g s)) (below (vertices g)) e held).0

pub AreSets-sets_of : (g : RawGraph) → AreSets (sets_of g)
AreSets-sets_of g = record {
  increasing = λ s lt.
      let in_range : s < vertices g = omega (arith, length-sets_of g) in
      let P : List ℕ → Type 0 = IsStrictlyIncreasing in
      subst P (sym (get_or-sets_of g s in_range)) (IsStrictlyIncreasing-set_of g s);
  within = λ s lt k d k_lt.
      let in_range : s < vertices g = omega (arith, length-sets_of g) in
      let is : get_or (sets_of g) s [] ≡ set_of g s = get_or-sets_of g s in_range in
      let held : Contains (set_of g s) (get_or (get_or (sets_of g) s []) k d) = rw is (Contains-get_or (set_of g s) k d (rw is at k_lt)) in
      omega (arith, set_of-below g s (get_or (get_or (sets_of g) s []) k d) held, length-sets_of g);
}
