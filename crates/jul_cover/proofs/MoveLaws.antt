-- Where drawn sets go, and the places that moves leave.
use Rattle.std.proofs.Common.{◌≡◌, ◌≢◌, ℕ, zero, suc, ◌<◌, ◌≤◌, List, [], ◌∷◌, length, get_or, set, refl, ap, sym, ◌∙◌, subst, arith, inl, inr}
use Rattle.std.specs.List.{All, Contains, sum_by}
use Rattle.std.proofs.lemmas.Bool.{cases_eq, cond-true, cond-false, eq-eqb, ne_eqb}
use Rattle.std.proofs.lemmas.List.{length-set, get_or-set_same, get_or-set_other, get_or_default}
use Rattle.std.proofs.lemmas.List.Elements.{Contains-append_left, Contains-append_right, Contains-append_cases}
use Rattle.std.proofs.lemmas.List.Sums.{sum_by-cons}
use Rattle.jul_base.specs.declared.limits.TheConstants.{NONE}
use Rattle.jul_base.proofs.SetLaws.{Contains-cons_cases}
use Rattle.jul_bucket.specs.Places.{set_places}
use Rattle.jul_bucket.proofs.IdLaws.{set_places-cases}
use Rattle.jul_cover.specs.CoverMoves.{next_place, move_of, moves_of}

abbrev Moves : Type 0
Moves = List (ℕ × ℕ)

-- ---- the moves

module _ (pack : ℕ → List ℕ) (round : List ℕ) where
  one_none : (x : ℕ) → next_place pack round x ≡ NONE → move_of pack round x ≡ []
  one_none x none = cond-true _ _ _ (eq-eqb _ _ none)

  one_some : (x : ℕ) → next_place pack round x ≢ NONE → move_of pack round x ≡ (x, next_place pack round x) ∷ []
  one_some x some = cond-false _ _ _ (ne_eqb _ _ some)

  nothing : (m : ℕ × ℕ) → Contains [] m → ⊥
  nothing m (k, lt, is) = absurd (omega (arith, lt))

  -- a move is one of a listed set, to the place where it goes
  pub move_is : (listed : List ℕ) (m : ℕ × ℕ) → Contains (moves_of pack round listed) m → Contains listed m.0 × (m.1 ≡ next_place pack round m.0) × (m.1 ≢ NONE)
  move_is [] m there = absurd (nothing m there)
  move_is (x ∷ xs) m there =
      elim (Contains-append_cases (move_of pack round x) (moves_of pack round xs) m there) [
        | inl first ↦ elim (cases_eq (next_place pack round x) NONE) [
          | inl none ↦ absurd (nothing m (subst (λ l. Contains l m) (one_none x none) first))
          | inr some ↦ here some (subst (λ l. Contains l m) (one_some x some) first)
        ]
        | inr later ↦
            let (c, is, not_none) = move_is xs m later in
            (Contains-append_right (x ∷ []) xs m.0 c, is, not_none)
      ] where
        here : next_place pack round x ≢ NONE → Contains ((x, next_place pack round x) ∷ []) m → Contains (x ∷ xs) m.0 × (m.1 ≡ next_place pack round m.0) × (m.1 ≢ NONE)
        here some (k, lt, is) =
            let first : k ≡ 0 = omega (arith, lt) in
            let m_is : (x, next_place pack round x) ≡ m = ap (λ i. get_or ((x, next_place pack round x) ∷ []) i m) (sym first) ∙ is in (
              subst (λ (y : ℕ × ℕ). Contains (x ∷ xs) y.0) m_is (zero, omega arith, refl),
              subst (λ (y : ℕ × ℕ). y.1 ≡ next_place pack round y.0) m_is refl,
              subst (λ (y : ℕ × ℕ). y.1 ≢ NONE) m_is some,
            )

  -- each listed set that goes somewhere is moved
  pub moved : (listed : List ℕ) (x : ℕ) → Contains listed x → next_place pack round x ≢ NONE → Contains (moves_of pack round listed) (x, next_place pack round x)
  moved [] x (k, lt, is) some = absurd (omega (arith, lt))
  moved (y ∷ ys) x there some =
      elim (Contains-cons_cases y ys x there) [
        | inl same ↦
            subst (λ k. next_place pack round k ≢ NONE → Contains (moves_of pack round (y ∷ ys)) (k, next_place pack round k)) same
            (λ some_y. Contains-append_left (move_of pack round y) (moves_of pack round ys) (y, next_place pack round y)
            (subst (λ l. Contains l (y, next_place pack round y)) (sym (one_some y some_y)) (zero, omega arith, refl))) some
        | inr later ↦ Contains-append_right (move_of pack round y) (moves_of pack round ys) (x, next_place pack round x) (moved ys x later some)
      ]

-- what holds of each move of the list holds of all of them
pub all_moves : (P : ℕ × ℕ → Type 0) (ms : Moves) → ((m : ℕ × ℕ) → Contains ms m → P m) → All P ms
all_moves P ms each k d lt =
    let m : ℕ × ℕ = get_or ms k d in
    each (get_or ms k d) (k, lt, get_or_default ms k (get_or ms k d) d lt)

-- ---- the places

-- a place that each move of its id sets to y, and that is y already, stays y
pub stays : (places : List ℕ) (ms : Moves) (x y : ℕ) → x < length places → ((m : ℕ × ℕ) → Contains ms m → m.0 ≡ x → m.1 ≡ y) → get_or places x 0 ≡ y → get_or (set_places places ms) x 0 ≡ y
stays places [] x y lt all is = is
stays places (m ∷ ms) x y lt all is =
    let rest : (n : ℕ × ℕ) → Contains ms n → n.0 ≡ x → n.1 ≡ y = λ n (k, k_lt, at) same. all n (suc k, omega arith, at) same in
    let next : get_or (set places m.0 m.1) x 0 ≡ y =
    elim (cases_eq x m.0) [
      | inl same ↦
          let in_range : m.0 < length places = omega arith in
          ap (λ k. get_or (set places m.0 m.1) k 0) same ∙ get_or-set_same places m.0 m.1 0 in_range ∙ all m (zero, omega arith, refl) (sym same)
      | inr other ↦ get_or-set_other places m.0 x m.1 0 other ∙ is
    ] in
    stays (set places m.0 m.1) ms x y (omega (arith, length-set places m.0 m.1)) rest next

-- and where there is such a move, it becomes y
pub becomes : (places : List ℕ) (ms : Moves) (x y : ℕ) → x < length places → ((m : ℕ × ℕ) → Contains ms m → m.0 ≡ x → m.1 ≡ y) → Contains ms (x, y) → get_or (set_places places ms) x 0 ≡ y
becomes places [] x y lt all (k, k_lt, at) = absurd (omega (arith, k_lt))
becomes places (m ∷ ms) x y lt all (zero, k_lt, at) =
    let rest : (n : ℕ × ℕ) → Contains ms n → n.0 ≡ x → n.1 ≡ y = λ n (k, n_lt, is) same. all n (suc k, omega arith, is) same in
    let first : m.0 ≡ x = ap (λ (n : ℕ × ℕ). n.0) at in
    let second : m.1 ≡ y = ap (λ (n : ℕ × ℕ). n.1) at in
    let in_range : m.0 < length places = omega arith in
    stays (set places m.0 m.1) ms x y (omega (arith, length-set places m.0 m.1)) rest
    (ap (λ k. get_or (set places m.0 m.1) k 0) (sym first) ∙ get_or-set_same places m.0 m.1 0 in_range ∙ second)
becomes places (m ∷ ms) x y lt all (suc k, k_lt, at) =
    becomes (set places m.0 m.1) ms x y (omega (arith, length-set places m.0 m.1)) (λ n (j, n_lt, is) same. all n (suc j, omega arith, is) same) (k, omega arith, at)

-- the place of a set after the moves of the listed ones
pub place_moved : (pack : ℕ → List ℕ) (round listed places : List ℕ) (x : ℕ) → x < length places → Contains listed x → next_place pack round x ≢ NONE →
    get_or (set_places places (moves_of pack round listed)) x 0 ≡ next_place pack round x
place_moved pack round listed places x lt there some =
    becomes places (moves_of pack round listed) x (next_place pack round x) lt
    (λ m held same. (move_is pack round listed m held).1 ∙ ap (next_place pack round) same) (moved pack round listed x there some)

pub place_kept : (pack : ℕ → List ℕ) (round listed places : List ℕ) (x : ℕ) → x < length places → (Contains listed x → next_place pack round x ≡ NONE) →
    get_or (set_places places (moves_of pack round listed)) x 0 ≡ get_or places x 0
place_kept pack round listed places x lt nowhere =
    elim (set_places-cases places (moves_of pack round listed) x lt) [
      | inl (m, held, same, is) ↦
          let (listed_m, next_is, some) = move_is pack round listed m held in
          absurd (some (next_is ∙ ap (next_place pack round) same ∙ nowhere (subst (Contains listed) same listed_m)))
      | inr kept ↦ kept
    ]

-- ---- a sum over places that fall

pub falls_le : (f : ℕ → ℕ) (xs ys : List ℕ) → length ys ≡ length xs → ((k : ℕ) → k < length xs → f (get_or ys k 0) ≤ f (get_or xs k 0)) → sum_by f ys ≤ sum_by f xs
falls_le f [] [] size le = omega arith
falls_le f [] (y ∷ ys) size le = absurd (omega arith)
falls_le f (x ∷ xs) [] size le = absurd (omega arith)
falls_le f (x ∷ xs) (y ∷ ys) size le =
    let rest : sum_by f ys ≤ sum_by f xs = falls_le f xs ys (omega arith) (λ k lt. le (suc k) (omega arith)) in
    let first : f y ≤ f x = le 0 (omega arith) in
    omega (arith, rest, first, sum_by-cons f x xs, sum_by-cons f y ys)

pub falls_at : (f : ℕ → ℕ) (xs ys : List ℕ) (k : ℕ) → length ys ≡ length xs → ((j : ℕ) → j < length xs → f (get_or ys j 0) ≤ f (get_or xs j 0)) →
    k < length xs → f (get_or ys k 0) < f (get_or xs k 0) → sum_by f ys < sum_by f xs
falls_at f [] ys k size le lt less = absurd (omega (arith, lt))
falls_at f (x ∷ xs) [] k size le lt less = absurd (omega arith)
falls_at f (x ∷ xs) (y ∷ ys) zero size le lt less =
    let rest : sum_by f ys ≤ sum_by f xs = falls_le f xs ys (omega arith) (λ j j_lt. le (suc j) (omega arith)) in
    let first : f y < f x = less in
    omega (arith, rest, first, sum_by-cons f x xs, sum_by-cons f y ys)
falls_at f (x ∷ xs) (y ∷ ys) (suc k) size le lt less =
    let first : f y ≤ f x = le 0 (omega arith) in
    let rest : sum_by f ys < sum_by f xs = falls_at f xs ys k (omega arith) (λ j j_lt. le (suc j) (omega arith)) (omega arith) less in
    omega (arith, rest, first, sum_by-cons f x xs, sum_by-cons f y ys)
