-- Pairs that are drawn: one pair more, how many entries there are, and what each of them keeps.
use Rattle.std.proofs.Common.{◌≡◌, ℕ, zero, suc, ◌+◌, ◌-◌, ◌*◌, ◌%◌, ◌^◌, ◌<◌, ◌≤◌, List, [], ◌∷◌, ◌++◌, length, sym, ◌∙◌, ap, refl, arith, mod-lt}
use Rattle.std.specs.List.{All}
use Rattle.std.proofs.lemmas.List.{append_assoc, append-nil, length-append}
use Rattle.std.proofs.lemmas.List.Elements.{All-nil, All-cons, All-append}
use Rattle.jul_adj.specs.declared.drawing.Entry.{Entry}
use Rattle.jul_adj.specs.Generated.{drawn, state_at, pair_at, after_pair, word, next_state}

-- ---- the state after some pairs

pub state_at-zero : (state : ℕ) → state_at 0 state ≡ state
unfolding state_at
state_at-zero state = refl

state_at-suc : (pairs state : ℕ) → state_at (suc pairs) state ≡ state_at pairs (after_pair state)
unfolding state_at
state_at-suc pairs state = refl

pub state_at-more : (pairs state : ℕ) → state_at (pairs + 1) state ≡ after_pair (state_at pairs state)
state_at-more zero state =
    let one : 0 + 1 ≡ suc 0 = omega arith in
    ap (λ k. state_at k state) one ∙ state_at-suc 0 state ∙ state_at-zero (after_pair state) ∙ sym (ap after_pair (state_at-zero state))
state_at-more (suc pairs) state =
    let next : suc pairs + 1 ≡ suc (pairs + 1) = omega arith in
    ap (λ k. state_at k state) next
    ∙ state_at-suc (pairs + 1) state
    ∙ state_at-more pairs (after_pair state)
    ∙ sym (ap after_pair (state_at-suc pairs state))

pub state_at-add : (i j state : ℕ) → state_at j (state_at i state) ≡ state_at (i + j) state
state_at-add zero j state =
    let none : 0 + j ≡ j = omega arith in
    ap (state_at j) (state_at-zero state) ∙ sym (ap (λ k. state_at k state) none)
state_at-add (suc i) j state =
    let next : suc i + j ≡ suc (i + j) = omega arith in
    ap (state_at j) (state_at-suc i state)
    ∙ state_at-add i j (after_pair state)
    ∙ sym (state_at-suc (i + j) state)
    ∙ sym (ap (λ k. state_at k state) next)

pub next_state-is : (state : ℕ) → next_state state ≡ (state + 11400714819323198485) % 2 ^ 64
unfolding next_state
next_state-is state = refl

-- three words add three steps
after_pair-is : (state : ℕ) → after_pair state ≡ (state + 34202144457969595455) % 2 ^ 64
after_pair-is state =
    omega (
      arith,
      next_state-is (next_state (next_state state)),
      next_state-is (next_state state),
      next_state-is state,
    )

pub state_at-is : (pairs state : ℕ) → state < 2 ^ 64 → state_at pairs state ≡ (state + pairs * 34202144457969595455) % 2 ^ 64
state_at-is zero state small = state_at-zero state ∙ omega (arith, small)
state_at-is (suc pairs) state small =
    let after : ℕ = after_pair state in
    let after_is : after ≡ (state + 34202144457969595455) % 2 ^ 64 = after_pair-is state in
    state_at-suc pairs state ∙ state_at-is pairs after (omega (arith, after_is)) ∙ omega (arith, after_is)

pub drawn-zero : (n state : ℕ) → drawn n 0 state ≡ []
unfolding drawn
drawn-zero n state = refl

pub drawn-suc : (n pairs state : ℕ) → drawn n (suc pairs) state ≡ pair_at n state ++ drawn n pairs (after_pair state)
unfolding drawn
drawn-suc n pairs state = refl

-- some pairs, and more behind them
pub drawn-add : (n j k state : ℕ) → drawn n (j + k) state ≡ drawn n j state ++ drawn n k (state_at j state)
drawn-add n zero k state =
    let none : 0 + k ≡ k = omega arith in
    ap (λ i. drawn n i state) none
    ∙ sym (ap (drawn n k) (state_at-zero state))
    ∙ sym (ap (λ (l : List Entry). l ++ drawn n k (state_at 0 state)) (drawn-zero n state))
drawn-add n (suc j) k state =
    let next : suc j + k ≡ suc (j + k) = omega arith in
    let after : ℕ = after_pair state in
    ap (λ i. drawn n i state) next
    ∙ drawn-suc n (j + k) state
    ∙ ap (λ (l : List Entry). pair_at n state ++ l) (drawn-add n j k after)
    ∙ sym (append_assoc (pair_at n state) (drawn n j after) (drawn n k (state_at j after)))
    ∙ sym (ap (λ (l : List Entry). l ++ drawn n k (state_at j after)) (drawn-suc n j state))
    ∙ sym (ap (λ s. drawn n (suc j) state ++ drawn n k s) (state_at-suc j state))

pub drawn-more : (n pairs state : ℕ) → drawn n (pairs + 1) state ≡ drawn n pairs state ++ pair_at n (state_at pairs state)
drawn-more n pairs state =
    let at : ℕ = state_at pairs state in
    let one : drawn n 1 at ≡ pair_at n at =
    drawn-suc n 0 at ∙ ap (λ (l : List Entry). pair_at n at ++ l) (drawn-zero n (after_pair at)) ∙ append-nil (pair_at n at) in
    drawn-add n pairs 1 state ∙ ap (λ (l : List Entry). drawn n pairs state ++ l) one

-- a pair that is drawn behind some pairs
pub drawn-pair : (n pairs state at : ℕ) (x y : Entry) → at ≡ state_at pairs state → x ∷ y ∷ [] ≡ pair_at n at →
    drawn n (pairs + 1) state ≡ drawn n pairs state ++ x ∷ [] ++ y ∷ []
drawn-pair n pairs state at x y is drawn_is =
    drawn-more n pairs state
    ∙ ap (λ s. drawn n pairs state ++ pair_at n s) (sym is)
    ∙ sym (ap (λ (l : List Entry). drawn n pairs state ++ l) drawn_is)
    ∙ sym (append_assoc (drawn n pairs state) (x ∷ []) (y ∷ []))

-- the pair number i is in its place among all pairs
abbrev pub rest_after : ℕ → ℕ → ℕ → ℕ → List Entry
rest_after n pairs i state = drawn n (pairs - (i + 1)) (state_at (i + 1) state)

pub drawn-at : (n pairs i state at : ℕ) (x y : Entry) → i < pairs → at ≡ state_at i state → x ∷ y ∷ [] ≡ pair_at n at →
    drawn n pairs state ≡ drawn n i state ++ x ∷ [] ++ y ∷ rest_after n pairs i state
drawn-at n pairs i state at x y lt is drawn_is =
    let whole : pairs ≡ (i + 1) + (pairs - (i + 1)) = omega arith in
    let rest : List Entry = rest_after n pairs i state in
    ap (λ k. drawn n k state) whole
    ∙ drawn-add n (i + 1) (pairs - (i + 1)) state
    ∙ ap (λ (l : List Entry). l ++ rest) (drawn-pair n i state at x y is drawn_is)
    ∙ append_assoc (drawn n i state ++ x ∷ []) (y ∷ []) rest

pub length-drawn : (n pairs state : ℕ) → length (drawn n pairs state) ≡ 2 * pairs
length-drawn n zero state = ap (λ (l : List Entry). length l) (drawn-zero n state)
length-drawn n (suc pairs) state =
    omega (
      arith,
      ap (λ (l : List Entry). length l) (drawn-suc n pairs state),
      length-append (pair_at n state) (drawn n pairs (after_pair state)),
      length-drawn n pairs (after_pair state),
    )

-- the vertices of a pair are below n, and its weight is at most 100
abbrev pub IsSound : ℕ → Entry → Type 0
IsSound n e = (e.row < n) × (e.target < n) × (e.weight ≤ 100)

pub All-drawn : (n pairs state : ℕ) → 0 < n → All (IsSound n) (drawn n pairs state)
All-drawn n zero state some = rw (drawn-zero n state) (All-nil (IsSound n))
All-drawn n (suc pairs) state some =
    let x : ℕ = word state in
    let y : ℕ = word (next_state state) in
    let z : ℕ = word (next_state (next_state state)) in
    let light : 1 + z % 100 ≤ 100 = omega arith in
    let entry : ℕ → ℕ → ℕ → Entry = λ a b c. record { row = a % n; target = b % n; weight = 1 + c % 100 } in
    rw (drawn-suc n pairs state) (
    All-append (IsSound n) (pair_at n state) (drawn n pairs (after_pair state))
    (All-cons (IsSound n) (entry x y z) (entry y x z ∷ []) (mod-lt x some, mod-lt y some, light)
    (All-cons (IsSound n) (entry y x z) [] (mod-lt y some, mod-lt x some, light) (All-nil (IsSound n))))
    (All-drawn n pairs (after_pair state) some)
    )
