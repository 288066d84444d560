-- What the calls of a turn ask for.
use Rattle.std.proofs.Common.{◌≡◌, ◌≢◌, ℕ, ◌<◌, ◌≤◌, ◌^◌, Bool, List, length, get_or, sym, ap, ◌∙◌, subst, arith, inl, inr}
use Rattle.std.specs.List.{filter, All, Contains}
use Rattle.std.specs.List.Sorted.{IsStrictlyIncreasing}
use Rattle.std.proofs.lemmas.Bool.{cases_eq, cond-true, cond-false, eq-eqb, ne_eqb}
use Rattle.std.proofs.lemmas.List.{get_or_default}
use Rattle.std.proofs.lemmas.List.Elements.{All-filter, All-contains}
use Rattle.std.proofs.lemmas.List.Kept.{IsStrictlyIncreasing-filter}
use Rattle.jul_base.specs.declared.limits.TheConstants.{NONE}
use Rattle.jul_base.specs.CoverRounds.{floor_log2}
use Rattle.jul_bucket.specs.declared.orders.Order.{Order}
use Rattle.jul_bucket.specs.declared.orders.Order.TheVariants.{Decreasing}
use Rattle.jul_bucket.specs.Orders.{IsNotBehind}
use Rattle.jul_bucket.specs.States.{State}
use Rattle.jul_subset.proofs.IncreasingLaws.{length_below}
use Rattle.jul_cover.specs.declared.packed_sets.PackedSets.{PackedSets}
use Rattle.jul_cover.specs.PackedSets.{pack_at, is_open, HasPacked}
use Rattle.jul_cover.specs.CoverMoves.{place_for, next_place, moves_of, CanMove}
use Rattle.jul_cover.specs.CoverWork.{At, CanTurn}
use Rattle.jul_cover.proofs.MoveLaws.{move_is, all_moves}

-- what a filter keeps rises, and is in range
pub kept_rises : (test : ℕ → Bool) (xs lent ys : List ℕ) → IsStrictlyIncreasing xs → lent ≡ xs → ys ≡ filter test lent → IsStrictlyIncreasing ys
kept_rises test xs lent ys rises same is = subst IsStrictlyIncreasing (sym (is ∙ ap (filter test) same)) (IsStrictlyIncreasing-filter test xs rises)

pub kept_in : (test : ℕ → Bool) (n m : ℕ) (xs lent ys : List ℕ) → All (λ x. x < n) xs → lent ≡ xs → ys ≡ filter test lent → m ≡ n → All (λ x. x < m) ys
kept_in test n m xs lent ys within same is as_many =
    subst (λ k. All (λ x. x < k) ys) (sym as_many) (subst (All (λ x. x < n)) (sym (is ∙ ap (filter test) same)) (All-filter test (λ x. x < n) xs within))

module _ (bid_table owner_table : List ℕ) (bucket : ℕ) (drawn : List ℕ) (p : PackedSets) (round by : List ℕ) (at : At) (s : State) (can : CanTurn bid_table owner_table bucket drawn p round by at s)
    (lent : List ℕ) (lent_is : lent ≡ drawn) where
  pub drawn_few : length lent < 2 ^ 32
  drawn_few = omega (arith, ap length lent_is, length_below drawn p.n can.increasing can.in_range, can.packed_well.few)

  module _ (p' : PackedSets) (packed : HasPacked by drawn p p') (round' : List ℕ) where
    next_low : (x : ℕ) → Contains drawn x → next_place (pack_at p') round' x ≢ NONE → next_place (pack_at p') round' x ≤ bucket
    next_low x there some =
        let in_range : x < p.n = All-contains (λ y. y < p.n) drawn x can.in_range there in
        let small : floor_log2 (length (filter (is_open by) (pack_at p x))) ≤ bucket = All-contains (λ y. floor_log2 (length (filter (is_open by) (pack_at p y))) ≤ bucket) drawn x can.small there in
        let same : floor_log2 (length (pack_at p' x)) ≤ bucket = subst (λ l. floor_log2 (length l) ≤ bucket) (sym (packed.here x in_range there)) small in
        elim (cases_eq (get_or round' x 0) NONE) [
          | inr has_round ↦ absurd (some (cond-false _ _ _ (ne_eqb _ _ has_round)))
          | inl none ↦
              let is : next_place (pack_at p') round' x ≡ place_for (length (pack_at p' x)) = cond-true _ _ _ (eq-eqb _ _ none) in
              elim (cases_eq (length (pack_at p' x)) 0) [
                | inl empty ↦ absurd (some (is ∙ cond-true _ _ _ (eq-eqb _ _ empty)))
                | inr left ↦
                    let log : place_for (length (pack_at p' x)) ≡ floor_log2 (length (pack_at p' x)) = cond-false _ _ _ (ne_eqb _ _ left) in
                    omega (arith, is, log, same)
              ]
        ]

    pub not_behind : (x : ℕ) → Contains drawn x → next_place (pack_at p') round' x ≢ NONE → IsNotBehind s.order (next_place (pack_at p') round' x) s.front
    not_behind x there some =
        let low : next_place (pack_at p') round' x ≤ bucket = next_low x there some in
        let behind : IsNotBehind Decreasing (next_place (pack_at p') round' x) s.front = omega (arith, low, can.front) in
        subst (λ (o : Order). IsNotBehind o (next_place (pack_at p') round' x) s.front) (sym can.order) behind

    pub can_move : All (CanMove s p'.n (pack_at p') round') lent
    can_move =
        subst (All (CanMove s p'.n (pack_at p') round')) (sym lent_is)
        (λ k d lt.
        let x : ℕ = get_or drawn k d in
        let there : Contains drawn x = (k, lt, get_or_default drawn k x d lt) in record {
          in_range = omega (arith, All-contains (λ y. y < p.n) drawn x can.in_range there, packed.n);
          drawn = All-contains (λ y. get_or s.places y 0 ≡ NONE) drawn x can.out there;
          not_behind = not_behind x there;
        })

    module _ (moves lent_moves : List (ℕ × ℕ)) (moves_are : moves ≡ moves_of (pack_at p') round' lent) (lent_moves_are : lent_moves ≡ moves) where
      all : lent_moves ≡ moves_of (pack_at p') round' drawn
      all = lent_moves_are ∙ moves_are ∙ ap (moves_of (pack_at p') round') lent_is

      pub moves_in : All (λ (m : ℕ × ℕ). m.0 < length s.places) lent_moves
      moves_in =
          let P : ℕ × ℕ → Type 0 = λ m. m.0 < length s.places in
          subst (All P) (sym all)
          (all_moves P (moves_of (pack_at p') round' drawn) (λ m there.
          omega (arith, All-contains (λ y. y < p.n) drawn m.0 can.in_range (move_is (pack_at p') round' drawn m there).0, can.places_size)))

      pub moves_ahead : All (λ (m : ℕ × ℕ). m.1 ≢ NONE → IsNotBehind s.order m.1 s.front) lent_moves
      moves_ahead =
          let P : ℕ × ℕ → Type 0 = λ m. m.1 ≢ NONE → IsNotBehind s.order m.1 s.front in
          subst (All P) (sym all)
          (all_moves P (moves_of (pack_at p') round' drawn) (λ m there some.
          let (listed, is, not_none) = move_is (pack_at p') round' drawn m there in
          subst (λ y. IsNotBehind s.order y s.front) (sym is) (not_behind m.0 listed (λ none. some (is ∙ none)))))
