-- Moves of vertices that are counted, and groups of moves put together.
use Rattle.std.proofs.Common.{◌≡◌, ◌≢◌, ℕ, ◌-◌, ◌<◌, max, List, [], ◌∷◌, ◌++◌, length, refl, ap, sym, ◌∙◌, subst, arith, inl, inr}
use Rattle.std.specs.Prelude.{slice_index}
use Rattle.std.specs.List.{flat_map, All}
use Rattle.std.proofs.lemmas.Bool.{cases_eq, cond-true, cond-false, eq-eqb, ne_eqb}
use Rattle.std.proofs.lemmas.List.Elements.{All-nil, All-cons, All-head, All-tail}
use Rattle.jul_base.specs.declared.limits.TheConstants.{NONE}
use Rattle.jul_bucket.specs.declared.orders.Order.{Order}
use Rattle.jul_bucket.specs.declared.orders.Order.TheVariants.{Increasing}
use Rattle.jul_bucket.specs.Orders.{IsNotBehind}
use Rattle.jul_bucket.specs.States.{State}
use Rattle.jul_core.specs.PeelMoves.{move_of, moves_of, IsAhead, CanLower}
use Rattle.jul_core.proofs.MoveLaws.{moves-none, moves-some}

-- ---- one vertex

module _ (places : List ℕ) (bucket : ℕ) where
  one_none : (e : ℕ × ℕ) → slice_index places e.0 ≡ NONE → move_of places bucket e ≡ []
  one_none e none = cond-true _ _ _ (eq-eqb _ _ none)

  one_some : (e : ℕ × ℕ) → slice_index places e.0 ≢ NONE → move_of places bucket e ≡ (e.0, max bucket (slice_index places e.0 - e.1)) ∷ []
  one_some e some = cond-false _ _ _ (ne_eqb _ _ some)

  -- one vertex after another
  pub moves_flat : (es : List (ℕ × ℕ)) → moves_of places bucket es ≡ flat_map (move_of places bucket) es
  moves_flat [] = refl
  moves_flat (e ∷ es) =
      elim (cases_eq (slice_index places e.0) NONE) [
        | inl none ↦ moves-none places bucket e es (eq-eqb _ _ none) ∙ moves_flat es ∙ sym (ap (λ l. l ++ flat_map (move_of places bucket) es) (one_none e none))
        | inr some ↦
            moves-some places bucket e es (ne_eqb _ _ some) ∙ ap (λ l. (e.0, max bucket (slice_index places e.0 - e.1)) ∷ l) (moves_flat es)
            ∙ sym (ap (λ l. l ++ flat_map (move_of places bucket) es) (one_some e some))
      ]

  -- what holds of the move of each vertex that is ahead holds of the moves
  pub moves_all : (P : ℕ × ℕ → Type 0) → ((e : ℕ × ℕ) → IsAhead places bucket e → P (e.0, max bucket (slice_index places e.0 - e.1))) → (es : List (ℕ × ℕ)) → All (IsAhead places bucket) es → All P (moves_of places bucket es)
  moves_all P each [] ahead = All-nil P
  moves_all P each (e ∷ es) ahead =
      let rest : All P (moves_of places bucket es) = moves_all P each es (All-tail (IsAhead places bucket) e es ahead) in
      elim (cases_eq (slice_index places e.0) NONE) [
        | inl none ↦ subst (All P) (sym (moves-none places bucket e es (eq-eqb _ _ none))) rest
        | inr some ↦
            subst (All P) (sym (moves-some places bucket e es (ne_eqb _ _ some)))
            (All-cons P (e.0, max bucket (slice_index places e.0 - e.1)) (moves_of places bucket es) (each e (All-head (IsAhead places bucket) e es ahead)) rest)
      ]

-- ---- what buckets ask of moves

pub moves_in : (s : State) (bucket : ℕ) (counts moves : List (ℕ × ℕ)) → CanLower s bucket counts → moves ≡ moves_of s.places bucket counts → All (λ (m : ℕ × ℕ). m.0 < length s.places) moves
moves_in s bucket counts moves can made =
    subst (All (λ (m : ℕ × ℕ). m.0 < length s.places)) (sym made) (moves_all s.places bucket (λ (m : ℕ × ℕ). m.0 < length s.places) (λ e a. a.in_range) counts can.ahead)

pub moves_ahead : (s : State) (bucket : ℕ) (counts moves : List (ℕ × ℕ)) → CanLower s bucket counts → moves ≡ moves_of s.places bucket counts →
    All (λ (m : ℕ × ℕ). m.1 ≢ NONE → IsNotBehind s.order m.1 s.front) moves
moves_ahead s bucket counts moves can made =
    let P : ℕ × ℕ → Type 0 = λ m. m.1 ≢ NONE → IsNotBehind s.order m.1 s.front in
    subst (All P) (sym made)
    (moves_all s.places bucket P
    (λ e a some.
    let at : IsNotBehind Increasing (max bucket (slice_index s.places e.0 - e.1)) s.front = omega (arith, can.front) in
    subst (λ (o : Order). IsNotBehind o (max bucket (slice_index s.places e.0 - e.1)) s.front) (sym can.order) at) counts can.ahead)
