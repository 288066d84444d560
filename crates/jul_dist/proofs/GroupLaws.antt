-- Vertices that are moved group after group.
use Rattle.std.proofs.Common.{◌≡◌, ◌≢◌, ℕ, ◌<◌, List, [], ◌∷◌, ◌++◌, length, get_or, refl, ap, sym, ◌∙◌, subst, arith, inl, inr, append_assoc, append-nil, length-append}
use Rattle.std.specs.Prelude.{Contains}
use Rattle.std.specs.List.{All}
use Rattle.std.proofs.lemmas.List.Elements.{All-contains, All-from_get_or, Contains-append_left, Contains-append_right, Contains-append_cases, Contains-get_or}
use Rattle.jul_base.specs.declared.limits.TheConstants.{NONE}
use Rattle.jul_base.proofs.SetLaws.{member_cases}
use Rattle.jul_bucket.specs.Orders.{IsNotBehind}
use Rattle.jul_bucket.specs.Places.{set_places}
use Rattle.jul_bucket.specs.States.{State}
use Rattle.jul_bucket.proofs.IdLaws.{length-set_places}
use Rattle.jul_dist.specs.Moving.{moves_of, CanGo, HasMoved}
use Rattle.jul_dist.proofs.MovingLaws.{moves_few, moves_all, placed_there, placed_still}
use Rattle.jul_dist.proofs.PlacedLaws.{placed_moved}

module _ (delta : ℕ) (values : List ℕ) where
  -- none was moved
  pub moved_none : (s : State) → HasMoved delta values [] s s
  moved_none s = record {
    state_is = refl;
    size = refl;
    there = λ v lt (k, k_lt, is) some. absurd (omega (arith, k_lt));
    still = λ v lt other. refl;
    few = omega arith;
  }

  -- the moves of a list were made at once
  pub moved_once : (s t : State) (ids : List ℕ) → ((v : ℕ) → Contains ids v → v < length s.places) →
      t ≡ record s { places = set_places s.places (moves_of s delta values ids) } → HasMoved delta values ids s t
  moved_once s t ids within is = subst (λ (x : State). HasMoved delta values ids s x) (sym is) (record {
    state_is = refl;
    size = length-set_places s.places (moves_of s delta values ids);
    there = λ v lt there some. placed_there s delta values ids v lt there some;
    still = λ v lt other. placed_still s delta values ids v lt other;
    few = omega (arith, placed_moved s.places (moves_of s delta values ids) moves_in, moves_few s delta values ids);
  }) where
    moves_in : All (λ (m : ℕ × ℕ). m.0 < length s.places) (moves_of s delta values ids)
    moves_in = moves_all s delta values ids (λ (m : ℕ × ℕ). m.0 < length s.places) within

  -- one list after another
  pub moved_then : (s t u : State) (one other : List ℕ) → HasMoved delta values one s t → HasMoved delta values other t u → HasMoved delta values (one ++ other) s u
  moved_then s t u one other h k = record {
    state_is = k.state_is ∙ ap (λ (x : State). record x { places = u.places }) h.state_is;
    size = k.size ∙ h.size;
    there = λ v lt there some. elim (member_cases other v) [
      | inl later ↦ k.there v (omega (arith, lt, h.size)) later some
      | inr not_later ↦ elim (Contains-append_cases one other v there) [
        | inl first ↦ k.still v (omega (arith, lt, h.size)) not_later ∙ h.there v lt first some
        | inr later ↦ absurd (not_later later)
      ]
    ];
    still = λ v lt neither.
        k.still v (omega (arith, lt, h.size)) (λ there. neither (Contains-append_right one other v there))
        ∙ h.still v lt (λ there. neither (Contains-append_left one other v there));
    few = omega (arith, h.few, k.few, length-append one other);
  }

  -- all of the list but the rest was moved
  pub record AreMoved (ids rest : List ℕ) (old new : State) : Type 0 where
    pub done : List ℕ
    pub ids_are : ids ≡ done ++ rest
    pub moved : HasMoved delta values done old new

  pub groups_begin : (ids : List ℕ) (s : State) → AreMoved ids ids s s
  groups_begin ids s = record { done = []; ids_are = refl; moved = moved_none s }

  pub groups_end : (ids rest : List ℕ) (old new : State) → length rest ≡ 0 → AreMoved ids rest old new → HasMoved delta values ids old new
  groups_end ids [] old new none h = subst (λ l. HasMoved delta values l old new) (sym (h.ids_are ∙ append-nil h.done)) h.moved
  groups_end ids (v ∷ vs) old new none h = absurd (omega (arith, none))

  module _ (ids rest : List ℕ) (old now : State) (h : AreMoved ids rest old now) (group later : List ℕ) (rest_is : rest ≡ group ++ later) where
    group_in : (v : ℕ) → Contains group v → Contains ids v
    group_in v there =
        subst (λ l. Contains l v) (sym h.ids_are)
        (Contains-append_right h.done rest v (subst (λ l. Contains l v) (sym rest_is) (Contains-append_left group later v there)))

    -- what a group may be moved by
    pub group_can_go : All (CanGo old delta values) ids → All (CanGo now delta values) group
    group_can_go can =
        All-from_get_or (CanGo now delta values) group 0
        (λ k lt. one (get_or group k 0) (All-contains (CanGo old delta values) ids (get_or group k 0) can (group_in (get_or group k 0) (Contains-get_or group k 0 lt)))) where
          one : (v : ℕ) → CanGo old delta values v → CanGo now delta values v
          one v c = subst (λ (t : State). CanGo t delta values v) (sym h.moved.state_is)
              (record { in_places = omega (arith, c.in_places, h.moved.size); in_values = c.in_values; not_behind = c.not_behind })

    -- the group was moved
    pub group_moved : (after : State) → All (CanGo old delta values) ids → (moves : List (ℕ × ℕ)) → moves ≡ moves_of now delta values group →
        after ≡ record now { places = set_places now.places moves } → AreMoved ids later old after
    group_moved after can moves moves_are is = record {
      done = h.done ++ group;
      ids_are = h.ids_are ∙ ap (λ r. h.done ++ r) rest_is ∙ sym (append_assoc h.done group later);
      moved = moved_then old now after h.done group h.moved
          (moved_once now after group (λ v there. (All-contains (CanGo now delta values) group v (group_can_go can) there).in_places)
          (is ∙ ap (λ m. record now { places = set_places now.places m }) moves_are));
    }

  -- the moves of vertices that may go are those that buckets take
  module _ (s : State) (ids : List ℕ) (can : All (CanGo s delta values) ids) (moves : List (ℕ × ℕ)) (are : moves ≡ moves_of s delta values ids) where
    pub moves_in : All (λ (m : ℕ × ℕ). m.0 < length s.places) moves
    moves_in = subst (All (λ (m : ℕ × ℕ). m.0 < length s.places)) (sym are)
        (moves_all s delta values ids (λ (m : ℕ × ℕ). m.0 < length s.places) (λ v there. (All-contains (CanGo s delta values) ids v can there).in_places))

    pub moves_ahead : All (λ (m : ℕ × ℕ). m.1 ≢ NONE → IsNotBehind s.order m.1 s.front) moves
    moves_ahead = subst (All (λ (m : ℕ × ℕ). m.1 ≢ NONE → IsNotBehind s.order m.1 s.front)) (sym are)
        (moves_all s delta values ids (λ (m : ℕ × ℕ). m.1 ≢ NONE → IsNotBehind s.order m.1 s.front) (λ v there some. (All-contains (CanGo s delta values) ids v can there).not_behind))
