-- Moves of the sets that leave their bucket, where the others stay in it: they come to the same as taking all out and moving them.
use Rattle.std.proofs.Common.{◌≡◌, ◌≢◌, ℕ, ◌-◌, ◌<◌, List, [], ◌∷◌, ◌++◌, length, get_or, cond, ◌==◌, not, ◌&&◌, refl, ap, sym, ◌∙◌, subst, arith, inl, inr}
use Rattle.std.specs.Prelude.{Option, Some, MatchOption}
use Rattle.std.specs.List.{All, Contains}
use Rattle.std.proofs.lemmas.Bool.{cases_Bool, cases_eq, and_from, and_parts, not_from_false, cond-true, cond-false, eq-eqb, eqb-true, ne_eqb}
use Rattle.std.proofs.lemmas.List.{same_lists, get_or_default, length-append}
use Rattle.std.proofs.lemmas.List.Elements.{Contains-append_left, Contains-append_right}
use Rattle.std.proofs.Math.Seq.{get_or-append_seam}
use Rattle.jul_base.specs.declared.limits.TheConstants.{NONE}
use Rattle.jul_base.specs.Numbers.{below}
use Rattle.jul_base.proofs.SetLaws.{member_cases, Contains-below}
use Rattle.jul_bucket.specs.declared.draws.Draw.{Draw}
use Rattle.jul_bucket.specs.Places.{ids_at, emptied, set_places, AllNone}
use Rattle.jul_bucket.specs.States.{State, IsDrawnInPlace}
use Rattle.jul_bucket.proofs.IdLaws.{Contains-ids_at, ids_at-Contains, emptied-here, emptied-other, length-emptied, length-set_places}
use Rattle.jul_cover.specs.declared.packed_sets.PackedSets.{PackedSets}
use Rattle.jul_cover.specs.PackedSets.{pack_at, HasPacked}
use Rattle.jul_cover.specs.Columns.{AreWritten}
use Rattle.jul_cover.specs.CoverDraws.{draw_at}
use Rattle.jul_cover.specs.CoverMoves.{place_for, next_place, moves_of}
use Rattle.jul_cover.specs.KeptTurns.{AreRight, leave_of, leaving_of, last_drawn, sets_for}
use Rattle.jul_cover.proofs.KeepingLaws.{part_from, part_to}
use Rattle.jul_cover.proofs.MoveLaws.{stays, becomes, place_moved, place_kept, all_moves}

-- what stands in a list of one is that one
only : {Y : Type 0} (y m : Y) → Contains (y ∷ []) m → y ≡ m
only y m (k, lt, is) =
    let first : k ≡ 0 = omega (arith, lt) in
    ap (λ i. get_or (y ∷ []) i m) (sym first) ∙ is

module _ (pack : ℕ → List ℕ) (round places : List ℕ) (bucket : ℕ) where
  leave_some : (x : ℕ) → get_or places x 0 ≡ bucket → next_place pack round x ≢ bucket → leave_of pack round places bucket x ≡ (x, next_place pack round x) ∷ []
  leave_some x here away = cond-true _ _ _ (and_from _ _ (eq-eqb _ _ here) (not_from_false _ (ne_eqb _ _ away)))

  -- a move is one of a listed set of the bucket, to where it belongs
  pub leave_is : (listed : List ℕ) (m : ℕ × ℕ) → Contains (leaving_of pack round places bucket listed) m → Contains listed m.0 × (get_or places m.0 0 ≡ bucket) × (m.1 ≡ next_place pack round m.0)
  leave_is listed m there =
      let (x, in_listed, held) = part_from (leave_of pack round places bucket) listed m there in
      elim (cases_Bool ((get_or places x 0 == bucket) && not (next_place pack round x == bucket))) [
        | inl goes ↦
            let (here, away) = and_parts (get_or places x 0 == bucket) _ goes in
            subst (λ (y : ℕ × ℕ). Contains listed y.0 × (get_or places y.0 0 ≡ bucket) × (y.1 ≡ next_place pack round y.0))
            (only (x, next_place pack round x) m (subst (λ (l : List (ℕ × ℕ)). Contains l m) (cond-true _ _ _ goes) held))
            (in_listed, eqb-true (get_or places x 0) bucket here, refl)
        | inr rests ↦
            let (k, lt, is) = subst (λ (l : List (ℕ × ℕ)). Contains l m) (cond-false _ _ _ rests) held in
            absurd (omega (arith, lt))
      ]

  -- each listed set of the bucket that belongs elsewhere is moved
  leave_to : (listed : List ℕ) (x : ℕ) → Contains listed x → get_or places x 0 ≡ bucket → next_place pack round x ≢ bucket → Contains (leaving_of pack round places bucket listed) (x, next_place pack round x)
  leave_to listed x there here away =
      part_to (leave_of pack round places bucket) listed x (x, next_place pack round x) there
      (subst (λ (l : List (ℕ × ℕ)). Contains l (x, next_place pack round x)) (sym (leave_some x here away)) (0, omega arith, refl))

  pub leaving_all : (P : ℕ × ℕ → Type 0) (listed : List ℕ) (ms : List (ℕ × ℕ)) → ms ≡ leaving_of pack round places bucket listed
      → ((m : ℕ × ℕ) → Contains listed m.0 → get_or places m.0 0 ≡ bucket → m.1 ≡ next_place pack round m.0 → P m) → All P ms
  leaving_all P listed ms is each =
      subst (All P) (sym is)
      (all_moves P (leaving_of pack round places bucket listed) (λ m there. let (in_listed, here, to) = leave_is listed m there in each m in_listed here to))

  -- ---- all taken out, and moved

  moved_here : (x : ℕ) → x < length places → get_or places x 0 ≡ bucket → get_or (set_places (emptied places bucket) (moves_of pack round (ids_at places bucket))) x 0 ≡ next_place pack round x
  moved_here x lt here =
      let in_range : x < length (emptied places bucket) = omega (arith, lt, length-emptied places bucket) in
      elim (cases_eq (next_place pack round x) NONE) [
        | inl none ↦ place_kept pack round (ids_at places bucket) (emptied places bucket) x in_range (λ there. none) ∙ emptied-here places bucket x lt here ∙ sym none
        | inr some ↦ place_moved pack round (ids_at places bucket) (emptied places bucket) x in_range (Contains-ids_at places bucket x lt here) some
      ]

  moved_other : (x : ℕ) → x < length places → get_or places x 0 ≢ bucket → get_or (set_places (emptied places bucket) (moves_of pack round (ids_at places bucket))) x 0 ≡ get_or places x 0
  moved_other x lt other =
      let in_range : x < length (emptied places bucket) = omega (arith, lt, length-emptied places bucket) in
      place_kept pack round (ids_at places bucket) (emptied places bucket) x in_range (λ there. absurd (other (ids_at-Contains places bucket x there).1)) ∙ emptied-other places bucket x lt other

  -- a set that is in the bucket then belongs there
  pub belongs : (x : ℕ) → x < length places → get_or (set_places (emptied places bucket) (moves_of pack round (ids_at places bucket))) x 0 ≡ bucket → next_place pack round x ≡ bucket
  belongs x lt is =
      elim (cases_eq (get_or places x 0) bucket) [
        | inl here ↦ sym (moved_here x lt here) ∙ is
        | inr other ↦ absurd (other (sym (moved_other x lt other) ∙ is))
      ]

  -- ---- only those moved that leave

  module _ (listed : List ℕ) (right : AreRight places bucket pack round listed) where
    abbrev leaving : List (ℕ × ℕ)
    leaving = leaving_of pack round places bucket listed

    left_here : (x : ℕ) → x < length places → get_or places x 0 ≡ bucket → get_or (set_places places leaving) x 0 ≡ next_place pack round x
    left_here x lt here =
        let each : (m : ℕ × ℕ) → Contains leaving m → m.0 ≡ x → m.1 ≡ next_place pack round x = λ m held same. (leave_is listed m held).2 ∙ ap (next_place pack round) same in
        elim (cases_eq (next_place pack round x) bucket) [
          | inl same ↦ stays places leaving x (next_place pack round x) lt each (here ∙ sym same)
          | inr away ↦ elim (member_cases listed x) [
            | inl there ↦ becomes places leaving x (next_place pack round x) lt each (leave_to listed x there here away)
            | inr other ↦ absurd (away (right x lt here other))
          ]
        ]

    left_other : (x : ℕ) → x < length places → get_or places x 0 ≢ bucket → get_or (set_places places leaving) x 0 ≡ get_or places x 0
    left_other x lt other =
        stays places leaving x (get_or places x 0) lt (λ m held same. absurd (other (ap (λ k. get_or places k 0) (sym same) ∙ (leave_is listed m held).1))) refl

    left_as_moved : (x : ℕ) → x < length places → get_or (set_places places leaving) x 0 ≡ get_or (set_places (emptied places bucket) (moves_of pack round (ids_at places bucket))) x 0
    left_as_moved x lt =
        elim (cases_eq (get_or places x 0) bucket) [
          | inl here ↦ left_here x lt here ∙ sym (moved_here x lt here)
          | inr other ↦ left_other x lt other ∙ sym (moved_other x lt other)
        ]

    -- the places are those that they are once all are taken out and moved
    pub same_places : set_places places leaving ≡ set_places (emptied places bucket) (moves_of pack round (ids_at places bucket))
    same_places =
        let moved = set_places (emptied places bucket) (moves_of pack round (ids_at places bucket)) in
        let left_len : length (set_places places leaving) ≡ length places = length-set_places places leaving in
        let moved_len : length (set_places (emptied places bucket) (moves_of pack round (ids_at places bucket))) ≡ length places = length-set_places (emptied places bucket) (moves_of pack round (ids_at places bucket)) ∙ length-emptied places bucket in
        same_lists (set_places places leaving) moved (left_len ∙ sym moved_len)
        (λ x d lt.
        let in_range : x < length places = omega (arith, lt, left_len) in
        get_or_default (set_places places leaving) x d 0 lt ∙ left_as_moved x in_range ∙ get_or_default moved x 0 d (omega (arith, in_range, moved_len)))

-- ---- which sets are right

-- where every set is listed
pub all_right : (pack : ℕ → List ℕ) (round places : List ℕ) (bucket : ℕ) (listed : List ℕ) → listed ≡ below (length places) → AreRight places bucket pack round listed
all_right pack round places bucket listed is x lt here other = absurd (other (subst (λ l. Contains l x) (sym is) (Contains-below (length places) x lt)))

-- sets that were written are listed too
pub right_written : (pack : ℕ → List ℕ) (round round' places : List ℕ) (bucket : ℕ) (changed chosen listed : List ℕ) (f : ℕ → ℕ) → AreRight places bucket pack round changed → AreWritten chosen f round round'
    → listed ≡ changed ++ chosen → AreRight places bucket pack round' listed
right_written pack round round' places bucket changed chosen listed f right written is x lt here other =
    let back : (l : List ℕ) → (Contains l x → Contains (changed ++ chosen) x) → Contains l x → ⊥ = λ l to there. other (subst (λ k. Contains k x) (sym is) (to there)) in
    ap (λ (r : ℕ). cond (r == NONE) (place_for (length (pack x))) NONE) (written.other x (back chosen (Contains-append_right changed chosen x)))
    ∙ right x lt here (back changed (Contains-append_left changed chosen x))

-- once all were moved to where they belong, the sets that are packed again are the only ones that may be wrong
pub still_right : (p p' : PackedSets) (by' round places places' touched : List ℕ) (bucket : ℕ) → places' ≡ set_places (emptied places bucket) (moves_of (pack_at p) round (ids_at places bucket)) → length places ≡ p.n
    → HasPacked by' touched p p' → AreRight places' bucket (pack_at p') round touched
still_right p p' by' round places places' touched bucket is size packed x lt here other =
    let len : length places' ≡ length places = ap length is ∙ length-set_places (emptied places bucket) (moves_of (pack_at p) round (ids_at places bucket)) ∙ length-emptied places bucket in
    let in_range : x < length places = omega (arith, lt, len) in
    ap (λ (l : List ℕ). cond (get_or round x 0 == NONE) (place_for (length l)) NONE) (packed.other x (omega (arith, in_range, size)) other)
    ∙ belongs (pack_at p) round places bucket x in_range (ap (λ l. get_or l x 0) (sym is) ∙ here)

-- in a bucket that wasn't the last one all drawn sets are listed
pub right_for : (pack : ℕ → List ℕ) (round places : List ℕ) (last bucket : ℕ) (known drawn now : List ℕ) → now ≡ sets_for last bucket known drawn → drawn ≡ ids_at places bucket → AreRight places last pack round known
    → AreRight places bucket pack round now
right_for pack round places last bucket known drawn now is drawn_is right x lt here other =
    elim (cases_eq last bucket) [
      | inl same ↦
          right x lt (here ∙ sym same) (λ there. other (subst (λ l. Contains l x) (sym (is ∙ cond-true _ _ _ (eq-eqb _ _ same))) there)) ∙ same
      | inr new ↦
          absurd (other (subst (λ l. Contains l x) (sym (is ∙ cond-false _ _ _ (ne_eqb _ _ new) ∙ drawn_is)) (Contains-ids_at places bucket x lt here)))
    ]

-- the sets of a draw that was put behind others
pub last_is : (draws before : List Draw) (d : Draw) → draws ≡ before ++ d ∷ [] → last_drawn draws ≡ d.ids
last_is draws before d is =
    let at : length (before ++ d ∷ []) - 1 ≡ length before = omega (arith, length-append before (d ∷ [])) in
    let none : Draw = record { bucket = 0; ids = [] } in
    ap last_drawn is ∙ ap (λ k. (draw_at (before ++ d ∷ []) k).ids) at ∙ ap (λ (e : Draw). e.ids) (get_or-append_seam before d [] none)

-- the last draw, in place, is of all sets of its bucket
pub held_last : (s h : State) (bucket : ℕ) → IsDrawnInPlace s bucket h → last_drawn h.draws ≡ ids_at h.places bucket
held_last s h bucket d =
    last_is h.draws s.draws (record { bucket = bucket; ids = ids_at s.places bucket }) (ap (λ (t : State). t.draws) d.after)
    ∙ sym (ap (λ (t : State). ids_at t.places bucket) d.after)

-- a bucket was drawn in place
pub held_at : (s h : State) (o : Option ℕ) (b : ℕ) → o ≡ Some b → MatchOption o (AllNone s.places × (h ≡ s)) (λ bucket. IsDrawnInPlace s bucket h) → IsDrawnInPlace s b h
held_at s h o b is held = subst (λ (x : Option ℕ). MatchOption x (AllNone s.places × (h ≡ s)) (λ bucket. IsDrawnInPlace s bucket h)) is held
