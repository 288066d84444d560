-- The marks of a cover's check: what one more place of a row does to them, and what they say in the end.
use Rattle.std.proofs.Common.{◌≡◌, ◌≢◌, ℕ, ◌+◌, ◌<◌, ◌≤◌, Bool, true, ◌&&◌, ◌||◌, eqb, ltb, List, [], take, length, get_or, set, sym, ◌∙◌, ap, subst, refl, arith, inl, inr}
use Rattle.std.specs.List.{list_any}
use Rattle.std.proofs.Math.Bool.{or-false, and-false}
use Rattle.std.proofs.lemmas.Bool.{cases_eq, cases_lt, eq-eqb, ne_eqb, lt-ltb, le-ltb, and_from, or_right}
use Rattle.std.proofs.lemmas.List.{take_all}
use Rattle.std.proofs.lemmas.List.Folds.{list_any_more}
use Rattle.std.proofs.lemmas.List.FromFn.{length-range_with_len, get_or-range_with_len}
use Rattle.jul_base.specs.declared.graphs.RawGraph.{RawGraph}
use Rattle.jul_base.specs.declared.results.Cover.{Cover}
use Rattle.jul_base.specs.Numbers.{below}
use Rattle.jul_base.specs.Graph.{vertices, row}
use Rattle.jul_base.specs.Sets.{has, set_of}
use Rattle.jul_base.proofs.PeelLaws.{has_filter, has_kept, has_below}
use Rattle.jul_check.specs.CoverChecks.{by_of, is_element, is_in_its_set}
use Rattle.jul_check.specs.CoverMarks.{is_seen, is_held, AreCoverMarks}
use Rattle.jul_check.specs.Marks.{AreMarks}
use Rattle.jul_check.proofs.TestLaws.{same_test, list_any-same}
use Rattle.jul_check.proofs.MarkLaws.{AreMarks-kept, AreMarks-set}

-- ---- one more place

-- ws' is ws with w behind it, as a test sees it
abbrev IsMore : List ℕ → ℕ → List ℕ → Type 0
IsMore ws w ws' = (v : ℕ) → has ws' v ≡ (has ws v || eqb w v)

IsMore-take : (xs : List ℕ) (i : ℕ) → i < length xs → IsMore (take i xs) (get_or xs i 0) (take (i + 1) xs)
IsMore-take xs i lt v = list_any_more (λ y. eqb y v) xs i 0 lt

has_last : (ws : List ℕ) (w : ℕ) (ws' : List ℕ) → IsMore ws w ws' → has ws' w ≡ true
has_last ws w ws' more = more w ∙ or_right (has ws w) (eqb w w) (eq-eqb w w refl)

has_others : (ws : List ℕ) (w : ℕ) (ws' : List ℕ) → IsMore ws w ws' → (v : ℕ) → v ≢ w → has ws' v ≡ has ws v
has_others ws w ws' more v other =
    more v ∙ ap (λ t. has ws v || t) (ne_eqb w v (λ e. other (sym e))) ∙ or-false (has ws v)

module _ (g : RawGraph) (c : Cover) (s : ℕ) (ws : List ℕ) (w : ℕ) (ws' : List ℕ) (more : IsMore ws w ws') (in_range : w < vertices g) where
  element_more : (es : List Bool) → AreMarks (vertices g) (is_seen g s ws) es → AreMarks (vertices g) (is_seen g s ws') (set es w true)
  element_more es are =
      let past : ℕ → Bool = λ v. list_any (λ r. has (row g r) v) (take s (below (vertices g))) in
      AreMarks-set (vertices g) w (is_seen g s ws) (is_seen g s ws') es in_range are (or_right (past w) (has ws' w) (has_last ws w ws' more))
      (λ v other. ap (λ b. past v || b) (has_others ws w ws' more v other))

  -- the place leads to a vertex that row s is said to cover
  held_more : (hs : List Bool) → by_of c w ≡ s → AreMarks (vertices g) (is_held g c s ws) hs → AreMarks (vertices g) (is_held g c s ws') (set hs w true)
  held_more hs its are =
      let past : ℕ → Bool = λ v. ltb (by_of c v) s && has (row g (by_of c v)) v in
      AreMarks-set (vertices g) w (is_held g c s ws) (is_held g c s ws') hs in_range are
      (or_right (past w) _ (and_from _ _ (eq-eqb (by_of c w) s its) (has_last ws w ws' more)))
      (λ v other. ap (λ b. past v || (eqb (by_of c v) s && b)) (has_others ws w ws' more v other))

  -- it leads to another
  held_passed : (hs : List Bool) → by_of c w ≢ s → AreMarks (vertices g) (is_held g c s ws) hs → AreMarks (vertices g) (is_held g c s ws') hs
  held_passed hs not_its are =
      let past : ℕ → Bool = λ v. ltb (by_of c v) s && has (row g (by_of c v)) v in
      AreMarks-kept (vertices g) (is_held g c s ws) (is_held g c s ws') hs are (λ v _.
      elim (cases_eq v w) [
        | inl same ↦
            let no_row : eqb (by_of c v) s ≡ _ = ne_eqb (by_of c v) s (λ e. not_its (ap (by_of c) (sym same) ∙ e)) in
            ap (λ t. past v || (t && has ws' v)) no_row ∙ ap (λ t. past v || (t && has ws v)) (sym no_row)
        | inr other ↦ ap (λ b. past v || (eqb (by_of c v) s && b)) (has_others ws w ws' more v other)
      ])

pub AreCoverMarks-held : (g : RawGraph) (c : Cover) (s i : ℕ) (es hs : List Bool) → AreCoverMarks g c s (take i (row g s)) es hs → i < length (row g s) →
    (w : ℕ) → w ≡ get_or (row g s) i 0 → w < vertices g → by_of c w ≡ s →
    AreCoverMarks g c s (take (i + 1) (row g s)) (set es w true) (set hs w true)
AreCoverMarks-held g c s i es hs before lt w at in_range its =
    let more : IsMore (take i (row g s)) w (take (i + 1) (row g s)) = rw at (IsMore-take (row g s) i lt) in
    record {
      element = element_more g c s _ w _ more in_range es before.element;
      held = held_more g c s _ w _ more in_range hs its before.held;
    }

pub AreCoverMarks-passed : (g : RawGraph) (c : Cover) (s i : ℕ) (es hs : List Bool) → AreCoverMarks g c s (take i (row g s)) es hs → i < length (row g s) →
    (w : ℕ) → w ≡ get_or (row g s) i 0 → w < vertices g → by_of c w ≢ s →
    AreCoverMarks g c s (take (i + 1) (row g s)) (set es w true) hs
AreCoverMarks-passed g c s i es hs before lt w at in_range other =
    let more : IsMore (take i (row g s)) w (take (i + 1) (row g s)) = rw at (IsMore-take (row g s) i lt) in
    record {
      element = element_more g c s _ w _ more in_range es before.element;
      held = held_passed g c s _ w _ more in_range hs other before.held;
    }

-- ---- a whole row

seen_next : (g : RawGraph) (s : ℕ) → s < vertices g → (v : ℕ) → is_seen g (s + 1) [] v ≡ is_seen g s (row g s) v
seen_next g s lt v =
    let in_row : ℕ → Bool = λ r. has (row g r) v in
    let here : get_or (below (vertices g)) s 0 ≡ s = get_or-range_with_len 0 (vertices g) s 0 lt ∙ omega arith in
    or-false (list_any in_row (take (s + 1) (below (vertices g))))
    ∙ list_any_more in_row (below (vertices g)) s 0 (omega (arith, length-range_with_len 0 (vertices g)))
    ∙ ap (λ r. list_any in_row (take s (below (vertices g))) || in_row r) here

ltb-next : (a b : ℕ) → a ≢ b → ltb a (b + 1) ≡ ltb a b
ltb-next a b other = elim (cases_lt a b) [
  | inl lt ↦ lt-ltb a (b + 1) (omega arith) ∙ sym (lt-ltb a b lt)
  | inr le ↦ le-ltb a (b + 1) (omega arith) ∙ sym (le-ltb a b le)
]

-- nothing is held by a row that isn't read yet
held_no_more : (g : RawGraph) (c : Cover) (s v : ℕ) → is_held g c s [] v ≡ (ltb (by_of c v) s && has (row g (by_of c v)) v)
held_no_more g c s v =
    let past : Bool = ltb (by_of c v) s && has (row g (by_of c v)) v in
    ap (λ t. past || t) (and-false (eqb (by_of c v) s)) ∙ or-false past

held_next : (g : RawGraph) (c : Cover) (s v : ℕ) → is_held g c (s + 1) [] v ≡ is_held g c s (row g s) v
held_next g c s v =
    let b : ℕ = by_of c v in
    let it : Bool = has (row g b) v in
    held_no_more g c (s + 1) v
    ∙ elim (cases_eq b s) [
      | inl now ↦
          ap (λ t. t && it) (lt-ltb b (s + 1) (omega arith))
          ∙ ap (λ r. has (row g r) v) now
          ∙ ap (λ t. t && has (row g s) v) (sym (eq-eqb b s now))
          ∙ ap (λ t. (t && it) || (eqb b s && has (row g s) v)) (sym (le-ltb b s (omega arith)))
      | inr not_now ↦
          ap (λ t. t && it) (ltb-next b s not_now)
          ∙ sym (or-false (ltb b s && it))
          ∙ ap (λ t. (ltb b s && it) || (t && has (row g s) v)) (sym (ne_eqb b s not_now))
    ]

pub AreCoverMarks-next : (g : RawGraph) (c : Cover) (s i : ℕ) (es hs : List Bool) → AreCoverMarks g c s (take i (row g s)) es hs → length (row g s) ≤ i →
    s < vertices g → AreCoverMarks g c (s + 1) [] es hs
AreCoverMarks-next g c s i es hs before end lt =
    let P : List ℕ → Type 0 = λ ws. AreCoverMarks g c s ws es hs in
    let done : AreCoverMarks g c s (row g s) es hs = subst P (take_all i (row g s) end) before in
    record {
      element = AreMarks-kept (vertices g) (is_seen g s (row g s)) (is_seen g (s + 1) []) es done.element (λ v _. seen_next g s lt v);
      held = AreMarks-kept (vertices g) (is_held g c s (row g s)) (is_held g c (s + 1) []) hs done.held (λ v _. held_next g c s v);
    }

-- ---- all rows

has-set_of : (g : RawGraph) (s v : ℕ) → v < vertices g → has (set_of g s) v ≡ has (row g s) v
has-set_of g s v lt =
    same_test _ _ (λ h. (has_filter (has (row g s)) (below (vertices g)) v h).1)
    (λ h. has_kept (has (row g s)) (below (vertices g)) v (has_below (vertices g) v lt) h)

element_whole : (g : RawGraph) (s : ℕ) → s ≡ vertices g → (v : ℕ) → v < vertices g → is_element g v ≡ is_seen g s [] v
element_whole g s end v lt =
    let in_row : ℕ → Bool = λ r. has (row g r) v in
    let all : take s (below (vertices g)) ≡ below (vertices g) =
    take_all s (below (vertices g)) (omega (arith, length-range_with_len 0 (vertices g))) in
    list_any-same (λ r. has (set_of g r) v) in_row (λ r. has-set_of g r v lt) (below (vertices g))
    ∙ ap (list_any in_row) (sym all)
    ∙ sym (or-false (list_any in_row (take s (below (vertices g)))))

held_whole : (g : RawGraph) (c : Cover) (s : ℕ) → s ≡ vertices g → (v : ℕ) → v < vertices g → is_in_its_set g c v ≡ is_held g c s [] v
held_whole g c s end v lt =
    let b : ℕ = by_of c v in
    ap (λ t. ltb b (vertices g) && t) (has-set_of g b v lt)
    ∙ ap (λ k. ltb b k && has (row g b) v) (sym end)
    ∙ sym (held_no_more g c s v)

pub elements_at_end : (g : RawGraph) (c : Cover) (s : ℕ) (es hs : List Bool) → AreCoverMarks g c s [] es hs → s ≡ vertices g →
    AreMarks (vertices g) (is_element g) es
elements_at_end g c s es hs done end = AreMarks-kept (vertices g) (is_seen g s []) (is_element g) es done.element (element_whole g s end)

pub helds_at_end : (g : RawGraph) (c : Cover) (s : ℕ) (es hs : List Bool) → AreCoverMarks g c s [] es hs → s ≡ vertices g →
    AreMarks (vertices g) (is_in_its_set g c) hs
helds_at_end g c s es hs done end = AreMarks-kept (vertices g) (is_held g c s []) (is_in_its_set g c) hs done.held (held_whole g c s end)
