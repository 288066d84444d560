-- What a place, and a row, adds to the marks.
use Rattle.std.proofs.Common.{◌≡◌, ◌≢◌, ℕ, ◌+◌, ◌<◌, Bool, true, false, not, ◌&&◌, ◌||◌, eqb, ltb, List, [], ◌∷◌, get_or, set, sym, ◌∙◌, ap, arith, inl, inr}
use Rattle.std.specs.List.{list_any}
use Rattle.std.proofs.lemmas.Bool.{cases_eq, lt-ltb, eq-eqb, ne_eqb, and_from, and_left, and_right, not_from_false}
use Rattle.std.proofs.lemmas.Bool.Decides.{nat_tests}
use Rattle.jul_base.specs.declared.graphs.RawGraph.{RawGraph}
use Rattle.jul_base.specs.declared.results.Distances.{Distances}
use Rattle.jul_base.specs.declared.limits.TheConstants.{NONE}
use Rattle.jul_base.specs.Graph.{vertices, row_start, row_end, target, weight}
use Rattle.jul_check.specs.Verdicts.{is_none}
use Rattle.jul_check.specs.DistanceChecks.{places_of, is_tight, is_parent}
use Rattle.jul_check.specs.Marks.{AreMarks}
use Rattle.jul_check.specs.TreeMarks.{parent_of, has_numbers, is_borne, is_marked, is_marked_in_row}
use Rattle.jul_check.proofs.MarkLaws.{AreMarks-kept, AreMarks-set}
use Rattle.jul_check.proofs.PlaceLaws.{list_any-range_with_len_more, list_any-places_of}

-- ---- one place more

pub in_row_more : (g : RawGraph) (d : Distances) (u k v : ℕ) →
    is_marked_in_row g d u (k + 1) v ≡ (is_marked_in_row g d u k v || (eqb (target g (row_start g u + k)) v && is_borne d u v (weight g (row_start g u + k))))
in_row_more g d u k v =
    list_any-range_with_len_more (λ p. eqb (target g p) v && is_borne d u v (weight g p)) (row_start g u) k

-- the marks before u, and those of its first k places
abbrev pub marked_to : RawGraph → Distances → ℕ → ℕ → ℕ → Bool
marked_to g d u k v = is_marked g d u v || is_marked_in_row g d u k v

more_or : (m r e b : Bool) → (e && b) ≡ false → (m || (r || (e && b))) ≡ (m || r)
more_or m r e b h = grind arith

all_or : (m r e b : Bool) → e ≡ true → b ≡ true → (m || (r || (e && b))) ≡ true
all_or m r e b h i = grind arith

-- a place that bears its target out marks it, and no other
pub AreMarks-more : (g : RawGraph) (d : Distances) (u k t w : ℕ) (marks : List Bool) → t < vertices g → target g (row_start g u + k) ≡ t → weight g (row_start g u + k) ≡ w →
    is_borne d u t w ≡ true → AreMarks (vertices g) (marked_to g d u k) marks → AreMarks (vertices g) (marked_to g d u (k + 1)) (set marks t true)
AreMarks-more g d u k t w marks lt to has borne are =
    let p : ℕ = row_start g u + k in
    AreMarks-set (vertices g) t (marked_to g d u k) (marked_to g d u (k + 1)) marks lt are
    (ap (λ b. is_marked g d u t || b) (in_row_more g d u k t)
    ∙ all_or (is_marked g d u t) (is_marked_in_row g d u k t) (eqb (target g p) t) (is_borne d u t (weight g p)) (eq-eqb (target g p) t to) (ap (λ x. is_borne d u t x) has ∙ borne))
    (λ v ne.
    let other : target g p ≢ v = λ e. ne (sym e ∙ to) in
    ap (λ b. is_marked g d u v || b) (in_row_more g d u k v)
    ∙ more_or (is_marked g d u v) (is_marked_in_row g d u k v) (eqb (target g p) v) (is_borne d u v (weight g p)) (and_left (eqb (target g p) v) _ (ne_eqb (target g p) v other)))

-- one that doesn't marks none
pub AreMarks-same : (g : RawGraph) (d : Distances) (u k t w : ℕ) (marks : List Bool) → target g (row_start g u + k) ≡ t → weight g (row_start g u + k) ≡ w →
    is_borne d u t w ≡ false → AreMarks (vertices g) (marked_to g d u k) marks → AreMarks (vertices g) (marked_to g d u (k + 1)) marks
AreMarks-same g d u k t w marks to has borne are =
    let p : ℕ = row_start g u + k in
    AreMarks-kept (vertices g) (marked_to g d u k) (marked_to g d u (k + 1)) marks are
    (λ v lt.
    ap (λ b. is_marked g d u v || b) (in_row_more g d u k v)
    ∙ more_or (is_marked g d u v) (is_marked_in_row g d u k v) (eqb (target g p) v) (is_borne d u v (weight g p))
    (elim (cases_eq (target g p) v) [
      | inl e ↦ and_right (eqb (target g p) v) _ (ap (λ x. is_borne d u v x) has ∙ ap (λ x. is_borne d u x w) (sym e ∙ to) ∙ borne)
      | inr ne ↦ and_left (eqb (target g p) v) _ (ne_eqb (target g p) v ne)
    ]))

-- ---- a row more

any_and_step : (x y c e l r : Bool) → r ≡ (c && (l && e)) → ((x && (c && y && e)) || r) ≡ (c && (((x && y) || l) && e))
any_and_step x y c e l r h = grind arith

-- tests that don't speak of the place may be made once
any_and : (a b : ℕ → Bool) (c e : Bool) (ps : List ℕ) → list_any (λ p. a p && (c && b p && e)) ps ≡ (c && (list_any (λ p. a p && b p) ps && e))
any_and a b c e [] = grind arith
any_and a b c e (p ∷ ps) = any_and_step (a p) (b p) c e (list_any (λ q. a q && b q) ps) _ (any_and a b c e ps)

-- the vertices below the next one
below_next : (p u : ℕ) → ltb p (u + 1) ≡ (ltb p u || eqb p u)
below_next p u = grind (arith, nat_tests)

next_or : (l e b x : Bool) → (e && b) ≡ x → ((l || e) && b) ≡ ((l && b) || x)
next_or l e b x h = grind arith

-- whether u is the parent of v and bears it out, by the places of u
of_row : (n s h t : Bool) (c e : Bool) → n ≡ true → (s && h) ≡ true → (c && (n && s && h && t && e)) ≡ (c && (t && e))
of_row n s h t c e a b = grind arith

pub is_parent-row : (g : RawGraph) (d : Distances) (u v : ℕ) → u < vertices g → has_numbers d u ≡ true →
    (eqb (parent_of d v) u && is_parent g d v (parent_of d v)) ≡ list_any (λ p. eqb (target g p) v && is_borne d u v (weight g p)) (places_of g u)
is_parent-row g d u v lt some =
    swap_parent
    ∙ of_row (ltb u (vertices g)) (not (is_none (get_or d.dist u 0))) (not (is_none (get_or d.hops u 0))) (list_any (is_tight g d.dist u v) (places_of g u)) (eqb (parent_of d v) u) (eqb (get_or d.hops u 0 + 1) (get_or d.hops v 0)) (lt-ltb u (vertices g) lt) some
    ∙ sym (any_and (λ p. eqb (target g p) v) (λ p. eqb (get_or d.dist u 0 + weight g p) (get_or d.dist v 0)) (eqb (parent_of d v) u) (eqb (get_or d.hops u 0 + 1) (get_or d.hops v 0)) (places_of g u))
  where
    swap_parent : (eqb (parent_of d v) u && is_parent g d v (parent_of d v)) ≡ (eqb (parent_of d v) u && is_parent g d v u)
    swap_parent = elim (cases_eq (parent_of d v) u) [
      | inl e ↦ ap (λ x. eqb (parent_of d v) u && is_parent g d v x) e
      | inr ne ↦ and_left (eqb (parent_of d v) u) (is_parent g d v (parent_of d v)) (ne_eqb (parent_of d v) u ne) ∙ sym (and_left (eqb (parent_of d v) u) (is_parent g d v u) (ne_eqb (parent_of d v) u ne))
    ]

-- all places of u are read
pub AreMarks-next : (g : RawGraph) (d : Distances) (u k : ℕ) (marks : List Bool) → u < vertices g → has_numbers d u ≡ true → row_start g u + k ≡ row_end g u →
    AreMarks (vertices g) (marked_to g d u k) marks → AreMarks (vertices g) (is_marked g d (u + 1)) marks
AreMarks-next g d u k marks lt some end are =
    AreMarks-kept (vertices g) (marked_to g d u k) (is_marked g d (u + 1)) marks are
    (λ v v_lt.
    ap (λ b. b && is_parent g d v (parent_of d v)) (below_next (parent_of d v) u)
    ∙ next_or (ltb (parent_of d v) u) (eqb (parent_of d v) u) (is_parent g d v (parent_of d v)) (is_marked_in_row g d u k v)
    (is_parent-row g d u v lt some ∙ list_any-places_of g u k (λ p. eqb (target g p) v && is_borne d u v (weight g p)) end))

no_parent : (n s h t c e : Bool) → (s && h) ≡ false → (c && (n && s && h && t && e)) ≡ false
no_parent n s h t c e a = grind arith

-- a vertex without numbers bears none out
pub AreMarks-past : (g : RawGraph) (d : Distances) (u : ℕ) (marks : List Bool) → has_numbers d u ≡ false →
    AreMarks (vertices g) (is_marked g d u) marks → AreMarks (vertices g) (is_marked g d (u + 1)) marks
AreMarks-past g d u marks none are =
    AreMarks-kept (vertices g) (is_marked g d u) (is_marked g d (u + 1)) marks are
    (λ v lt.
    ap (λ b. b && is_parent g d v (parent_of d v)) (below_next (parent_of d v) u)
    ∙ next_or (ltb (parent_of d v) u) (eqb (parent_of d v) u) (is_parent g d v (parent_of d v)) false (not_parent v)
    ∙ or_none (is_marked g d u v)) where
      or_none : (b : Bool) → (b || false) ≡ b
      or_none b = grind arith

      not_parent : (v : ℕ) → (eqb (parent_of d v) u && is_parent g d v (parent_of d v)) ≡ false
      not_parent v = elim (cases_eq (parent_of d v) u) [
        | inl e ↦
            ap (λ x. eqb (parent_of d v) u && is_parent g d v x) e
            ∙ no_parent (ltb u (vertices g)) (not (is_none (get_or d.dist u 0))) (not (is_none (get_or d.hops u 0))) (list_any (is_tight g d.dist u v) (places_of g u)) (eqb (parent_of d v) u) (eqb (get_or d.hops u 0 + 1) (get_or d.hops v 0)) none
        | inr ne ↦ and_left (eqb (parent_of d v) u) (is_parent g d v (parent_of d v)) (ne_eqb (parent_of d v) u ne)
      ]

-- ---- what is read of a vertex

pub has_numbers-some : (d : Distances) (u x y : ℕ) → x ≡ get_or d.dist u 0 → y ≡ get_or d.hops u 0 → x ≢ NONE → y ≢ NONE → has_numbers d u ≡ true
has_numbers-some d u x y dist hops x_some y_some =
    and_from (not (is_none (get_or d.dist u 0))) (not (is_none (get_or d.hops u 0)))
    (not_from_false (is_none (get_or d.dist u 0)) (ne_eqb (get_or d.dist u 0) NONE (λ e. x_some (dist ∙ e)))) (not_from_false (is_none (get_or d.hops u 0)) (ne_eqb (get_or d.hops u 0) NONE (λ e. y_some (hops ∙ e))))
