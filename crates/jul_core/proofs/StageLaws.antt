-- A peeling before a round: a list that rises, of vertices, and a bound that no degree exceeds; the parts that a round makes of it.
use Rattle.std.proofs.Common.{◌≡◌, ◌⊎◌, ℕ, zero, suc, ◌+◌, ◌<◌, ◌≤◌, min, Bool, true, not, eqb, ltb, leb, List, [], ◌∷◌, length, map, sym, ◌∙◌, ap, refl, arith, inl, inr}
use Rattle.std.specs.List.{fold, sum_by}
use Rattle.std.specs.List.Sorted.{IsStrictlyIncreasing}
use Rattle.std.proofs.lemmas.Bool.{cases_lt, or_cases, eqb-true, lt-ltb, le-ltb, ltb-true, leb-true, le-leb, lt-leb}
use Rattle.std.proofs.lemmas.List.Sums.{count_by-le-length}
use Rattle.std.proofs.lemmas.List.Filters.{sum_by-filter_both, length-filter_both}
use Rattle.std.proofs.lemmas.List.Kept.{IsStrictlyIncreasing-filter}
use Rattle.jul_base.specs.declared.graphs.RawGraph.{RawGraph}
use Rattle.jul_base.specs.declared.limits.TheConstants.{MAX_M}
use Rattle.jul_base.specs.Graph.{vertices, row, count, IsLawful}
use Rattle.jul_base.specs.Symmetry.{IsSymmetric}
use Rattle.jul_base.specs.Sets.{has}
use Rattle.jul_base.specs.Coreness.{inner_degree}
use Rattle.jul_base.specs.Levels.{Peeling, least_of, next_bound, taken, after_round, peeling}
use Rattle.jul_base.proofs.GraphLaws.{row_end-le}
use Rattle.jul_base.proofs.RowLaws.{length-row}
use Rattle.jul_base.proofs.SetLaws.{IsStrictlyIncreasing-below}
use Rattle.jul_base.proofs.PeelLaws.{below_from_has, has_filter, has_kept}
use Rattle.jul_count.specs.Counts.{reaching}
use Rattle.jul_core.proofs.CountingLaws.{count_by-has}
use Rattle.jul_base.proofs.CountLaws.{has_here, has_later, sum_by-same_in}

-- ---- the least value of a list

fold_min-le : (a : ℕ) (zs : List ℕ) → fold min a zs ≤ a
fold_min-le a [] = omega arith
fold_min-le a (z ∷ zs) = omega (arith, fold_min-le (min a z) zs)

fold_min-map : (f : ℕ → ℕ) (a : ℕ) (ys : List ℕ) (u : ℕ) → has ys u ≡ true → fold min a (map f ys) ≤ f u
fold_min-map f a [] u h = absurd (cc)
fold_min-map f a (y ∷ ys) u h =
    elim (or_cases (eqb y u) (has ys u) h) [
      | inl e ↦ omega (arith, fold_min-le (min a (f y)) (map f ys), ap f (eqb-true y u e))
      | inr more ↦ fold_min-map f (min a (f y)) ys u more
    ]

pub least-le : (f : ℕ → ℕ) (xs : List ℕ) (u : ℕ) → has xs u ≡ true → least_of (map f xs) ≤ f u
least-le f [] u h = absurd (cc)
least-le f (x ∷ xs) u h =
    elim (or_cases (eqb x u) (has xs u) h) [
      | inl e ↦ omega (arith, fold_min-le (f x) (map f xs), ap f (eqb-true x u e))
      | inr more ↦ fold_min-map f (f x) xs u more
    ]

fold_min-is : (f : ℕ → ℕ) (a : ℕ) (ys : List ℕ) → (fold min a (map f ys) ≡ a) ⊎ ((u : ℕ) × (has ys u ≡ true) × (fold min a (map f ys) ≡ f u))
fold_min-is f a [] = inl refl
fold_min-is f a (y ∷ ys) =
    elim (fold_min-is f (min a (f y)) ys) [
      | inl same ↦
          elim (cases_lt (f y) a) [
            | inl lt ↦ inr (y, has_here y ys, omega (arith, same))
            | inr le ↦ inl (omega (arith, same))
          ]
      | inr (u, held, is) ↦ inr (u, has_later y ys u held, is)
    ]

-- it is the value of one of the list
pub least-is : (f : ℕ → ℕ) (xs : List ℕ) (v : ℕ) → has xs v ≡ true → (u : ℕ) × (has xs u ≡ true) × (least_of (map f xs) ≡ f u)
least-is f [] v h = absurd (cc)
least-is f (x ∷ xs) v h =
    elim (fold_min-is f (f x) xs) [
      | inl same ↦ (x, has_here x xs, same)
      | inr (u, held, is) ↦ (u, has_later x xs u held, is)
    ]

least-small : (f : ℕ → ℕ) (m : ℕ) (xs : List ℕ) → ((x : ℕ) → f x ≤ m) → least_of (map f xs) ≤ m
least-small f m [] le = omega arith
least-small f m (x ∷ xs) le = omega (arith, fold_min-le (f x) (map f xs), le x)

-- ---- stages

pub record IsStage (g : RawGraph) (p : Peeling) : Type 0 where
  pub rises : IsStrictlyIncreasing p.left
  pub within : (v : ℕ) → has p.left v ≡ true → v < vertices g
  pub few : p.bound ≤ MAX_M

pub inner_degree-few : (g : RawGraph) → IsLawful g → (s : List ℕ) (v : ℕ) → inner_degree g s v ≤ MAX_M
inner_degree-few g lawful s v = omega (arith, count_by-le-length (has s) (row g v), length-row g lawful v, row_end-le g lawful v, lawful.few_places)

pub next_bound-few : (g : RawGraph) → IsLawful g → (p : Peeling) → p.bound ≤ MAX_M → next_bound g p ≤ MAX_M
next_bound-few g lawful p few = omega (arith, least-small (inner_degree g p.left) MAX_M p.left (λ v. inner_degree-few g lawful p.left v))

pub IsStage-next : (g : RawGraph) → IsLawful g → (p : Peeling) → IsStage g p → IsStage g (after_round g p)
IsStage-next g lawful p stage =
    let q : ℕ → Bool = λ u. ltb (next_bound g p) (inner_degree g p.left u) in
    record {
      rises = IsStrictlyIncreasing-filter q p.left stage.rises;
      within = λ v h. stage.within v (has_filter q p.left v h).0;
      few = next_bound-few g lawful p stage.few;
    }

pub IsStage-at : (g : RawGraph) → IsLawful g → (t : ℕ) → IsStage g (peeling g t)
IsStage-at g lawful zero = record {
  rises = IsStrictlyIncreasing-below (vertices g);
  within = λ v h. below_from_has (vertices g) v h;
  few = omega arith;
}
IsStage-at g lawful (suc t) = IsStage-next g lawful (peeling g t) (IsStage-at g lawful t)

-- ---- the two parts

-- who is taken
pub taken-is : (g : RawGraph) (p : Peeling) (v : ℕ) → has (taken g p) v ≡ true → (has p.left v ≡ true) × (inner_degree g p.left v ≤ next_bound g p)
taken-is g p v h =
    let r : (has p.left v ≡ true) × (leb (inner_degree g p.left v) (next_bound g p) ≡ true) =
    has_filter (λ u. leb (inner_degree g p.left u) (next_bound g p)) p.left v h in
    (r.0, leb-true _ _ r.1)

pub taken-here : (g : RawGraph) (p : Peeling) (v : ℕ) → has p.left v ≡ true → inner_degree g p.left v ≤ next_bound g p → has (taken g p) v ≡ true
taken-here g p v h le = has_kept (λ u. leb (inner_degree g p.left u) (next_bound g p)) p.left v h (le-leb _ _ le)

-- who stays
pub stays-is : (g : RawGraph) (p : Peeling) (v : ℕ) → has (after_round g p).left v ≡ true → (has p.left v ≡ true) × (next_bound g p < inner_degree g p.left v)
stays-is g p v h =
    let r : (has p.left v ≡ true) × (ltb (next_bound g p) (inner_degree g p.left v) ≡ true) =
    has_filter (λ u. ltb (next_bound g p) (inner_degree g p.left u)) p.left v h in
    (r.0, ltb-true _ _ r.1)

pub stays-here : (g : RawGraph) (p : Peeling) (v : ℕ) → has p.left v ≡ true → next_bound g p < inner_degree g p.left v → has (after_round g p).left v ≡ true
stays-here g p v h lt = has_kept (λ u. ltb (next_bound g p) (inner_degree g p.left u)) p.left v h (lt-ltb _ _ lt)

other_test : (a b : ℕ) → ltb b a ≡ not (leb a b)
other_test a b =
    elim (cases_lt b a) [
      | inl lt ↦ lt-ltb b a lt ∙ sym (ap not (lt-leb a b lt))
      | inr le ↦ le-ltb b a le ∙ sym (ap not (le-leb a b le))
    ]

-- a sum over those taken and one over those who stay are one over all
pub parts_sum : (g : RawGraph) (p : Peeling) (f : ℕ → ℕ) → sum_by f (taken g p) + sum_by f (after_round g p).left ≡ sum_by f p.left
parts_sum g p f =
    sum_by-filter_both (λ u. leb (inner_degree g p.left u) (next_bound g p)) (λ u. ltb (next_bound g p) (inner_degree g p.left u))
    (λ u. other_test (inner_degree g p.left u) (next_bound g p)) f p.left

pub parts_length : (g : RawGraph) (p : Peeling) → length (taken g p) + length (after_round g p).left ≡ length p.left
parts_length g p =
    length-filter_both (λ u. leb (inner_degree g p.left u) (next_bound g p)) (λ u. ltb (next_bound g p) (inner_degree g p.left u))
    (λ u. other_test (inner_degree g p.left u) (next_bound g p)) p.left

-- what a vertex loses in a round is what reaches it from those taken
pub lost : (g : RawGraph) → IsSymmetric g → (p : Peeling) → IsStage g p → (v : ℕ) → v < vertices g →
    reaching g (taken g p) v + inner_degree g (after_round g p).left v ≡ inner_degree g p.left v
lost g symmetric p stage v v_lt =
    let both_ways' : reaching g (taken g p) v ≡ sum_by (λ u. count g v u) (taken g p) =
    sum_by-same_in (λ u. count g u v) (λ u. count g v u) (taken g p) (λ u h. symmetric u v (stage.within u (taken-is g p u h).0) v_lt) in
    let rises' : IsStrictlyIncreasing (after_round g p).left =
    IsStrictlyIncreasing-filter (λ u. ltb (next_bound g p) (inner_degree g p.left u)) p.left stage.rises in
    omega (
      arith,
      both_ways',
      count_by-has (after_round g p).left (row g v) rises',
      count_by-has p.left (row g v) stage.rises,
      parts_sum g p (λ u. count g v u),
    )
