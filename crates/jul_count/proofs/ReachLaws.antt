-- How many places reach a vertex, counted by rows or by places, and how many there may be.
use Rattle.std.proofs.Common.{◌≡◌, ℕ, zero, suc, ◌+◌, ◌*◌, ◌-◌, ◌<◌, ◌≤◌, eqb, cond, List, [], ◌∷◌, length, map, All, ◌∙◌, ap, refl, arith, ⊎_elim, get_or}
use Rattle.std.specs.List.{sum_by, range_with_len}
use Rattle.std.proofs.lemmas.List.{get_or_default}
use Rattle.std.proofs.lemmas.List.Sums.{sum_by-cons, count_by-le-length}
use Rattle.std.proofs.lemmas.List.FromFn.{fill_by_all}
use Rattle.std.proofs.lemmas.List.Elements.{All-head, All-tail}
use Rattle.jul_base.specs.declared.graphs.RawGraph.{RawGraph}
use Rattle.jul_base.specs.Graph.{vertices, row, row_start, row_end, target, count, IsLawful}
use Rattle.jul_base.proofs.GraphLaws.{row_end-le, place_in_range, target_in_range}
use Rattle.jul_base.proofs.RowLaws.{length-row, row-at, IsPlaceOf-at}
use Rattle.jul_base.proofs.SymmetryLaws.{counted_cases}
use Rattle.jul_count.specs.Counts.{reaching}
use Rattle.jul_count.specs.Adds.{places_of, weight_from}
use Rattle.jul_count.proofs.SumLaws.{sum_by-same, sum_by-map}

pub sum_by-shifted : (f : ℕ → ℕ) (a b n : ℕ) → sum_by (λ k. f (a + k)) (range_with_len b n) ≡ sum_by f (range_with_len (a + b) n)
sum_by-shifted f a b zero = refl
sum_by-shifted f a b (suc n) =
    let e : a + (b + 1) ≡ a + b + 1 = omega arith in
    omega (
      arith,
      sum_by-cons (λ k. f (a + k)) b (range_with_len (b + 1) n),
      sum_by-cons f (a + b) (range_with_len (a + b + 1) n),
      sum_by-shifted f a (b + 1) n,
      ap (λ k. sum_by f (range_with_len k n)) e,
    )

-- a sum over a row is one over its places
pub row_sum : (g : RawGraph) → IsLawful g → (f : ℕ → ℕ) (u : ℕ) → sum_by f (row g u) ≡ sum_by (λ p. f (target g p)) (places_of g u)
row_sum g lawful f u =
    let size : length (row g u) ≡ row_end g u - row_start g u = length-row g lawful u in
    let is : row g u ≡ map (λ k. target g (row_start g u + k)) (range_with_len 0 (length (row g u))) =
    fill_by_all (λ k. target g (row_start g u + k)) (row g u) (length (row g u)) 0 refl (λ k lt. row-at g lawful u k lt) in
    let start : row_start g u + 0 ≡ row_start g u = omega arith in
    ap (sum_by f) is
    ∙ sum_by-map f (λ k. target g (row_start g u + k)) (range_with_len 0 (length (row g u)))
    ∙ sum_by-shifted (λ p. f (target g p)) (row_start g u) 0 (length (row g u))
    ∙ ap (λ a. sum_by (λ p. f (target g p)) (range_with_len a (length (row g u)))) start
    ∙ ap (λ n. sum_by (λ p. f (target g p)) (range_with_len (row_start g u) n)) size

-- the count of the places to v is that of the adds to v
pub reaching_by_places : (g : RawGraph) → IsLawful g → (ids : List ℕ) (v : ℕ) → reaching g ids v ≡ weight_from g (λ p. cond (eqb (target g p) v) 1 0) ids
reaching_by_places g lawful ids v =
    sum_by-same (λ u. count g u v) (λ u. sum_by (λ p. cond (eqb (target g p) v) 1 0) (places_of g u)) ids (λ u. row_sum g lawful (λ w. cond (eqb w v) 1 0) u)

-- a vertex has no more places to another than there are places
pub reaching-le : (g : RawGraph) → IsLawful g → (ids : List ℕ) (v : ℕ) → reaching g ids v ≤ length ids * 134217728
reaching-le g lawful [] v = omega arith
reaching-le g lawful (u ∷ us) v =
    omega (
      arith,
      sum_by-cons (λ w. count g w v) u us,
      reaching-le g lawful us v,
      count_by-le-length (λ x. eqb x v) (row g u),
      length-row g lawful u,
      row_end-le g lawful u,
      lawful.few_places,
    )

-- what is reached is a vertex
pub reached_is_vertex : (g : RawGraph) → IsLawful g → (ids : List ℕ) → All (λ u. u < vertices g) ids → (v : ℕ) → 0 < reaching g ids v → v < vertices g
reached_is_vertex g lawful [] within v some = absurd (omega arith)
reached_is_vertex g lawful (u ∷ us) within v some =
    let P : ℕ → Type 0 = λ u. u < vertices g in
    let here : u < vertices g = All-head P u us within in
    ⊎_elim
    (λ (none : count g u v ≡ 0). reached_is_vertex g lawful us (All-tail P u us within) v (omega (arith, none, sum_by-cons (λ w. count g w v) u us)))
    (λ (found : (k : ℕ) × (k < length (row g u)) × (get_or (row g u) k 0 ≡ v)).
    let (k, lt, at) = found in
    let place : row_start g u + k < length g.targets = place_in_range g lawful u (row_start g u + k) (IsPlaceOf-at g lawful u k here lt) in
    omega (arith, target_in_range g lawful (row_start g u + k) place, row-at g lawful u k lt, get_or_default (row g u) k 0 v lt, at))
    (counted_cases v (row g u))
