-- The places of the rows, one row behind another, are all places of the graph.
use Rattle.std.proofs.Common.{◌≡◌, ℕ, zero, suc, ◌+◌, ◌-◌, ◌<◌, ◌≤◌, sym, ◌∙◌, ap, refl, arith}
use Rattle.std.specs.List.{sum_by, range_with_len}
use Rattle.std.proofs.lemmas.List.Sums.{sum_by-cons}
use Rattle.jul_base.specs.declared.graphs.RawGraph.{RawGraph}
use Rattle.jul_base.specs.Numbers.{below}
use Rattle.jul_base.specs.Graph.{vertices, places, row_start, row_end, IsLawful}
use Rattle.jul_base.proofs.GraphLaws.{row_end-next, row_end-last, row_start-le-row_end}
use Rattle.jul_count.specs.Adds.{places_of, weight_from}

-- numbers in a row, and those that follow
pub sum_by-range : (f : ℕ → ℕ) (a m n : ℕ) → sum_by f (range_with_len a (m + n)) ≡ sum_by f (range_with_len a m) + sum_by f (range_with_len (a + m) n)
sum_by-range f a zero n =
    let e : zero + n ≡ n = omega arith in
    let same : a + zero ≡ a = omega arith in
    omega (arith, ap (λ k. sum_by f (range_with_len a k)) e, ap (λ k. sum_by f (range_with_len k n)) same)
sum_by-range f a (suc m) n =
    let e : suc m + n ≡ suc (m + n) = omega arith in
    let same : a + 1 + m ≡ a + suc m = omega arith in
    omega (
      arith,
      ap (λ k. sum_by f (range_with_len a k)) e,
      ap (λ k. sum_by f (range_with_len k n)) same,
      sum_by-cons f a (range_with_len (a + 1) (m + n)),
      sum_by-cons f a (range_with_len (a + 1) m),
      sum_by-range f (a + 1) m n,
    )

-- one vertex more
pub below-more : (f : ℕ → ℕ) (n : ℕ) → sum_by f (below (suc n)) ≡ sum_by f (below n) + f n
below-more f n =
    let e : n + 1 ≡ suc n = omega arith in
    let at : 0 + n ≡ n = omega arith in
    omega (arith, ap (λ k. sum_by f (below k)) e, sum_by-range f 0 n 1, ap f at)

-- the places of the rows up to that of v
rows_upto : (g : RawGraph) → IsLawful g → (weight : ℕ → ℕ) (v : ℕ) → v < vertices g → weight_from g weight (below (suc v)) ≡ sum_by weight (below (row_end g v))
rows_upto g lawful weight zero lt =
    let first : row_start g 0 ≡ 0 = lawful.first in
    let all : row_end g 0 - row_start g 0 ≡ row_end g 0 = omega arith in
    omega (
      arith,
      below-more (λ v. sum_by weight (places_of g v)) 0,
      ap (λ a. sum_by weight (range_with_len a (row_end g 0 - row_start g 0))) first,
      ap (λ n. sum_by weight (range_with_len 0 n)) all,
    )
rows_upto g lawful weight (suc v) lt =
    let next : v + 1 ≡ suc v = omega arith in
    let begins : row_end g v ≡ row_start g (suc v) = row_end-next g v (omega arith) ∙ ap (row_start g) next in
    let le : row_start g (suc v) ≤ row_end g (suc v) = row_start-le-row_end g lawful (suc v) lt in
    let size : row_start g (suc v) + (row_end g (suc v) - row_start g (suc v)) ≡ row_end g (suc v) = omega arith in
    let from : 0 + row_start g (suc v) ≡ row_start g (suc v) = omega arith in
    omega (
      arith,
      below-more (λ v. sum_by weight (places_of g v)) (suc v),
      rows_upto g lawful weight v (omega arith),
      ap (λ n. sum_by weight (below n)) begins,
      sum_by-range weight 0 (row_start g (suc v)) (row_end g (suc v) - row_start g (suc v)),
      ap (λ a. sum_by weight (range_with_len a (row_end g (suc v) - row_start g (suc v)))) from,
      ap (λ n. sum_by weight (below n)) size,
    )

-- all rows have all places, each once
pub all_rows : (g : RawGraph) → IsLawful g → (weight : ℕ → ℕ) → weight_from g weight (below (vertices g)) ≡ sum_by weight (below (places g))
all_rows g lawful weight = by_size (vertices g) refl where
  by_size : (n : ℕ) → vertices g ≡ n → weight_from g weight (below (vertices g)) ≡ sum_by weight (below (places g))
  by_size zero e = ap (λ k. weight_from g weight (below k)) e ∙ sym (ap (λ k. sum_by weight (below k)) (lawful.empty e))
  by_size (suc v) e =
      ap (λ k. weight_from g weight (below k)) e
      ∙ rows_upto g lawful weight v (omega arith)
      ∙ ap (λ k. sum_by weight (below k)) (row_end-last g v (omega arith))
