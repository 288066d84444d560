-- How often places lead one way and the other.
use Rattle.std.specs.Prelude.{◌≡◌, ℕ, ◌<◌, ◌≤◌, List, length, slice_index, ◌==◌, count_by}
use Rattle.jul_base.specs.declared.graphs.RawGraph.{RawGraph}
use Rattle.jul_base.specs.Graph.{target, count, IsPlaceOf}

-- the number at each v tells how often v stands in the list
abbrev pub IsTallyOf : List ℕ → List ℕ → Type 0
IsTallyOf xs counts = (v : ℕ) → v < length counts → slice_index counts v ≡ count_by (λ x. x == v) xs

-- the target of place p stands in the row of u at most as often as u in that of the target
abbrev pub IsBalancedAt : RawGraph → ℕ → ℕ → Type 0
IsBalancedAt g u p = count g u (target g p) ≤ count g (target g p) u

-- so does each target of u
abbrev pub IsBalancedRow : RawGraph → ℕ → Type 0
IsBalancedRow g u = (p : ℕ) → IsPlaceOf g u p → IsBalancedAt g u p

-- p is the first place of u that isn't balanced
pub record IsFirstOfRow (g : RawGraph) (u p : ℕ) : Type 0 where
  pub place : IsPlaceOf g u p
  pub more : count g (target g p) u < count g u (target g p)
  pub before : (q : ℕ) → IsPlaceOf g u q → q < p → IsBalancedAt g u q

-- k is the first index of the row at whose vertex the first numbers exceed the second
pub record IsFirstExcess (row to from : List ℕ) (k : ℕ) : Type 0 where
  pub within : k < length row
  pub more : slice_index from (slice_index row k) < slice_index to (slice_index row k)
  pub before : (i : ℕ) → i < k →
      slice_index to (slice_index row i) ≤ slice_index from (slice_index row i)
