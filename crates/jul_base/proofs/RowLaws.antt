-- The rows of a lawful graph: they lie one behind another, and their targets are those of their places.
use Rattle.std.proofs.Common.{◌≡◌, ℕ, zero, suc, ◌+◌, ◌-◌, ◌<◌, ◌≤◌, length, get_or, ap, arith, inl, inr}
use Rattle.std.proofs.lemmas.Bool.{cases_lt, cases_order}
use Rattle.std.proofs.lemmas.List.Edits.{length-between, get_or-between}
use Rattle.jul_base.specs.declared.graphs.RawGraph.{RawGraph}
use Rattle.jul_base.specs.Graph.{vertices, row, row_start, row_end, target, IsPlaceOf, IsLawful}
use Rattle.jul_base.proofs.GraphLaws.{row_end-le, row_end-next}

-- a row ends before any later one begins
pub row_end-le-row_start : (g : RawGraph) → IsLawful g → (u w : ℕ) → u < w → w < vertices g → row_end g u ≤ row_start g w
row_end-le-row_start g lawful u zero lt in_range = absurd (omega arith)
row_end-le-row_start g lawful u (suc w) lt in_range =
    let rises : row_start g w ≤ row_start g (w + 1) = lawful.rising w (omega arith) in
    let next : w + 1 ≡ suc w = omega arith in
    let here : row_end g w ≡ row_start g (w + 1) = row_end-next g w (omega arith) in
    elim (cases_lt u w) [
      | inl before ↦ omega (arith, row_end-le-row_start g lawful u w before (omega arith), ap (row_start g) next)
      | inr after ↦ let same : u ≡ w = omega arith in omega (arith, ap (row_end g) same, ap (row_start g) next)
    ]

-- a place has one source
pub IsPlaceOf-unique : (g : RawGraph) → IsLawful g → (u w p : ℕ) → IsPlaceOf g u p → IsPlaceOf g w p → u ≡ w
IsPlaceOf-unique g lawful u w p a b =
    elim (cases_order u w) [
      | inl same ↦ same
      | inr (inl less) ↦ absurd (omega (arith, row_end-le-row_start g lawful u w less b.vertex, a.to, b.from))
      | inr (inr more) ↦ absurd (omega (arith, row_end-le-row_start g lawful w u more a.vertex, b.to, a.from))
    ]

pub length-row : (g : RawGraph) → IsLawful g → (u : ℕ) → length (row g u) ≡ row_end g u - row_start g u
length-row g lawful u = length-between g.targets (row_start g u) (row_end g u) (row_end-le g lawful u)

-- the target number k of a row is that of its place number k
pub row-at : (g : RawGraph) → IsLawful g → (u k : ℕ) → k < length (row g u) → get_or (row g u) k 0 ≡ target g (row_start g u + k)
row-at g lawful u k lt = get_or-between g.targets (row_start g u) (row_end g u) k 0 (omega (arith, length-row g lawful u))

pub IsPlaceOf-at : (g : RawGraph) → IsLawful g → (u k : ℕ) → u < vertices g → k < length (row g u) → IsPlaceOf g u (row_start g u + k)
IsPlaceOf-at g lawful u k in_range lt = record { vertex = in_range; from = omega arith; to = omega (arith, length-row g lawful u) }
