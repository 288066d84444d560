-- The first asymmetric place, row by row.
use Rattle.std.proofs.Common.{◌≡◌, ℕ, ◌+◌, ◌-◌, ◌<◌, ◌≤◌, List, length, get_or, ◌∙◌, ap, subst, arith, inl, inr}
use Rattle.std.proofs.lemmas.Bool.{cases_order, cases_lt}
use Rattle.jul_base.specs.declared.graphs.RawGraph.{RawGraph}
use Rattle.jul_base.specs.Graph.{vertices, target, row, row_start, count, IsPlaceOf, IsLawful}
use Rattle.jul_base.specs.InRows.{in_places, AreSources}
use Rattle.jul_base.specs.Symmetry.{IsSymmetric, IsFirstAsymmetricPlace}
use Rattle.jul_base.proofs.GraphLaws.{target_in_range, place_in_range}
use Rattle.jul_base.proofs.RowLaws.{row_end-le-row_start, length-row, row-at, IsPlaceOf-at}
use Rattle.jul_base.proofs.InRowLaws.{count_in_row}
use Rattle.jul_base.proofs.SymmetryLaws.{IsSymmetric-from_places}
use Rattle.jul_rows.specs.Balance.{IsTallyOf, IsBalancedAt, IsBalancedRow, IsFirstOfRow, IsFirstExcess}

-- the two tallies at a vertex w are the counts one way and the other
pub tallies_count : (g : RawGraph) → IsLawful g → (u w : ℕ) (us to from : List ℕ) → u < vertices g → w < vertices g → AreSources g us (in_places g u) →
    length to ≡ vertices g → length from ≡ vertices g → IsTallyOf (row g u) to → IsTallyOf us from →
    (get_or to w 0 ≡ count g u w) × (get_or from w 0 ≡ count g w u)
tallies_count g lawful u w us to from u_lt w_lt are to_size from_size is_to is_from = (
  is_to w (omega arith),
  is_from w (omega arith) ∙ count_in_row g lawful w u w_lt us are,
)

-- the place p is number p - row_start of its row
row_index : (g : RawGraph) → IsLawful g → (u p : ℕ) → IsPlaceOf g u p → get_or (row g u) (p - row_start g u) 0 ≡ target g p
row_index g lawful u p place =
    let k : ℕ = p - row_start g u in
    let here : row_start g u + k ≡ p = omega (arith, place.from) in
    row-at g lawful u k (omega (arith, length-row g lawful u, place.from, place.to)) ∙ ap (target g) here

-- a place is balanced where the first tally doesn't exceed the second at its target
IsBalancedAt-from_tallies : (g : RawGraph) → IsLawful g → (u p : ℕ) (us to from : List ℕ) → AreSources g us (in_places g u) →
    length to ≡ vertices g → length from ≡ vertices g → IsTallyOf (row g u) to → IsTallyOf us from → IsPlaceOf g u p →
    get_or to (target g p) 0 ≤ get_or from (target g p) 0 → IsBalancedAt g u p
IsBalancedAt-from_tallies g lawful u p us to from are to_size from_size is_to is_from place le =
    let w_lt : target g p < vertices g = target_in_range g lawful p (place_in_range g lawful u p place) in
    let counts = tallies_count g lawful u (target g p) us to from place.vertex w_lt are to_size from_size is_to is_from in
    omega (arith, le, counts.0, counts.1)

pub IsBalancedRow-from_tallies : (g : RawGraph) → IsLawful g → (u : ℕ) (us to from : List ℕ) → AreSources g us (in_places g u) →
    length to ≡ vertices g → length from ≡ vertices g → IsTallyOf (row g u) to → IsTallyOf us from →
    ((k : ℕ) → k < length (row g u) → get_or to (get_or (row g u) k 0) 0 ≤ get_or from (get_or (row g u) k 0) 0) → IsBalancedRow g u
IsBalancedRow-from_tallies g lawful u us to from are to_size from_size is_to is_from le p place =
    let k : ℕ = p - row_start g u in
    let lt : k < length (row g u) = omega (arith, length-row g lawful u, place.from, place.to) in
    let P : ℕ → Type 0 = λ w. get_or to w 0 ≤ get_or from w 0 in
    IsBalancedAt-from_tallies g lawful u p us to from are to_size from_size is_to is_from place (subst P (row_index g lawful u p place) (le k lt))

pub IsFirstOfRow-from_excess : (g : RawGraph) → IsLawful g → (u k : ℕ) (us to from : List ℕ) → u < vertices g → AreSources g us (in_places g u) →
    length to ≡ vertices g → length from ≡ vertices g → IsTallyOf (row g u) to → IsTallyOf us from → IsFirstExcess (row g u) to from k →
    IsFirstOfRow g u (row_start g u + k)
IsFirstOfRow-from_excess g lawful u k us to from u_lt are to_size from_size is_to is_from first =
    let p : ℕ = row_start g u + k in
    let place : IsPlaceOf g u p = IsPlaceOf-at g lawful u k u_lt first.within in
    let w_lt : target g p < vertices g = target_in_range g lawful p (place_in_range g lawful u p place) in
    let P : ℕ → Type 0 = λ w. get_or from w 0 < get_or to w 0 in
    let Q : ℕ → Type 0 = λ w. get_or to w 0 ≤ get_or from w 0 in
    let more : get_or from (target g p) 0 < get_or to (target g p) 0 = subst P (row-at g lawful u k first.within) first.more in
    let counts = tallies_count g lawful u (target g p) us to from u_lt w_lt are to_size from_size is_to is_from in
    record {
      place = place;
      more = omega (arith, more, counts.0, counts.1);
      before = λ q q_place q_lt.
          IsBalancedAt-from_tallies g lawful u q us to from are to_size from_size is_to is_from q_place
          (subst Q (row_index g lawful u q q_place) (first.before (q - row_start g u) (omega (arith, q_place.from, q_lt))));
    }

-- the first place of the first row that has one is the first of all
pub IsFirst-from_row : (g : RawGraph) → IsLawful g → (u p : ℕ) → ((w : ℕ) → w < u → IsBalancedRow g w) → IsFirstOfRow g u p → IsFirstAsymmetricPlace g p
IsFirst-from_row g lawful u p before first = record {
  holds = (u, first.place, first.more);
  least = λ q (w, place, more).
      elim (cases_order w u) [
        | inl same ↦
            let P : ℕ → Type 0 = λ v. IsPlaceOf g v q in
            elim (cases_lt q p) [
              | inl less ↦
                  let balanced : IsBalancedAt g u q = first.before q (subst P same place) less in
                  absurd (omega (arith, balanced, more, ap (λ v. count g (target g q) v) same, ap (λ v. count g v (target g q)) same))
              | inr le ↦ le
            ]
        | inr (inl less) ↦ absurd (omega (arith, before w less q place, more))
        | inr (inr later) ↦ omega (arith, row_end-le-row_start g lawful u w later place.vertex, place.from, first.place.to)
      ];
}

pub IsSymmetric-from_rows : (g : RawGraph) → IsLawful g → ((w : ℕ) → w < vertices g → IsBalancedRow g w) → IsSymmetric g
IsSymmetric-from_rows g lawful rows = IsSymmetric-from_places g lawful (λ u p place. rows u place.vertex p place)
