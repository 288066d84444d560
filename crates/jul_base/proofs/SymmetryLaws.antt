-- A graph in which no place leads one way more often than the other is symmetric.
use Rattle.std.proofs.Common.{◌≡◌, ℕ, suc, ◌+◌, ◌<◌, ◌≤◌, ◌⊎◌, List, [], ◌∷◌, length, get_or, cond, eqb, sym, ◌∙◌, ap, subst, refl, arith, inl, inr}
use Rattle.std.specs.List.{count_by}
use Rattle.std.proofs.lemmas.Bool.{cases_eq, ne_eqb}
use Rattle.std.proofs.lemmas.List.Sums.{sum_by-cons}
use Rattle.jul_base.specs.declared.graphs.RawGraph.{RawGraph}
use Rattle.jul_base.specs.Graph.{vertices, target, row, row_start, count, IsPlaceOf, IsLawful}
use Rattle.jul_base.specs.Symmetry.{IsSymmetric}
use Rattle.jul_base.proofs.RowLaws.{row-at, IsPlaceOf-at}

-- a number is not in a list at all, or it stands somewhere
pub counted_cases : (w : ℕ) (xs : List ℕ) → (count_by (λ x. eqb x w) xs ≡ 0) ⊎ ((k : ℕ) × (k < length xs) × (get_or xs k 0 ≡ w))
counted_cases w [] = inl refl
counted_cases w (x ∷ xs) =
    elim (cases_eq x w) [
      | inl same ↦ inr (0, omega arith, same)
      | inr other ↦
          elim (counted_cases w xs) [
            | inl none ↦ inl (omega (arith, sum_by-cons (λ y. cond (eqb y w) 1 0) x xs, ap {B = ℕ} (λ b. cond b 1 0) (ne_eqb x w other), none))
            | inr (k, lt, at) ↦ inr (suc k, omega arith, at)
          ]
    ]

pub IsSymmetric-from_places : (g : RawGraph) → IsLawful g → ((u p : ℕ) → IsPlaceOf g u p → count g u (target g p) ≤ count g (target g p) u) → IsSymmetric g
IsSymmetric-from_places g lawful at_most u w u_lt w_lt =
    let le : (u w : ℕ) → u < vertices g → count g u w ≤ count g w u = λ u w in_range.
    elim (counted_cases w (row g u)) [
      | inl none ↦ omega (arith, none)
      | inr (k, lt, at) ↦
          let is : target g (row_start g u + k) ≡ w = sym (row-at g lawful u k lt) ∙ at in
          let P : ℕ → Type 0 = λ x. count g u x ≤ count g x u in
          subst P is (at_most u (row_start g u + k) (IsPlaceOf-at g lawful u k in_range lt))
    ] in
    omega (arith, le u w u_lt, le w u w_lt)
