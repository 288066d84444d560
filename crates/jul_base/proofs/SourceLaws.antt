-- Lists of sources, and the column that a search starts from.
use Rattle.std.proofs.Common.{◌≡◌, ◌≢◌, ℕ, zero, suc, ◌<◌, cond, List, [], ◌∷◌, length, get_or, sym, ◌∙◌, refl, arith, inl, inr}
use Rattle.std.specs.List.{Contains, All}
use Rattle.std.proofs.lemmas.Bool.{cases_Bool, both_ways, cond-true, cond-false}
use Rattle.std.proofs.lemmas.List.{ext_get_or}
use Rattle.std.proofs.lemmas.List.FromFn.{length-map-range_with_len, get_or-map-range_with_len}
use Rattle.std.proofs.lemmas.List.Elements.{All-nil, All-cons}
use Rattle.jul_base.specs.declared.limits.TheConstants.{NONE}
use Rattle.jul_base.specs.Sets.{has}
use Rattle.jul_base.specs.Sources.{AreNamedSources, AreSources, first_numbers}
use Rattle.jul_base.proofs.SetLaws.{Contains-from_has, has-from_Contains}

-- ---- one source

pub AreSources-one : (n source : ℕ) → source < n → AreSources n (source ∷ [])
AreSources-one n source lt = record {
  some = omega arith;
  few = omega arith;
  increasing = λ k two. absurd (omega (arith, two));
  within = All-cons (λ s. s < n) source [] lt (All-nil (λ s. s < n));
}

-- sources that are named are sources of each graph that has them as vertices
pub named_within : (n : ℕ) (sources : List ℕ) → AreNamedSources sources → All (λ s. s < n) sources → AreSources n sources
named_within n sources named within = record { some = named.some; few = named.few; increasing = named.increasing; within = within }

pub Contains-one : (source : ℕ) → Contains (source ∷ []) source
Contains-one source = (0, omega arith, refl)

pub Contains-one-is : (source s : ℕ) → Contains (source ∷ []) s → s ≡ source
Contains-one-is source s (zero, lt, is) = sym is
Contains-one-is source s (suc k, lt, is) = absurd (omega (arith, lt))

-- ---- where a search starts

module _ (n : ℕ) (sources : List ℕ) where
  abbrev First : List ℕ
  First = first_numbers n sources

  pub length-first : length (first_numbers n sources) ≡ n
  length-first = length-map-range_with_len (λ v. cond (has sources v) 0 NONE) 0 n

  first_at : (v : ℕ) → v < n → get_or First v 0 ≡ cond (has sources v) 0 NONE
  first_at v lt = get_or-map-range_with_len (λ w. cond (has sources w) 0 NONE) 0 n v v 0 lt (omega arith)

  pub first_source : (v : ℕ) → v < n → Contains sources v → get_or (first_numbers n sources) v 0 ≡ 0
  first_source v lt h = first_at v lt ∙ cond-true (has sources v) 0 NONE (has-from_Contains sources v h)

  pub first_some : (v : ℕ) → v < n → get_or (first_numbers n sources) v 0 ≢ NONE → Contains sources v × (get_or (first_numbers n sources) v 0 ≡ 0)
  first_some v lt some = elim (cases_Bool (has sources v)) [
    | inl there ↦ (Contains-from_has sources v there, first_at v lt ∙ cond-true (has sources v) 0 NONE there)
    | inr other ↦ absurd (some (first_at v lt ∙ cond-false (has sources v) 0 NONE other))
  ]

  -- a column with 0 at the sources and NONE elsewhere is the one that a search starts from
  pub first_is : (values : List ℕ) → length values ≡ n →
      ((v : ℕ) → v < n → (Contains sources v → get_or values v 0 ≡ 0) × ((Contains sources v → ⊥) → get_or values v 0 ≡ NONE)) → values ≡ first_numbers n sources
  first_is values size each =
      ext_get_or 0 values First (size ∙ sym length-first) (λ v h.
      let lt : v < n = omega (arith, h, size) in
      elim (cases_Bool (has sources v)) [
        | inl there ↦ (each v lt).0 (Contains-from_has sources v there) ∙ sym (first_at v lt ∙ cond-true (has sources v) 0 NONE there)
        | inr other ↦ (each v lt).1 (λ c. absurd (both_ways (has sources v) other (has-from_Contains sources v c))) ∙ sym (first_at v lt ∙ cond-false (has sources v) 0 NONE other)
      ])
