-- Lists of sources: the first that is no vertex, and the first difference of two lists.
use Rattle.std.proofs.Common.{◌≡◌, inl, inr, ℕ, suc, ◌<◌, ◌≤◌, min, List, [], ◌∷◌, length, drop, get_or, Some, None, sym, ◌∙◌, ap, arith}
use Rattle.std.proofs.Math.Seq.{drop-cons}
use Rattle.std.proofs.lemmas.Bool.{cases_lt, cond-true, cond-false, lt-ltb, le-ltb}
use Rattle.std.proofs.lemmas.List.{drop_all}
use Rattle.std.proofs.lemmas.List.Elements.{All-nil, All-cons}
use Rattle.std.specs.List.{All}
use Rattle.jul_base.specs.Sources.{AreNamedSources, AreSources}
use Rattle.jul_base.proofs.SourceLaws.{named_within}
use Rattle.jul_cmd.specs.declared.statuses.Status.{Status}
use Rattle.jul_cmd.specs.declared.statuses.Status.TheVariants.{SourceRange}
use Rattle.jul_cmd.specs.Statuses.{stage_of}
use Rattle.jul_cmd.specs.Suited.{refusal_of_sources}
use Rattle.jul_cmd.specs.Checking.{difference_at}

-- a source that is a vertex changes nothing
pub source_inside : (n : ℕ) (xs : List ℕ) (i : ℕ) → i < length xs → get_or xs i 0 < n → refusal_of_sources n (drop i xs) ≡ refusal_of_sources n (drop (suc i) xs)
source_inside n xs i lt inside = ap (refusal_of_sources n) (drop-cons xs i 0 lt) ∙ cond-true _ _ _ (lt-ltb (get_or xs i 0) n inside)

-- the first one that isn't is named
pub source_outside : (n : ℕ) (xs : List ℕ) (i : ℕ) → i < length xs → n ≤ get_or xs i 0 → refusal_of_sources n (drop i xs) ≡ Some (SourceRange (get_or xs i 0) n)
source_outside n xs i lt outside = ap (refusal_of_sources n) (drop-cons xs i 0 lt) ∙ cond-false _ _ _ (le-ltb (get_or xs i 0) n outside)

-- the refusal comes at its stage
pub refusal_stage : (n : ℕ) (xs : List ℕ) (status : Status) → refusal_of_sources n xs ≡ Some status → stage_of status ≡ 6
refusal_stage n [] status e = absurd (cc)
refusal_stage n (x ∷ xs) status e = elim (cases_lt x n) [
  | inl lt ↦ refusal_stage n xs status (sym (cond-true _ _ _ (lt-ltb x n lt)) ∙ e)
  | inr le ↦ let same : Some (SourceRange x n) ≡ Some status = sym (cond-false _ _ _ (le-ltb x n le)) ∙ e in let at : SourceRange x n ≡ status = cc in sym (ap stage_of at)
]

-- sources that aren't refused are vertices
pub sources_within : (n : ℕ) (xs : List ℕ) → refusal_of_sources n xs ≡ None → All (λ s. s < n) xs
sources_within n [] e = All-nil (λ s. s < n)
sources_within n (x ∷ xs) e = elim (cases_lt x n) [
  | inl inside ↦ All-cons (λ s. s < n) x xs inside (sources_within n xs (sym (cond-true _ _ _ (lt-ltb x n inside)) ∙ e))
  | inr outside ↦ let refused : Some (SourceRange x n) ≡ None = sym (cond-false _ _ _ (le-ltb x n outside)) ∙ e in absurd (cc)
]

-- so they are sources of the graph
pub named_inside : (m n : ℕ) (xs : List ℕ) → m ≡ n → AreNamedSources xs → refusal_of_sources m xs ≡ None → AreSources n xs
named_inside m n xs same named inside = named_within n xs named (sources_within n xs (ap (λ k. refusal_of_sources k xs) (sym same) ∙ inside))

-- ---- two lists

-- where one list ends before the other, that is their difference
pub ends_apart : (xs ys : List ℕ) (n i : ℕ) → n ≡ min (length xs) (length ys) → n ≤ i → i ≤ n → (length xs ≡ length ys → ⊥) → difference_at i (drop i xs) (drop i ys) ≡ Some n
ends_apart xs ys n i least ge le other =
    elim (cases_lt (length xs) (length ys)) [
      | inl lt ↦
          ap (λ rest. difference_at i rest (drop i ys)) (drop_all i xs (omega arith))
          ∙ ap (λ rest. difference_at i [] rest) (drop-cons ys i 0 (omega arith)) ∙ ap (λ k. Some k) (omega arith)
      | inr more ↦
          ap (λ rest. difference_at i rest (drop i ys)) (drop-cons xs i 0 (omega arith))
          ∙ ap (λ rest. difference_at i (get_or xs i 0 ∷ drop (suc i) xs) rest) (drop_all i ys (omega arith)) ∙ ap (λ k. Some k) (omega arith)
    ]
