-- Counts, as an edge map that counts gives them, lower the places, and buckets take the moves.
use Rattle.std.proofs.Common.{◌≡◌, ℕ, ◌-◌, ◌<◌, ◌≤◌, max, eqb, cond, List, length, get_or, sym, ◌∙◌, ap, arith, inl, inr}
use Rattle.std.proofs.lemmas.Bool.{cases_lt, cases_eq, cases_Bool, cond-true, cond-false, eq-eqb, ne_eqb, both_ways}
use Rattle.std.proofs.lemmas.List.{length-map, get_or-map}
use Rattle.jul_base.specs.declared.limits.TheConstants.{NONE}
use Rattle.jul_base.specs.Sets.{has}
use Rattle.jul_base.proofs.SetLaws.{has-from_Contains}
use Rattle.jul_count.specs.Counts.{reaching}
use Rattle.jul_bucket.specs.Places.{ids_at}
use Rattle.jul_core.specs.PeelMoves.{moves_of}
use Rattle.jul_count.specs.Counts.{counted}
use Rattle.jul_bucket.specs.Places.{emptied}
use Rattle.jul_core.proofs.PeelStatements.{CountsLower}
use Rattle.jul_core.proofs.MoveLaws.{length-set_places, set-other, set-none, set-here}

-- ---- the places, once a bucket has been emptied

emptied-at : (old : List ℕ) (bucket v : ℕ) → v < length old → get_or (emptied old bucket) v 0 ≡ cond (eqb (get_or old v 0) bucket) NONE (get_or old v 0)
emptied-at old bucket v lt = get_or-map (λ place. cond (eqb place bucket) NONE place) old v 0 0 lt

pub emptied-drawn : (old : List ℕ) (bucket v : ℕ) → v < length old → get_or old v 0 ≡ bucket → get_or (emptied old bucket) v 0 ≡ NONE
emptied-drawn old bucket v lt is = emptied-at old bucket v lt ∙ cond-true _ _ _ (eq-eqb _ _ is)

pub emptied-other : (old : List ℕ) (bucket v : ℕ) → v < length old → (get_or old v 0 ≡ bucket → ⊥) → get_or (emptied old bucket) v 0 ≡ get_or old v 0
emptied-other old bucket v lt other = emptied-at old bucket v lt ∙ cond-false _ _ _ (ne_eqb _ _ other)

pub emptied-gone : (old : List ℕ) (bucket v : ℕ) → v < length old → get_or old v 0 ≡ NONE → get_or (emptied old bucket) v 0 ≡ NONE
emptied-gone old bucket v lt gone =
    elim (cases_eq (get_or old v 0) bucket) [
      | inl is ↦ emptied-drawn old bucket v lt is
      | inr other ↦ emptied-other old bucket v lt other ∙ gone
    ]

pub counts_lower : CountsLower
counts_lower g old bucket counts size first are =
    let now : List ℕ = emptied old bucket in
    let ids : List ℕ = ids_at old bucket in
    let size_now : length now ≡ length old = length-map old (λ place. cond (eqb place bucket) NONE place) in
    record {
      size = length-set_places now (moves_of now bucket counts) ∙ size_now;
      gone = λ v v_lt gone.
          let is : get_or now v 0 ≡ NONE = emptied-gone old bucket v v_lt gone in
          set-none now bucket counts now v is ∙ is;
      drawn = λ v v_lt here.
          let is : get_or now v 0 ≡ NONE = emptied-drawn old bucket v v_lt here in
          set-none now bucket counts now v is ∙ is;
      left = λ v v_lt some other.
          let is : get_or now v 0 ≡ get_or old v 0 = emptied-other old bucket v v_lt other in
          elim (cases_Bool (has (counted counts) v)) [
            | inl held ↦
                set-here (reaching g ids) now bucket counts now v are.apart are.each.exact held
                (λ none. some (sym is ∙ none)) (omega arith)
                ∙ ap (λ x. max bucket (x - reaching g ids v)) is
            | inr absent ↦
                let le : bucket ≤ get_or old v 0 = first.first v 0 v_lt some in
                elim (cases_lt 0 (reaching g ids v)) [
                  | inl reached ↦ absurd (both_ways _ absent (has-from_Contains (counted counts) v (are.each.all v (omega arith) reached)))
                  | inr none ↦ set-other now bucket counts now v absent ∙ is ∙ omega arith
                ]
          ];
    }
