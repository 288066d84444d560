-- Packed sets: what is left of each set, kept from round to round.
use Rattle.std.proofs.Common.{◌≡◌, ℕ, suc, ◌<◌, ◌≤◌, Bool, true, false, not, eqb, cond, List, [], ◌∷◌, length, sym, ◌∙◌, ap, refl, inl, inr}
use Rattle.std.specs.List.{filter, count_by}
use Rattle.std.proofs.lemmas.Bool.{cases_Bool, both_ways, cond-true, cond-false, not-true, not_from_false, false_from_ne_true}
use Rattle.std.proofs.lemmas.List.Sums.{length-filter}
use Rattle.jul_base.specs.declared.limits.TheConstants.{MAX_N}
use Rattle.jul_base.specs.Numbers.{IsLeastOrNone}
use Rattle.jul_base.specs.Sets.{has}
use Rattle.jul_base.specs.CoverRounds.{set_at, size, is_active, won, covered_before}
use Rattle.jul_base.proofs.PeelLaws.{IsWithin, has_filter, has_kept}
use Rattle.jul_base.proofs.CountLaws.{count_by-filter}
use Rattle.jul_cover.specs.CoverBids.{bid, IsBidBefore}
use Rattle.jul_cover.specs.CoverWork.{packed}
use Rattle.jul_cover.proofs.CoverBidLaws.{won-by_words}

pub length-packed : (sets : List (List ℕ)) (c : List ℕ) (s : ℕ) → length (packed sets c s) ≡ size sets c s
unfolding size
length-packed sets c s = length-filter (λ e. not (has c e)) (set_at sets s)

pub packed-parts : (sets : List (List ℕ)) (c : List ℕ) (s e : ℕ) → has (packed sets c s) e ≡ true → (has (set_at sets s) e ≡ true) × (has c e ≡ false)
packed-parts sets c s e h =
    let parts : (has (set_at sets s) e ≡ true) × (not (has c e) ≡ true) = has_filter (λ x. not (has c x)) (set_at sets s) e h in
    (parts.0, not-true _ parts.1)

pub packed-from : (sets : List (List ℕ)) (c : List ℕ) (s e : ℕ) → has (set_at sets s) e ≡ true → has c e ≡ false → has (packed sets c s) e ≡ true
packed-from sets c s e held open' = has_kept (λ x. not (has c x)) (set_at sets s) e held (not_from_false _ open')

-- a filter by a test behind one by a weaker test
pub filter_again : (p q : ℕ → Bool) (xs : List ℕ) → ((x : ℕ) → q x ≡ true → p x ≡ true) → filter q (filter p xs) ≡ filter q xs
filter_again p q [] stronger = refl
filter_again p q (x ∷ xs) stronger =
    let rest : filter q (filter p xs) ≡ filter q xs = filter_again p q xs stronger in
    elim (cases_Bool (p x)) [
      | inl kept ↦
          let list : filter p (x ∷ xs) ≡ x ∷ filter p xs = cond-true _ _ _ kept in
          ap (filter q) list ∙ ap (λ ys. cond (q x) (x ∷ ys) ys) rest
      | inr dropped ↦
          let list : filter p (x ∷ xs) ≡ filter p xs = cond-false _ _ _ dropped in
          let fails : q x ≡ false = false_from_ne_true _ (λ passes. both_ways _ dropped (stronger x passes)) in
          ap (filter q) list ∙ rest ∙ sym (cond-false _ _ _ fails)
    ]

-- what was packed before is packed again from what was left
pub packed_again : (sets : List (List ℕ)) (c d : List ℕ) (s : ℕ) → IsWithin c d → filter (λ e. not (has d e)) (packed sets c s) ≡ packed sets d s
packed_again sets c d s within =
    filter_again (λ e. not (has c e)) (λ e. not (has d e)) (set_at sets s) (λ e open'.
    not_from_false _ (false_from_ne_true _ (λ covered. both_ways _ (not-true _ open') (within e covered))))

-- of a packed set that is active, those elements are won whose words have its bid
pub won-by_packed : (sets : List (List ℕ)) (word : ℕ → ℕ) (t s : ℕ) → length sets ≤ MAX_N → s < length sets → is_active sets (covered_before sets t) s ≡ true →
    ((e : ℕ) → has (packed sets (covered_before sets t) s) e ≡ true → IsLeastOrNone (IsBidBefore sets e (suc t)) (word e)) →
    count_by (λ e. eqb (word e) (bid t s)) (packed sets (covered_before sets t) s) ≡ won sets (covered_before sets t) s
won-by_packed sets word t s few lt active least =
    let c : List ℕ = covered_before sets t in
    count_by-filter (λ e. not (has c e)) (λ e. eqb (word e) (bid t s)) (set_at sets s)
    ∙ won-by_words sets word t s few lt active (λ e held open'. least e (packed-from sets c s e held open'))
