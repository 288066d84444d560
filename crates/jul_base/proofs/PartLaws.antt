-- Parts of lists, and the numbers below a bound.
use Rattle.std.proofs.Common.{◌≡◌, ℕ, ◌+◌, ◌-◌, ◌<◌, ◌≤◌, ◌⊎◌, List, [], ◌∷◌, ◌++◌, length, get_or, set, take, drop, cond, Bool, sym, ◌∙◌, ap, arith, inl, inr}
use Rattle.std.specs.List.{slice_range, filter}
use Rattle.std.proofs.lemmas.List.{take-set-le, drop-set-lt, get_or-set_same, length-set, map-id}
use Rattle.std.proofs.lemmas.List.Edits.{between_more}
use Rattle.std.proofs.lemmas.Slice.{between_is}
use Rattle.std.proofs.lemmas.List.Elements.{filter-append}
use Rattle.std.proofs.lemmas.List.FromFn.{map-range_with_len_more}
use Rattle.jul_base.specs.Numbers.{below}

-- one number more
pub below-more : (n : ℕ) → below (n + 1) ≡ below n ++ n ∷ []
below-more n =
    sym (map-id (below (n + 1))) ∙ map-range_with_len_more (λ x. x) 0 n n (omega arith) ∙ ap (λ (l : List ℕ). l ++ n ∷ []) (map-id (below n))

-- what passes a test, with one number more
pub filter_below-more : (p : ℕ → Bool) (n : ℕ) → filter p (below (n + 1)) ≡ filter p (below n) ++ cond (p n) (n ∷ []) []
filter_below-more p n = ap (filter p) (below-more n) ∙ filter-append p (below n) (n ∷ [])

-- a write before or behind a part leaves it
pub slice_range-set_outside : {X : Type 0} (xs : List X) (i a b : ℕ) (x : X) → (i < a) ⊎ (b ≤ i) → slice_range (set xs i x) a b ≡ slice_range xs a b
slice_range-set_outside {X} xs i a b x (inl lt) = ap (take (b - a)) (drop-set-lt a xs i x lt)
slice_range-set_outside {X} xs i a b x (inr le) =
    between_is (set xs i x) a b ∙ ap (drop a) (take-set-le b xs i x le) ∙ sym (between_is xs a b)

-- a part grows by the element that is written at its end
pub slice_range-set_end : {X : Type 0} (xs : List X) (a b : ℕ) (x : X) → a ≤ b → b < length xs → slice_range (set xs b x) a (b + 1) ≡ slice_range xs a b ++ x ∷ []
slice_range-set_end {X} xs a b x le lt =
    let in_range : b < length (set xs b x) = omega (arith, length-set xs b x) in
    between_more (set xs b x) a b x le in_range
    ∙ ap (λ (l : List X). l ++ get_or (set xs b x) b x ∷ []) (slice_range-set_outside xs b a b x (inr (omega arith)))
    ∙ ap (λ (y : X). slice_range xs a b ++ y ∷ []) (get_or-set_same xs b x x lt)
