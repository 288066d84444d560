-- The texts of results, and their lines.
use Rattle.std.proofs.Common.{◌≡◌, ℕ, ◌<◌, List, [], ◌∷◌, ◌++◌, length, get_or, decimal, ◌∙◌, ap, sym, refl, arith, append_assoc}
use Rattle.std.proofs.lemmas.Bool.{ne_eqb, cond-false}
use Rattle.std.proofs.lemmas.List.FromFn.{length-range_with_len, get_or-range_with_len}
use Rattle.jul_base.specs.declared.limits.TheConstants.{NONE}
use Rattle.jul_base.specs.Numbers.{below}
use Rattle.jul_witness.specs.Texts.{value_text, values_line, spaced_value, spaced_values}

-- a number that isn't NONE is written as its digits
pub value_text-number : (n : ℕ) → n < NONE → value_text n ≡ decimal n
value_text-number n lt = cond-false _ _ _ (ne_eqb n NONE (λ e. absurd (omega arith)))

-- a line of numbers, as it is put: the first, the others behind spaces, and LF
pub values_line-is : (x : ℕ) (xs : List ℕ) → value_text x ++ (spaced_values xs ++ 10 ∷ []) ≡ values_line (x ∷ xs)
values_line-is x [] = refl
values_line-is x (y ∷ ys) =
    ap (λ (t : List ℕ). value_text x ++ t) (append_assoc (spaced_value y) (spaced_values ys) (10 ∷ []))
    ∙ ap (λ (t : List ℕ). value_text x ++ (32 ∷ t)) (values_line-is y ys)
    ∙ sym (append_assoc (value_text x) (32 ∷ []) (values_line (y ∷ ys)))

pub length-below : (n : ℕ) → length (below n) ≡ n
length-below n = length-range_with_len 0 n

pub get_or-below : (n v : ℕ) → v < n → get_or (below n) v 0 ≡ v
get_or-below n v lt = get_or-range_with_len 0 n v 0 lt ∙ omega arith
