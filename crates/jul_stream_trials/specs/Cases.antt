-- The cases of an input: graph files, each with the most bytes that it may have.
use Rattle.std.specs.Prelude.{ℕ, ◌+◌, ◌≤◌, zero, suc, List, [], ◌∷◌, length, slice_range, nat_le, Option, Some, None, if◌then◌else◌}
use Rattle.std.specs.Option.{option_map, option_and_then}
use Rattle.jul_base.specs.declared.limits.TheConstants.{MAX_BYTES}
use Rattle.jul_text.specs.declared.numerals.Numeral.{Numeral}
use Rattle.jul_text.specs.declared.numerals.Numeral.TheVariants.{Value}
use Rattle.jul_text.specs.Tokens.{Word, tokens_from}
use Rattle.jul_text.specs.Numerals.{numeral}
use Rattle.jul_stream_trials.specs.declared.cases.Number.{Number}
use Rattle.jul_stream_trials.specs.declared.cases.Case.{Case}

-- a token before this place as a number
abbrev pub number_of : Numeral → ℕ → Option Number
number_of (Value v) end = Some (record { value = v; end = end })
number_of _ end = None

-- the first of these tokens as a number
abbrev pub first_number : List Word → Option Number
first_number [] = None
first_number (w ∷ ws) = number_of (numeral w.text MAX_BYTES) (w.start + length w.text)

-- the number that is the next token at or behind a place
abbrev pub number_from : List ℕ → ℕ → Option Number
number_from input at = first_number (tokens_from input at)

-- the case whose file has so many bytes from a place on, where there are so many
abbrev pub case_at : List ℕ → ℕ → ℕ → ℕ → Option Case
case_at input limit start size =
    if nat_le (start + size) (length input) then Some (record { limit = limit; start = start; end = start + size })
    else None

-- the limit, the size, a white byte and the file
abbrev pub case_from : List ℕ → ℕ → Option Case
case_from input at =
    option_and_then (λ limit.
    option_and_then (λ size. case_at input limit.value (size.end + 1) size.value) (number_from input limit.end))
    (number_from input at)

-- no cases, where no token is left
abbrev pub end_of_cases : List Word → Option (List Case)
end_of_cases [] = Some []
end_of_cases (w ∷ ws) = None

-- so many cases from a place on, and nothing behind them
abbrev pub cases_from : List ℕ → ℕ → ℕ → Option (List Case)
cases_from input at zero = end_of_cases (tokens_from input at)
cases_from input at (suc count) =
    option_and_then (λ c. option_map (λ cs. c ∷ cs) (cases_from input c.end count)) (case_from input at)

-- how many cases there are, and these
abbrev pub cases_of : List ℕ → Option (List Case)
cases_of input = option_and_then (λ count. cases_from input count.end count.value) (number_from input 0)

-- the file of a case
abbrev pub file_of : List ℕ → Case → List ℕ
file_of input c = slice_range input c.start c.end

-- a case lies within its input
pub record IsWithin (input : List ℕ) (c : Case) : Type 0 where
  pub rising : c.start ≤ c.end
  pub within : c.end ≤ length input
  pub limit : c.limit ≤ MAX_BYTES
