-- The cases of an input, one after another.
use Rattle.std.proofs.Common.{◌≡◌, ℕ, suc, List, [], ◌∷◌, ◌++◌, Option, Some, None, refl, sym, ◌∙◌, ap}
use Rattle.std.specs.Option.{option_map, option_and_then}
use Rattle.std.proofs.lemmas.List.{append_assoc}
use Rattle.jul_stream_trials.specs.declared.cases.Case.{Case}
use Rattle.jul_stream_trials.specs.Cases.{case_from, cases_from}

-- some cases, and so many more from a place on
abbrev pub cases_behind : List ℕ → List Case → ℕ → ℕ → Option (List Case)
cases_behind input cases at count = option_map (λ cs. cases ++ cs) (cases_from input at count)

-- the cases from a place on, the first of which was looked for
abbrev with_first : List ℕ → ℕ → Option Case → Option (List Case)
with_first input count first = option_and_then (λ c. option_map (λ cs. c ∷ cs) (cases_from input c.end count)) first

put_behind : (cases : List Case) (c : Case) (more : Option (List Case)) →
    option_map (λ cs. cases ++ cs) (option_map (λ cs. c ∷ cs) more) ≡ option_map (λ cs. (cases ++ (c ∷ [])) ++ cs) more
put_behind cases c None = refl
put_behind cases c (Some cs) = ap Some (sym (append_assoc cases (c ∷ []) cs))

-- one more case
pub case_taken : (input : List ℕ) (cases : List Case) (at count : ℕ) (c : Case) → case_from input at ≡ Some c →
    cases_behind input cases at (suc count) ≡ cases_behind input (cases ++ (c ∷ [])) c.end count
case_taken input cases at count c e =
    ap (λ (o : Option Case). option_map (λ cs. cases ++ cs) (with_first input count o)) e ∙ put_behind cases c (cases_from input c.end count)

-- no case, where one is to be
pub case_missing : (input : List ℕ) (cases : List Case) (at count : ℕ) → case_from input at ≡ None → cases_behind input cases at (suc count) ≡ None
case_missing input cases at count e = ap (λ (o : Option Case). option_map (λ cs. cases ++ cs) (with_first input count o)) e
