-- Lists of sources: a number more in an increasing list, and the parts of a text one after another.
use Rattle.std.proofs.Common.{◌≡◌, ℕ, zero, suc, ◌+◌, ◌<◌, ◌≤◌, Bool, true, false, eqb, nat_le, if◌then◌else◌, List, [], ◌∷◌, length, get_or, drop, fold, Option, Some, None, Result, Ok, Err, IfNone, IfSome, sym, ◌∙◌, ap, subst, refl, arith, add-one, inl, inr}
use Rattle.std.specs.List.{insert}
use Rattle.std.specs.List.Sorted.{IsStrictlyIncreasing, IsBinarySearchResult}
use Rattle.std.specs.Ordering.{nat_cmp}
use Rattle.std.specs.Result.{result_err}
use Rattle.std.specs.Option.{option_map, option_and_then}
use Rattle.std.proofs.lemmas.Bool.{cases_lt, cases_order}
use Rattle.std.proofs.lemmas.Bool.Decides.{nat_tests}
use Rattle.std.proofs.lemmas.List.{at_drop_more}
use Rattle.std.proofs.lemmas.List.Splits.{length-slice_split}
use Rattle.std.proofs.lemmas.List.Kept.{AllPairs-from_increasing}
use Rattle.std.proofs.lemmas.List.Sorted.{searched}
use Rattle.clap.specs.Words.{Text}
use Rattle.jul_base.specs.Sources.{AreNamedSources}
use Rattle.jul_query.specs.Numbers.{source_number}
use Rattle.jul_query.specs.Words.{parts_of, numbers_of, with_number, distinct, sources_in}

-- ---- a number more

module _ (first : ℕ) (rest : List ℕ) (number : ℕ) where
  with_greater : first < number → with_number (first ∷ rest) number ≡ first ∷ with_number rest number
  with_greater above = grind (arith, nat_tests)

  with_same : first ≡ number → with_number (first ∷ rest) number ≡ first ∷ rest
  with_same same = grind (arith, nat_tests)

  with_less : number < first → with_number (first ∷ rest) number ≡ number ∷ first ∷ rest
  with_less below = grind (arith, nat_tests)

-- a list that has the number stays
pub with_number-there : (xs : List ℕ) (number i : ℕ) → i < length xs → get_or xs i 0 ≡ number → ((k : ℕ) → k < i → get_or xs k 0 < number)
    → with_number xs number ≡ xs
with_number-there [] number i lt is below = absurd (omega arith)
with_number-there (x ∷ xs) number zero lt is below = with_same x xs number is
with_number-there (x ∷ xs) number (suc i) lt is below =
    with_greater x xs number (below 0 (omega arith)) ∙ ap (λ ys. x ∷ ys) (with_number-there xs number i (omega arith) is (λ k less. below (suc k) (omega arith)))

-- a new number stands behind the lesser ones and before the greater ones
pub with_number-new : (xs : List ℕ) (number i : ℕ) → i ≤ length xs → ((k : ℕ) → k < i → get_or xs k 0 < number)
    → ((k : ℕ) → i ≤ k → k < length xs → number < get_or xs k 0) → with_number xs number ≡ insert xs i number
with_number-new [] number zero le below above = refl
with_number-new [] number (suc i) le below above = absurd (omega arith)
with_number-new (x ∷ xs) number zero le below above = with_less x xs number (above 0 (omega arith) (omega arith))
with_number-new (x ∷ xs) number (suc i) le below above =
    with_greater x xs number (below 0 (omega arith))
    ∙ ap (λ ys. x ∷ ys) (with_number-new xs number i (omega arith) (λ k less. below (suc k) (omega arith)) (λ k from lt. above (suc k) (omega arith) (omega arith)))

-- ---- such a list increases

-- the first number of a list, if any, is above
abbrev IsBelowFirst : ℕ → List ℕ → Type 0
IsBelowFirst x xs = 0 < length xs → x < get_or xs 0 0

increasing-cons : (x : ℕ) (xs : List ℕ) → IsBelowFirst x xs → IsStrictlyIncreasing xs → IsStrictlyIncreasing (x ∷ xs)
increasing-cons x xs first up zero lt = first (omega arith)
increasing-cons x xs first up (suc k) lt = rw add-one (rw add-one at (up k (omega arith)))

increasing-rest : (x : ℕ) (xs : List ℕ) → IsStrictlyIncreasing (x ∷ xs) → IsStrictlyIncreasing xs
increasing-rest x xs up k lt = rw add-one (rw add-one at (up (suc k) (omega arith)))

increasing-first : (x : ℕ) (xs : List ℕ) → IsStrictlyIncreasing (x ∷ xs) → IsBelowFirst x xs
increasing-first x xs up some = up 0 (omega arith)

below_first-with : (x : ℕ) (xs : List ℕ) (number : ℕ) → x < number → IsBelowFirst x xs → IsBelowFirst x (with_number xs number)
below_first-with x [] number less first some = less
below_first-with x (y ∷ ys) number less first some =
    elim (cases_order y number) [
      | inl same ↦ rw (with_same y ys number same) (first (omega arith))
      | inr (inl above) ↦ rw (with_greater y ys number above) (first (omega arith))
      | inr (inr below) ↦ rw (with_less y ys number below) less
    ]

pub IsStrictlyIncreasing-with_number : (xs : List ℕ) (number : ℕ) → IsStrictlyIncreasing xs → IsStrictlyIncreasing (with_number xs number)
IsStrictlyIncreasing-with_number [] number up = λ k lt. absurd (omega arith)
IsStrictlyIncreasing-with_number (x ∷ xs) number up =
    let rest : IsStrictlyIncreasing xs = increasing-rest x xs up in
    let P : List ℕ → Type 0 = IsStrictlyIncreasing in
    elim (cases_order x number) [
      | inl same ↦ subst P (sym (with_same x xs number same)) up
      | inr (inl above) ↦
          subst P (sym (with_greater x xs number above))
          (increasing-cons x (with_number xs number) (below_first-with x xs number above (increasing-first x xs up)) (IsStrictlyIncreasing-with_number xs number rest))
      | inr (inr below) ↦ subst P (sym (with_less x xs number below)) (increasing-cons number (x ∷ xs) (λ some. below) up)
    ]

-- one number at most is new, and there is one at least
pub length-with_number : (xs : List ℕ) (number : ℕ) → (1 ≤ length (with_number xs number)) × (length (with_number xs number) ≤ length xs + 1)
length-with_number [] number = (omega arith, omega arith)
length-with_number (x ∷ xs) number =
    elim (cases_order x number) [
      | inl same ↦ rw (with_same x xs number same) (omega arith, omega arith)
      | inr (inl above) ↦
          let rest = length-with_number xs number in
          rw (with_greater x xs number above) (omega arith, omega (arith, rest.1))
      | inr (inr below) ↦ rw (with_less x xs number below) (omega arith, omega arith)
    ]

-- ---- what a search in it finds

rising : (xs : List ℕ) → IsStrictlyIncreasing xs → (i j : ℕ) → i ≤ j → j < length xs → get_or xs i 0 ≤ get_or xs j 0
rising xs up i j le lt =
    elim (cases_order i j) [
      | inl same ↦ omega (arith, ap (λ (k : ℕ). get_or xs k 0) same)
      | inr (inl less) ↦ omega (arith, AllPairs-from_increasing xs up i j 0 less lt)
      | inr (inr more) ↦ absurd (omega arith)
    ]

-- the place of a new number, or None where the list has the number
pub record IsPlaceOf (xs : List ℕ) (number : ℕ) (found : Option ℕ) : Type 0 where
  pub there : IfNone found (with_number xs number ≡ xs)
  pub within : IfSome found (λ i. i ≤ length xs)
  pub place : IfSome found (λ i. with_number xs number ≡ insert xs i number)

pub IsPlaceOf-found : (xs : List ℕ) (number : ℕ) (r : Result ℕ ℕ) → IsStrictlyIncreasing xs → IsBinarySearchResult (λ y. nat_cmp y number) xs r
    → IsPlaceOf xs number (result_err r)
IsPlaceOf-found xs number (Ok i) up found =
    let at = searched xs number (Ok i) found (rising xs up) in
    record {
      there = with_number-there xs number i at.0 at.1 (λ k less. omega (arith, AllPairs-from_increasing xs up k i 0 less at.0, at.1));
      within = tt;
      place = tt;
    }
IsPlaceOf-found xs number (Err i) up found =
    let at = searched xs number (Err i) found (rising xs up) in
    record { there = tt; within = at.0; place = with_number-new xs number i at.0 at.1 at.2 }

-- ---- the parts of a text

-- what the parts that are left make of the sources so far
abbrev pub onward : List ℕ → List Text → Option (List ℕ)
onward sources parts = option_map (fold with_number sources) (numbers_of parts)

onward-number : (sources : List ℕ) (number : ℕ) (numbers : Option (List ℕ))
    → option_map (fold with_number sources) (option_map (λ ns. number ∷ ns) numbers) ≡ option_map (fold with_number (with_number sources number)) numbers
onward-number sources number None = refl
onward-number sources number (Some numbers) = refl

module _ (sources : List ℕ) (parts : List Text) (i : ℕ) (part : Text) (lt : i < length parts) (at : part ≡ get_or parts i part) where
  next_part : drop i parts ≡ part ∷ drop (i + 1) parts
  next_part = at_drop_more (λ (ps : List Text). ps) parts i part lt ∙ ap (λ (p : Text). p ∷ drop (i + 1) parts) (sym at)

  pub onward-none : source_number part ≡ None → onward sources (drop i parts) ≡ None
  onward-none none = ap (onward sources) next_part ∙ rw none refl

  pub onward-some : (number : ℕ) → source_number part ≡ Some number → onward sources (drop i parts) ≡ onward (with_number sources number) (drop (i + 1) parts)
  onward-some number some = ap (onward sources) next_part ∙ rw some (onward-number sources number (numbers_of (drop (i + 1) parts)))

-- ---- a whole text

within : (n : ℕ) (asked : Option (List ℕ)) → n ≤ 1024 → (if nat_le n 1024 then asked else None) ≡ asked
within n asked few = grind (arith, nat_tests)

beyond : (n : ℕ) (asked : Option (List ℕ)) → 1024 < n → (if nat_le n 1024 then asked else None) ≡ None
beyond n asked many = grind (arith, nat_tests)

either : (test : Bool) (asked : Option (List ℕ)) → asked ≡ None → (if test then asked else None) ≡ None
either true asked none = none
either false asked none = refl

pub too_long : (text : Text) → 1024 < length (parts_of text) → sources_in text ≡ None
unfolding sources_in
too_long text many = beyond _ _ many

pub no_sources : (text : Text) → onward [] (parts_of text) ≡ None → sources_in text ≡ None
unfolding sources_in
no_sources text none = either _ _ none

pub all_sources : (text : Text) (sources : List ℕ) → length (parts_of text) ≤ 1024 → onward [] (parts_of text) ≡ Some sources → sources_in text ≡ Some sources
unfolding sources_in
all_sources text sources few some = within _ _ few ∙ some

-- ---- the sources of a text are named sources

increasing-onward : (numbers sources : List ℕ) → IsStrictlyIncreasing sources → IsStrictlyIncreasing (fold with_number sources numbers)
increasing-onward [] sources up = up
increasing-onward (n ∷ ns) sources up = increasing-onward ns (with_number sources n) (IsStrictlyIncreasing-with_number sources n up)

few-onward : (numbers sources : List ℕ) → length (fold with_number sources numbers) ≤ length sources + length numbers
few-onward [] sources = omega arith
few-onward (n ∷ ns) sources = omega (arith, few-onward ns (with_number sources n), (length-with_number sources n).1)

some-onward : (numbers sources : List ℕ) → 1 ≤ length sources → 1 ≤ length (fold with_number sources numbers)
some-onward [] sources some = some
some-onward (n ∷ ns) sources some = some-onward ns (with_number sources n) (length-with_number sources n).0

AreNamedSources-distinct : (numbers : List ℕ) → 1 ≤ length numbers → length numbers ≤ 1024 → AreNamedSources (distinct numbers)
AreNamedSources-distinct [] some few = absurd (omega arith)
AreNamedSources-distinct (n ∷ ns) some few = record {
  some = some-onward ns (n ∷ []) (omega arith);
  few = omega (arith, few-onward ns (n ∷ []));
  increasing = increasing-onward ns (n ∷ []) (λ k lt. absurd (omega arith));
}

length-cons : (number : Option ℕ) (rest : Option (List ℕ)) (numbers : List ℕ) (n : ℕ) → ((ns : List ℕ) → rest ≡ Some ns → length ns ≡ n)
    → option_and_then (λ x. option_map (λ ns. x ∷ ns) rest) number ≡ Some numbers → length numbers ≡ n + 1
length-cons None rest numbers n same some = absurd (cc)
length-cons (Some x) None numbers n same some = absurd (cc)
length-cons (Some x) (Some ns) numbers n same some =
    let is : x ∷ ns ≡ numbers = cc in
    omega (arith, same ns refl, ap length is)

length-numbers_of : (parts : List Text) (numbers : List ℕ) → numbers_of parts ≡ Some numbers → length numbers ≡ length parts
length-numbers_of [] numbers some =
    let is : [] ≡ numbers = cc in
    omega (arith, ap length is)
length-numbers_of (part ∷ parts) numbers some =
    omega (arith, length-cons (source_number part) (numbers_of parts) numbers (length parts) (length-numbers_of parts) some)

named_of_numbers : (parts : List Text) (numbers : Option (List ℕ)) (sources : List ℕ) → numbers_of parts ≡ numbers → 1 ≤ length parts → length parts ≤ 1024
    → option_map distinct numbers ≡ Some sources → AreNamedSources sources
named_of_numbers parts None sources are some few is = absurd (cc)
named_of_numbers parts (Some numbers) sources are some few is =
    let same : distinct numbers ≡ sources = cc in
    let P : List ℕ → Type 0 = AreNamedSources in
    let count = length-numbers_of parts numbers are in
    subst P same (AreNamedSources-distinct numbers (omega (arith, count)) (omega (arith, count)))

pub AreNamedSources-in : (text : Text) (sources : List ℕ) → sources_in text ≡ Some sources → AreNamedSources sources
unfolding sources_in
AreNamedSources-in text sources is =
    let parts = parts_of text in
    elim (cases_lt 1024 (length parts)) [
      | inl many ↦ let none = beyond (length parts) (option_map distinct (numbers_of parts)) many in absurd (cc)
      | inr few ↦
          named_of_numbers parts (numbers_of parts) sources refl (omega (arith, length-slice_split (λ byte. eqb byte 44) text)) few
          (sym (within (length parts) (option_map distinct (numbers_of parts)) few) ∙ is)
    ]
