-- The first token that has a fault decides.
use Rattle.std.proofs.Common.{◌≡◌, ℕ, zero, suc, ◌+◌, ◌-◌, ◌<◌, ◌≤◌, List, [], ◌∷◌, length, Some, None, Ok, Err, ◌∙◌, refl, ap, arith, inl, inr}
use Rattle.std.specs.List.{filter_map, range_with_len, cons_option}
use Rattle.std.proofs.lemmas.Bool.{cases_eq, lt-ltb, le-ltb, cond-true, cond-false}
use Rattle.jul_text.specs.Tokens.{Word}
use Rattle.jul_text.specs.Scanning.{word_at, text_at}
use Rattle.jul_witness.specs.declared.forms.Heading.{Heading}
use Rattle.jul_witness.specs.declared.faults.WitnessFault.{WitnessFault}
use Rattle.jul_witness.specs.declared.faults.WitnessKind.{WitnessKind}
use Rattle.jul_witness.specs.declared.faults.WitnessKind.TheVariants.{Truncated}
use Rattle.jul_witness.specs.Forms.{heading_of}
use Rattle.jul_witness.specs.Roles.{all_tokens}
use Rattle.jul_witness.specs.Faults.{kind_at, fault_at, with_place, faults}
use Rattle.jul_witness.specs.Reading.{witness_of, decided, by_heading, read_tokens}
use Rattle.jul_witness.specs.Scanning.{NoneBefore}
use Rattle.jul_witness.proofs.RoleLaws.{two_before_front}

pub none_more : (heading : Heading) (ws : List Word) (j : ℕ) → NoneBefore heading ws j → kind_at heading ws j ≡ None → NoneBefore heading ws (j + 1)
none_more heading ws j before here k lt = elim (cases_eq k j) [ inl e ↦ ap (kind_at heading ws) e ∙ here | inr ne ↦ before k (omega arith) ]

-- the faults of n tokens from a on
abbrev faults_in : Heading → List Word → ℕ → ℕ → List WitnessFault
faults_in heading ws a n = filter_map (fault_at heading ws) (range_with_len a n)

-- tokens without a fault at the front add none
passed : (heading : Heading) (ws : List Word) (n a m t : ℕ) → t ≡ n + m → ((k : ℕ) → a ≤ k → k < a + n → kind_at heading ws k ≡ None) →
    faults_in heading ws a t ≡ faults_in heading ws (a + n) m
passed heading ws zero a m t e none =
    let e' : t ≡ m = omega arith in
    let a' : a ≡ a + 0 = omega arith in
    ap (faults_in heading ws a) e' ∙ ap (λ k. faults_in heading ws k m) a'
passed heading ws (suc n) a m t e none =
    let e' : t ≡ suc (n + m) = omega arith in
    let a' : (a + 1) + n ≡ a + suc n = omega arith in
    let here : fault_at heading ws a ≡ None = ap (with_place ws a) (none a (omega arith) (omega arith)) in
    ap (faults_in heading ws a) e'
    ∙ ap (λ o. cons_option o (faults_in heading ws (a + 1) (n + m))) here
    ∙ passed heading ws n (a + 1) m (n + m) refl (λ k low high. none k (omega arith) (omega arith))
    ∙ ap (λ k. faults_in heading ws k m) a'

faults_none : (heading : Heading) (ws : List Word) → NoneBefore heading ws (length ws) → faults heading ws ≡ []
faults_none heading ws none = passed heading ws (length ws) 0 0 (length ws) (omega arith) (λ k low high. none k (omega arith))

faults_first : (heading : Heading) (ws : List Word) (j : ℕ) (kind : WitnessKind) → NoneBefore heading ws j → j < length ws → kind_at heading ws j ≡ Some kind →
    faults heading ws ≡ record { kind = kind; token = j; at = (word_at ws j).start } ∷ faults_in heading ws (j + 1) (length ws - j - 1)
faults_first heading ws j kind none lt here =
    let j' : 0 + j ≡ j = omega arith in
    passed heading ws j 0 (suc (length ws - j - 1)) (length ws) (omega arith) (λ k low high. none k (omega arith))
    ∙ ap (λ k. faults_in heading ws k (suc (length ws - j - 1))) j'
    ∙ ap (λ o. cons_option o (faults_in heading ws (j + 1) (length ws - j - 1))) (ap (with_place ws j) here)

-- ---- by the word in front

by_word : (ws : List Word) (len : ℕ) → 0 < length ws → read_tokens ws len ≡ by_heading ws len (heading_of (text_at ws 0))
by_word [] len some = absurd (omega arith)
by_word (w ∷ ws) len some = refl

with_heading : (heading : Heading) (ws : List Word) (len : ℕ) → 0 < length ws → heading_of (text_at ws 0) ≡ Some heading → read_tokens ws len ≡ decided heading ws len (faults heading ws)
with_heading heading ws len some word = by_word ws len some ∙ ap (by_heading ws len) word

pub reads_fault : (heading : Heading) (ws : List Word) (len j : ℕ) (kind : WitnessKind) → heading_of (text_at ws 0) ≡ Some heading → NoneBefore heading ws j → j < length ws →
    kind_at heading ws j ≡ Some kind → read_tokens ws len ≡ Err (record { kind = kind; token = j; at = (word_at ws j).start })
reads_fault heading ws len j kind word none lt here =
    with_heading heading ws len (omega arith) word ∙ ap (decided heading ws len) (faults_first heading ws j kind none lt here)

pub reads_truncated : (heading : Heading) (ws : List Word) (len : ℕ) → 0 < length ws → heading_of (text_at ws 0) ≡ Some heading → NoneBefore heading ws (length ws) →
    length ws < all_tokens heading ws → read_tokens ws len ≡ Err (record { kind = Truncated; token = length ws; at = len })
reads_truncated heading ws len some word none lt =
    with_heading heading ws len some word ∙ ap (decided heading ws len) (faults_none heading ws none) ∙ cond-true _ _ _ (lt-ltb (length ws) (all_tokens heading ws) lt)

pub reads_whole : (heading : Heading) (ws : List Word) (len : ℕ) → heading_of (text_at ws 0) ≡ Some heading → NoneBefore heading ws (length ws) →
    length ws ≡ all_tokens heading ws → read_tokens ws len ≡ Ok (witness_of heading ws)
reads_whole heading ws len word none e =
    with_heading heading ws len (omega (arith, e, two_before_front heading ws)) word
    ∙ ap (decided heading ws len) (faults_none heading ws none) ∙ cond-false _ _ _ (le-ltb (length ws) (all_tokens heading ws) (omega (arith, e)))
