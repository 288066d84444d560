-- From one token of a witness to the next.
use Rattle.std.proofs.Common.{◌≡◌, ℕ, ◌+◌, ◌*◌, ◌<◌, List, [], ◌∷◌, ◌++◌, length, Option, Some, None, Ok, Err, sym, ◌∙◌, subst, ap, arith}
use Rattle.std.specs.Option.{unwrap_or}
use Rattle.std.proofs.lemmas.List.FromFn.{map-range_with_len_more}
use Rattle.jul_text.specs.declared.tokens.Token.{Token}
use Rattle.jul_text.specs.Tokens.{Word, tokens, tokens_from, word_of, IsNextToken}
use Rattle.jul_text.specs.Scanning.{word_at, text_at, IsAt}
use Rattle.jul_text.proofs.ScanningLaws.{IsFirst, next_first, next_at, no_next}
use Rattle.jul_witness.specs.declared.forms.Heading.{Heading}
use Rattle.jul_witness.specs.declared.faults.WitnessFault.{WitnessFault}
use Rattle.jul_witness.specs.declared.faults.WitnessKind.{WitnessKind}
use Rattle.jul_witness.specs.declared.faults.WitnessKind.TheVariants.{Truncated, Trailing}
use Rattle.jul_witness.specs.Forms.{columns_of}
use Rattle.jul_witness.specs.Roles.{front, all_tokens}
use Rattle.jul_witness.specs.Faults.{kind_at}
use Rattle.jul_witness.specs.Reading.{entry_of, entry_at, column_of, witness_of, read_tokens}
use Rattle.jul_witness.specs.Scanning.{NoneBefore, IsClean}
use Rattle.jul_witness.proofs.RoleLaws.{kind_extra}
use Rattle.jul_witness.proofs.ReadingLaws.{none_more, reads_fault, reads_truncated, reads_whole}

-- the bytes of the next token are those of the token with its number
pub text_is : (bytes : List ℕ) (at j : ℕ) (t : Token) → IsAt bytes at j → tokens_from bytes at ≡ word_of bytes t ∷ tokens_from bytes t.end →
    text_at (tokens bytes) j ≡ (word_of bytes t).text
text_is bytes at j t here first = ap (λ (w : Word). w.text) (next_first bytes at j t here first).word

-- a fault at the next token, where none before it has one
pub fault_is : (heading : Heading) (bytes : List ℕ) (at j len : ℕ) (t : Token) (kind : WitnessKind) (f : WitnessFault) → IsClean heading bytes at j →
    tokens_from bytes at ≡ word_of bytes t ∷ tokens_from bytes t.end → kind_at heading (tokens bytes) j ≡ Some kind →
    f ≡ record { kind = kind; token = j; at = t.start } → read_tokens (tokens bytes) len ≡ Err f
fault_is heading bytes at j len t kind f clean first is e =
    let there : IsFirst (tokens bytes) j (word_of bytes t) (tokens_from bytes t.end) = next_first bytes at j t clean.here first in
    let start : t.start ≡ (word_at (tokens bytes) j).start = sym (ap (λ (w : Word). w.start) there.word) in
    let made : f ≡ record { kind = kind; token = j; at = (word_at (tokens bytes) j).start } = e ∙ ap (λ (s : ℕ). record { kind = kind; token = j; at = s }) start in
    reads_fault heading (tokens bytes) len j kind clean.word clean.none there.there is ∙ ap (λ (x : WitnessFault). Err x) (sym made)

-- tokens are missing
pub truncated_is : (heading : Heading) (bytes : List ℕ) (at j len : ℕ) (f : WitnessFault) → IsClean heading bytes at j → tokens_from bytes at ≡ [] →
    j < all_tokens heading (tokens bytes) → f ≡ record { kind = Truncated; token = j; at = len } → read_tokens (tokens bytes) len ≡ Err f
truncated_is heading bytes at j len f clean nothing asked e =
    let end : length (tokens bytes) ≡ j = no_next bytes at j clean.here nothing in
    let none : NoneBefore heading (tokens bytes) (length (tokens bytes)) = subst (NoneBefore heading (tokens bytes)) (sym end) clean.none in
    let made : record { kind = Truncated; token = length (tokens bytes); at = len } ≡ f = ap (λ (k : ℕ). record { kind = Truncated; token = k; at = len }) end ∙ sym e in
    reads_truncated heading (tokens bytes) len (omega (arith, end, clean.begun)) clean.word none (omega (arith, end, asked)) ∙ ap (λ (x : WitnessFault). Err x) made

-- one more token without a fault
pub clean_more : (heading : Heading) (bytes : List ℕ) (at j : ℕ) (t : Token) → IsClean heading bytes at j → IsNextToken bytes at t →
    tokens_from bytes at ≡ word_of bytes t ∷ tokens_from bytes t.end → kind_at heading (tokens bytes) j ≡ None → IsClean heading bytes t.end (j + 1)
clean_more heading bytes at j t clean next first none = record {
  here = next_at bytes at j t clean.here next first;
  begun = omega arith;
  word = clean.word;
  none = none_more heading (tokens bytes) j clean.none none;
}

-- every token was read
pub whole_is : (heading : Heading) (bytes : List ℕ) (at j len : ℕ) → IsClean heading bytes at j → j ≡ all_tokens heading (tokens bytes) → tokens_from bytes at ≡ [] →
    read_tokens (tokens bytes) len ≡ Ok (witness_of heading (tokens bytes))
whole_is heading bytes at j len clean last nothing =
    let end : length (tokens bytes) ≡ j = no_next bytes at j clean.here nothing in
    reads_whole heading (tokens bytes) len clean.word (subst (NoneBefore heading (tokens bytes)) (sym end) clean.none) (end ∙ last)

pub trailing_is : (heading : Heading) (bytes : List ℕ) (at j len : ℕ) (t : Token) (f : WitnessFault) → IsClean heading bytes at j → j ≡ all_tokens heading (tokens bytes) →
    tokens_from bytes at ≡ word_of bytes t ∷ tokens_from bytes t.end → f ≡ record { kind = Trailing; token = j; at = t.start } →
    read_tokens (tokens bytes) len ≡ Err f
trailing_is heading bytes at j len t f clean last first e = fault_is heading bytes at j len t Trailing f clean first (kind_extra heading (tokens bytes) j last) e

-- ---- columns

-- one more number of a column
pub column_pushed : (heading : Heading) (ws : List Word) (k v column j x : ℕ) (old new : List ℕ) → columns_of heading.form ≡ k → j ≡ front heading ws + k * v + column →
    entry_of heading.form (text_at ws j) ≡ Some x → old ≡ column_of heading ws v column → new ≡ old ++ x ∷ [] → new ≡ column_of heading ws (v + 1) column
column_pushed heading ws k v column j x old new width place entry before pushed =
    let here : front heading ws + columns_of heading.form * v + column ≡ j = ap (λ (c : ℕ). front heading ws + c * v + column) width ∙ sym place in
    let value : entry_at heading ws column v ≡ x = ap (λ (i : ℕ). unwrap_or (entry_of heading.form (text_at ws i)) 0) here ∙ ap (λ (o : Option ℕ). unwrap_or o 0) entry in
    let more : column_of heading ws (v + 1) column ≡ column_of heading ws v column ++ x ∷ [] =
    map-range_with_len_more (entry_at heading ws column) 0 v v (omega arith) ∙ ap (λ (y : ℕ). column_of heading ws v column ++ y ∷ []) value in
    pushed ∙ ap (λ (xs : List ℕ). xs ++ x ∷ []) before ∙ sym more
