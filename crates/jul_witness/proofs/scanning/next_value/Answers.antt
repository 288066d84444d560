use Rattle.std.proofs.Common.{◌≡◌, ℕ, List, ◌∷◌, Bool, length, slice_range, Option, Some, None, sym, ◌∙◌, ap}
use Rattle.jul_text.specs.declared.tokens.Token.{Token}
use Rattle.jul_text.specs.Tokens.{tokens, tokens_from, word_of}
use Rattle.jul_text.specs.Scanning.{text_at, IsAt}
use Rattle.jul_witness.specs.declared.faults.WitnessKind.TheVariants.{Number}
use Rattle.jul_witness.specs.Roles.{number_of}
use Rattle.jul_witness.specs.Faults.{low_fault}
use Rattle.jul_witness.proofs.RoleLaws.{not_low, is_low}
use Rattle.jul_witness.proofs.ScanningLaws.{text_is, fault_is, truncated_is, clean_more}
use Rattle.jul_witness.proofs.scanning.next_value.Goals as goal

-- the next token as a number, by its bytes
number_is : (bytes : List ℕ) (at j bound : ℕ) (t : Token) (dash : Bool) (o : Option ℕ) → IsAt bytes at j → tokens_from bytes at ≡ word_of bytes t ∷ tokens_from bytes t.end →
    o ≡ number_of dash bound (slice_range bytes t.start t.end) → number_of dash bound (text_at (tokens bytes) j) ≡ o
number_is bytes at j bound t dash o here first e = ap (number_of dash bound) (text_is bytes at j t here first) ∙ sym e

pub returns-in_default-clause-err : goal.returns-in_default-clause-err
returns-in_default-clause-err c =
    truncated_is c.args.heading c.args.bytes.now c.args.place.at c.args.place.token (length c.args.bytes.now) c.fault.result
    c.requires.clean c.in_default.ensures.no_more c.requires.asked c.fault.ensures

pub returns-in_default-number_up_to-clause-err : goal.returns-in_default-number_up_to-clause-err
returns-in_default-number_up_to-clause-err c =
    let number : number_of c.args.rule.dash c.args.rule.bound (text_at (tokens c.args.bytes.now) c.args.place.token) ≡ None =
    number_is c.args.bytes.now c.args.place.at c.args.place.token c.args.rule.bound c.in-Some.token c.args.rule.dash c.number_up_to.result
    c.requires.clean.here c.in-Some.ensures.first c.number_up_to.ensures ∙ c.in_default-number_up_to.is in
    fault_is c.args.heading c.args.bytes.now c.args.place.at c.args.place.token (length c.args.bytes.now) c.in-Some.token Number c.fault-in_default-number_up_to.result
    c.requires.clean c.in-Some.ensures.first (c.requires.ruled ∙ ap (low_fault c.args.rule) number) c.fault-in_default-number_up_to.ensures

pub returns-clause-value : goal.returns-clause-value
returns-clause-value c =
    number_is c.args.bytes.now c.args.place.at c.args.place.token c.args.rule.bound c.in-Some.token c.args.rule.dash c.number_up_to.result
    c.requires.clean.here c.in-Some.ensures.first c.number_up_to.ensures ∙ c.in-Some-number_up_to.is

pub returns-then-value-rule-clause-err : goal.returns-then-value-rule-clause-err
returns-then-value-rule-clause-err c =
    let number : number_of c.args.rule.dash c.args.rule.bound (text_at (tokens c.args.bytes.now) c.args.place.token) ≡ Some c.in-Some-number_up_to.value =
    number_is c.args.bytes.now c.args.place.at c.args.place.token c.args.rule.bound c.in-Some.token c.args.rule.dash c.number_up_to.result
    c.requires.clean.here c.in-Some.ensures.first c.number_up_to.ensures ∙ c.in-Some-number_up_to.is in
    fault_is c.args.heading c.args.bytes.now c.args.place.at c.args.place.token (length c.args.bytes.now) c.in-Some.token c.args.rule.low c.fault-then-value-rule.result
    c.requires.clean c.in-Some.ensures.first
    (c.requires.ruled ∙ ap (low_fault c.args.rule) number ∙ is_low c.args.rule c.in-Some-number_up_to.value c.if-value-rule.true) c.fault-then-value-rule.ensures

pub returns-clause-next : goal.returns-clause-next
returns-clause-next c =
    let number : number_of c.args.rule.dash c.args.rule.bound (text_at (tokens c.args.bytes.now) c.args.place.token) ≡ Some c.in-Some-number_up_to.value =
    number_is c.args.bytes.now c.args.place.at c.args.place.token c.args.rule.bound c.in-Some.token c.args.rule.dash c.number_up_to.result
    c.requires.clean.here c.in-Some.ensures.first c.number_up_to.ensures ∙ c.in-Some-number_up_to.is in
    clean_more c.args.heading c.args.bytes.now c.args.place.at c.args.place.token c.in-Some.token c.requires.clean c.in-Some.ensures.found c.in-Some.ensures.first
    (c.requires.ruled ∙ ap (low_fault c.args.rule) number ∙ not_low c.args.rule c.in-Some-number_up_to.value c.if-value-rule.false)
