use Rattle.std.proofs.Common.{◌≡◌, ◌+◌, ◌-◌, ◌<◌, true, false, length, get_or, sym, ◌∙◌, ap, arith, inl, inr}
use Rattle.std.specs.Char.{is_ascii_digit}
use Rattle.std.proofs.lemmas.Bool.{cases_lt}
use Rattle.core.proofs.slice.Prefixes.{drop_more, prefix_len-drop_yes}
use Rattle.core.proofs.dec2flt.DigitsLemmas.{HasRead_more, is_digit, digit_range}
use Rattle.jul_text.specs.Tokens.{is_white}
use Rattle.jul_text.proofs.ShapeLaws.{digit_not_white}
use Rattle.jul_text.proofs.numbers.closed_digits.Goals as goal

-- a digit isn't the last byte, which is white
pub loop-value-preserved : goal.loop-value-preserved
loop-value-preserved c =
    let bs = c.args.bytes.now in
    let at = c.loop-value.at in
    let inside : at < length bs = c.loop-value.invariant.there in
    let digit : is_ascii_digit (get_or bs at 0) ≡ true = sym c.loop-value-test.ensures.value in
    let range = digit_range (get_or bs at 0) digit in
    let d = is_digit (get_or bs at 0) range.0 (omega (arith, range.1)) in
    record {
      there = elim (cases_lt (at + 1) (length bs)) [
        | inl lt ↦ lt
        | inr le ↦
            let last : length bs - 1 ≡ at = omega (arith, le, inside) in
            let white : is_white (get_or bs at 0) ≡ true = ap (λ k. is_white (get_or bs k 0)) (sym last) ∙ c.requires.white (omega (arith, inside)) in
            let no : false ≡ true = sym (digit_not_white (get_or bs at 0) digit) ∙ white in
            absurd (cc)
      ];
      read =
          HasRead_more bs _ _ at _ 1 _ c.loop-value.invariant.read (omega (arith, inside)) (prefix_len-drop_yes is_ascii_digit bs at 0 inside digit)
          (rw (drop_more bs at 0 inside) (omega (arith, d.1, c.from.ensures)));
    }
