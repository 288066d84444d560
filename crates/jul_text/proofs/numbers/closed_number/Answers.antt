use Rattle.std.proofs.Common.{rules, ◌+◌, ◌-◌, ◌*◌, ◌%◌, ◌^◌, ◌∙◌, ap, arith}
use Rattle.std.proofs.Common.{slice_range}
use Rattle.std.specs.Str.Parse.{digits_value}
use Rattle.jul_text.proofs.ShapeLaws.{IsRun, run_token, run_shape}
use Rattle.jul_text.proofs.numbers.closed_number.Goals as goal

pub returns-then-is_white_byte : goal.returns-then-is_white_byte
returns-then-is_white_byte c =
    let run : IsRun c.args.bytes.now c.args.start c.closed_digits-end.result.0 c.closed_digits-end.result.1 = record {
      run = c.closed_digits-end.ensures.end;
      some = c.if-start-end.true;
      short = c.if-end-start-le19.true;
      there = c.closed_digits-end.ensures.within;
      white = search rules;
      value = c.closed_digits-end.ensures.value ∙ ap (λ v. v % 2 ^ 64) {y = 0 * 10 ^ (c.closed_digits-end.result.0 - c.args.start) + digits_value 10 (slice_range c.args.bytes.now c.args.start c.closed_digits-end.result.0)} (omega arith);
    } in
    record { token = run_token _ _ _ _ run; there = run.there; shape = run_shape _ _ _ _ run }
