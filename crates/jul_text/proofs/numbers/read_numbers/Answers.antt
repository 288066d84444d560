use Rattle.std.proofs.Common.{◌+◌, ◌≤◌, subst, sym, arith}
use Rattle.jul_text.proofs.NumberLaws.{AreRead, number_read}
use Rattle.jul_text.proofs.numbers.read_numbers.Goals as goal

pub loop-at-preserved-then-value-from : goal.loop-at-preserved-then-value-from
loop-at-preserved-then-value-from c =
    let small : c.in-Some.value ≤ c.args.bound = omega (arith, c.if-value-from.true, c.from.ensures) in
    record {
      within = omega (arith, c.in-Some.ensures.there);
      read = subst (AreRead c.args.bytes.now c.args.bound (c.in-Some.end + 1)) (sym c.in_ok-push-in-Some.ensures.items)
          (number_read c.args.bytes.now c.args.bound c.loop-at.at c.in-Some.end c.in-Some.value c.loop-at.values.items c.loop-at.invariant.read c.in-Some.ensures.token c.in-Some.ensures.there c.in-Some.ensures.shape small);
    }
