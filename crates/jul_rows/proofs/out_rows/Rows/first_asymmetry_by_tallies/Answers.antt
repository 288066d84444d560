use Rattle.std.proofs.Common.{arith}
use Rattle.jul_rows.proofs.BalanceLaws.{IsFirst-from_row, IsSymmetric-from_rows}
use Rattle.jul_rows.proofs.out_rows.Rows.first_asymmetry_by_tallies.Goals as goal

pub returns-in-Some : goal.returns-in-Some
returns-in-Some c = record {
  first = IsFirst-from_row c.args.self.now c.n.ensures.lawful c.loop-u.u c.in-Some.place c.loop-u.invariant.balanced c.in-Some.ensures.first;
}

pub returns : goal.returns
returns c = record {
  first =
      IsSymmetric-from_rows c.args.self.now c.n.ensures.lawful (λ w lt. c.loop-u.invariant.balanced w (omega (arith, c.loop-u-test.false, c.n-u-end.ensures.count)));
}
