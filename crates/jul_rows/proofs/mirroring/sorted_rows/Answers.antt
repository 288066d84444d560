use Rattle.std.proofs.Common.{◌≡◌, subst, arith}
use Rattle.jul_rows.specs.Mirrors.{IsRearranged}
use Rattle.jul_rows.proofs.mirroring.sorted_rows.Goals as goal

pub returns : goal.returns
returns c =
    let end : c.loop-v.v ≡ c.args.to = omega (arith, c.loop-v-test.false, c.loop-v.auto.v-end) in
    subst (λ k. IsRearranged c.args.rows.now c.args.from k c.loop-v.sorted.items) end c.loop-v.invariant
