use Rattle.std.proofs.Common.{ℕ, ◌-◌, get_or, refl, arith}
use Rattle.jul_rows.proofs.MirrorLaws.{taken_more}
use Rattle.jul_rows.proofs.mirroring.take_row.Goals as goal

pub loop-w-preserved : goal.loop-w-preserved
loop-w-preserved c =
    let w : ℕ = get_or c.args.row.now c.loop-w.w-index 0 in
    let k : ℕ = w - c.args.from in
    taken_more c.args.u c.args.from c.args.row.now c.args.mirror.now c.args.next.now c.loop-w.next c.loop-w.w-index k (get_or c.loop-w.next k 0) c.loop-w.invariant c.loop-w-test.true
    (omega (arith, c.if-w-least.false)) (omega (arith, c.if-k-next.false, c.loop-w.invariant.size)) refl (omega (arith, c.if-at-mirror.false)) c.if-mirror-at.false
