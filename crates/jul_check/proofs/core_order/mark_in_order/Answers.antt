use Rattle.std.proofs.Common.{refl, arith}
use Rattle.jul_check.proofs.CoreOrderLaws.{entry_at, MarksSoFar-none, MarksSoFar-more, AreMarks-from_all}
use Rattle.jul_check.proofs.core_order.mark_in_order.Goals as goal

pub loop-v-init : goal.loop-v-init
loop-v-init c = MarksSoFar-none c.args.c.now c.args.n c.args.order.now c.in_ok-marks.marks.items (omega (arith, c.in_ok-marks.ensures.len, c.in_ok-marks.marks.ok))

pub get-core-requires : goal.get-core-requires
get-core-requires c = omega (arith, (entry_at c.args.c.now c.args.n c.args.order.now c.requires.order c.loop-v.v-index (0, 0) c.loop-v-test.true).vertex)

pub index_mut-requires : goal.index_mut-requires
index_mut-requires c =
    omega (
      arith,
      (entry_at c.args.c.now c.args.n c.args.order.now c.requires.order c.loop-v.v-index (0, 0) c.loop-v-test.true).vertex,
      c.loop-v.invariant.size,
      c.loop-v.marks.ok,
    )

pub loop-v-preserved : goal.loop-v-preserved
loop-v-preserved c =
    rw
    c.max-greatest.ensures
    (MarksSoFar-more c.args.c.now c.args.n c.args.order.now c.requires.order c.loop-v.v-index c.loop-v.marks.items c.loop-v.greatest c.loop-v.invariant c.loop-v-test.true _ c.get-core.result refl c.get-core.ensures)

pub returns : goal.returns
returns c = record {
  marks = AreMarks-from_all c.args.c.now c.args.n c.args.order.now c.requires.order c.loop-v.v-index c.loop-v.marks.items c.loop-v.greatest c.loop-v.invariant c.loop-v-test.false;
}
