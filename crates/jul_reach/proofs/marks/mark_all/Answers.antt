use Rattle.std.proofs.Common.{refl, arith}
use Rattle.jul_reach.proofs.MarkLaws.{marked_more}
use Rattle.jul_reach.proofs.marks.mark_all.Goals as goal

pub loop-id-preserved : goal.loop-id-preserved
loop-id-preserved c = marked_more c.args.marks.now c.loop-id.marks c.args.ids.now c.loop-id.id-index _ c.requires.increasing c.loop-id-test.true refl (omega (arith, c.requires.within c.loop-id.id-index 0 c.loop-id-test.true, c.loop-id.auto.marks)) (c.requires.unmarked c.loop-id.id-index 0 c.loop-id-test.true) c.loop-id.invariant
