use Rattle.jul_cover.proofs.PackingLaws.{packed_more}
use Rattle.jul_cover.proofs.packing.pack_each.Goals as goal

pub loop-s-preserved : goal.loop-s-preserved
loop-s-preserved c =
    packed_more c.as_slice-by.result.now c.args.listed.now c.loop-s.s-index c.args.p.now c.loop-s.p c.pack_one.new.p c.loop-s-test.true c.loop-s.invariant
    c.pack_one.ensures.n c.pack_one.ensures.packed c.pack_one.ensures.here c.pack_one.ensures.other
