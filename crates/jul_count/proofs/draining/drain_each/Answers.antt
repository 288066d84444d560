use Rattle.jul_count.proofs.DrainLaws.{drain_more}
use Rattle.jul_count.proofs.draining.drain_each.Goals as goal

pub loop-at-preserved : goal.loop-at-preserved
loop-at-preserved c =
    drain_more c.args.seat.now c.loop-at.seat c.drain.new.seat c.args.ids.now c.loop-at.at c.drain.result c.loop-at.list.items c.push.new.self.items
    c.requires.apart c.loop-at-test.true c.requires.few c.requires.alone c.loop-at.invariant.0 c.loop-at.invariant.1
    c.drain.ensures.exact c.drain.ensures.logged c.in_ok-push.ensures.items
