use Rattle.jul_adj.proofs.CuttingLaws.{can_read, all_read}
use Rattle.jul_adj.proofs.cutting.read_together.Goals as goal

pub run_all-requires-clause-condition : goal.run_all-requires-clause-condition
run_all-requires-clause-condition g c κs within chunk lt = can_read c.args.bytes.now c.args.points.now c.args.pieces c.requires.some c.requires.points c.requires.white chunk lt

pub returns : goal.returns
returns g c = all_read c.args.bytes.now c.args.points.now c.args.pieces c.args.bound _ _ c.in_ok-done.done.outs.items c.in_ok-done.done.order c.in_ok-done.ensures.each_once
