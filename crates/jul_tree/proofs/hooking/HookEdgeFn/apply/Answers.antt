use Rattle.std.proofs.Common.{arith}
use Rattle.jul_edge.specs.Edges.{application}
use Rattle.jul_tree.proofs.HookLaws.{lowered_hooks}
use Rattle.jul_tree.proofs.hooking.HookEdgeFn.apply.Goals as goal

pub returns-clause-gives : goal.returns-clause-gives
returns-clause-gives c =
    lowered_hooks c.args.self.now.dist.now c.args.self.now.hop (application c.args._by c.args.u c.args._place c.args.v c.args.w) c.args.hand.now.seat c.lower.new.seat _ c.lower.result
    (omega (arith, c.if-to-from-2.false, c.if-to-from.false, c.from.ensures)) c.key_of.ensures c.lower.ensures.logged
