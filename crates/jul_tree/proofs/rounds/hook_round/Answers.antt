use Rattle.jul_tree.proofs.HookLaws.{round_hooked}
use Rattle.jul_tree.proofs.rounds.hook_round.Goals as goal

pub returns-clause-hooked : goal.returns-clause-hooked
returns-clause-hooked g c =
    round_hooked c.in_ok-out.out.direction c.args.rows.now c.args.from.now.members c.args.dist.now c.args.hops.now c.args.hop c.args.seat c.in_ok-out.out.token.seat c.in_ok-out.out.subset
    c.n-2.ensures.lawful c.in_ok-out.ensures.made.mapped c.in_ok-out.ensures.made.parts c.in_ok-out.ensures.made.home c.in_ok-out.ensures.made.root c.in_ok-out.ensures.made.none_out
