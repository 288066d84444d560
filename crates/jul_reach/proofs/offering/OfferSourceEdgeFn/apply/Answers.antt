use Rattle.jul_edge.specs.Edges.{application}
use Rattle.jul_reach.proofs.OfferLaws.{lowered_offers}
use Rattle.jul_reach.proofs.offering.OfferSourceEdgeFn.apply.Goals as goal

pub returns-clause-gives : goal.returns-clause-gives
returns-clause-gives c =
    lowered_offers (application c.args._by c.args.u c.args._place c.args.v c.args._w) c.args.hand.now.seat c.lower.new.seat c.from.result c.lower.result c.from.ensures c.lower.ensures.logged
