use Rattle.std.proofs.Common.{ℕ, ◌+◌, List, take, ap, ◌∙◌, arith}
use Rattle.std.proofs.lemmas.List.{take_all}
use Rattle.jul_cover.proofs.OfferLaws.{lowered_more, offered}
use Rattle.jul_cover.proofs.offering.OfferVertexFn.apply.Goals as goal

pub loop-e-preserved : goal.loop-e-preserved
loop-e-preserved c =
    lowered_more (c.args.self.now.base + c.from.result) c.pack_of-pack.result.now c.loop-e.e-index c.lower.result c.args.hand.now.seat c.loop-e.hand.seat c.lower.new.seat
    c.loop-e-test.true c.loop-e.invariant c.lower.ensures.logged

pub returns-clause-gives : goal.returns-clause-gives
returns-clause-gives c =
    let all : List ℕ = c.pack_of-pack.result.now in
    offered c.args.self.now.packs.now c.args.self.now.base c.args.s (c.args.self.now.base + c.from.result) (take c.loop-e.e-index all) c.args.hand.now.seat c.loop-e.hand.seat
    c.loop-e.invariant (ap (λ k. c.args.self.now.base + k) c.from.ensures) (take_all c.loop-e.e-index all (omega arith) ∙ c.pack_of-pack.ensures.pack)
