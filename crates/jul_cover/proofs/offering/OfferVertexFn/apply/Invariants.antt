use Rattle.std.proofs.Common.{take}
use Rattle.jul_cover.specs.Offers.{HasLowered}
use Rattle.jul_cover.proofs.offering.OfferVertexFn.apply.Given as goal

abbrev pub invariant-loop-e : goal.invariant-loop-e
invariant-loop-e l = HasLowered l.number (take l.e-index l.pack) l.fn.hand.seat l.hand.seat
