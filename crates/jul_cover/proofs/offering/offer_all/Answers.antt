use Rattle.jul_cover.proofs.OfferLaws.{all_offered}
use Rattle.jul_cover.proofs.offering.offer_all.Goals as goal

pub returns : goal.returns
returns g c =
    all_offered c.args.packs.now c.args.base c.args.members.now.members c.in_ok-hand.field-0-0.members c.args.seat c.in_ok-hand.hand.seat
    c.in_ok-hand.ensures.applied c.in_ok-hand.ensures.home c.in_ok-hand.ensures.root c.in_ok-hand.ensures.none_out
