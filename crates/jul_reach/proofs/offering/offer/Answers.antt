use Rattle.std.proofs.Common.{◌∙◌, arith}
use Rattle.jul_reach.proofs.OfferLaws.{targets_are, sources_are}
use Rattle.jul_reach.proofs.offering.offer.Goals as goal

pub returns-clause-targets : goal.returns-clause-targets
returns-clause-targets g c =
    let made = c.in_ok-out.ensures.made in
    targets_are c.in_ok-out.out.direction c.args.rows.now c.n-n.ensures.lawful c.args.from.now.members c.args.words.now c.args.seat c.in_ok-out.out.token.seat c.requires.words c.in_ok-out.out.subset made.home made.mapped made.parts

pub returns-clause-sources : goal.returns-clause-sources
returns-clause-sources g c =
    let made = c.in_ok-out.ensures.made in
    sources_are c.in_ok-out.out.direction c.args.rows.now c.n-n.ensures.lawful c.args.from.now.members c.args.words.now c.args.seat c.in_ok-out.out.token.seat c.requires.words c.in_ok-out.out.subset made.home made.mapped made.parts
    c.in_ok-sources.sources.items (c.in_ok-sources.ensures.size ∙ c.n-n.ensures.count) (λ v lt. c.in_ok-sources.ensures.numbers v (omega (arith, lt, c.n-n.ensures.count)))
