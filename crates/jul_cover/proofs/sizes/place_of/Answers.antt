use Rattle.std.proofs.Common.{◌∙◌}
use Rattle.jul_cover.proofs.SizeLaws.{place_is}
use Rattle.jul_cover.proofs.sizes.place_of.Goals as goal

pub returns-else-size-eq0 : goal.returns-else-size-eq0
returns-else-size-eq0 c = c.from.ensures ∙ place_is c.args.size c.ilog2.result c.if-size-eq0.false c.ilog2.ensures.power_le c.ilog2.ensures.next_power_gt
