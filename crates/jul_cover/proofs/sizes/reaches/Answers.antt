use Rattle.std.proofs.Common.{◌∙◌, ap, leb}
use Rattle.jul_cover.proofs.SizeLaws.{reaches_is}
use Rattle.jul_cover.proofs.sizes.reaches.Goals as goal

pub returns-then-x-gt0 : goal.returns-then-x-gt0
returns-then-x-gt0 c = ap (leb c.args.power) c.from.ensures ∙ reaches_is c.args.x c.ilog2.result c.args.power c.ilog2.ensures.power_le c.ilog2.ensures.next_power_gt
