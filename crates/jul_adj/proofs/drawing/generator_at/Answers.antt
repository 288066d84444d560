use Rattle.std.proofs.Common.{◌∙◌, arith}
use Rattle.jul_adj.proofs.DrawingLaws.{state_at-is}
use Rattle.jul_adj.proofs.drawing.generator_at.Goals as goal

pub returns : goal.returns
returns c = c.seed_from_u64.ensures.same ∙ omega (arith, c.from-words.ensures, state_at-is c.args.pairs c.args.seed (omega (arith, c.ranges.seed)))
