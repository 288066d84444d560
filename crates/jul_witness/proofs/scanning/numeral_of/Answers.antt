use Rattle.std.proofs.Common.{arith, ap, ◌∙◌}
use Rattle.jul_text.specs.Shapes.{number_of}
use Rattle.jul_text.proofs.FeedLaws.{number_of_shape}
use Rattle.jul_witness.proofs.scanning.numeral_of.Goals as goal

pub returns : goal.returns
returns c = c.shape_number.ensures ∙ ap (λ s. number_of s c.args.bound) c.requires ∙ number_of_shape c.args.token.now c.args.bound (omega arith)
