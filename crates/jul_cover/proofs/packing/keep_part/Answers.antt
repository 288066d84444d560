use Rattle.std.proofs.Common.{◌∙◌}
use borrow.Rule.Slice.PartMut.{drop_put, mid_len}
use Rattle.jul_cover.proofs.packing.keep_part.Goals as goal

pub returns-clause-behind : goal.returns-clause-behind
returns-clause-behind c =
    drop_put c.args.start c.args.end c.args.items.now c.keep_open.new.elements c.requires.ordered c.requires.inside
    (c.keep_open.auto.elements ∙ mid_len c.args.start c.args.end c.args.items.now c.requires.inside)
