use Rattle.std.proofs.Common.{◌<◌, ◌∙◌, length, sym, arith}
use Rattle.std.proofs.lemmas.List.{get_or_default}
use Rattle.jul_cover.proofs.PackingLaws.{pack_size}
use Rattle.jul_cover.proofs.packing.size_of.Goals as goal

pub returns : goal.returns
returns c =
    let lt : c.args.s < length c.args.p.now.lens.items = omega (arith, c.requires.packed.lens_size) in
    c.index.ensures ∙ get_or_default c.args.p.now.lens.items c.args.s c.index.result.now 0 lt ∙ sym (pack_size c.args.p.now c.args.s c.requires.packed c.requires.in_range)
