use Rattle.std.proofs.Common.{◌∙◌, length, refl, ap, sym}
use Rattle.std.specs.Vec.{with_item, with_items}
use Rattle.jul_base.proofs.ListLaws.{written}
use Rattle.jul_cover.specs.declared.packed_sets.PackedSets.{PackedSets}
use Rattle.jul_cover.proofs.PackingLaws.{is_part, part_within, repacked, repacked_well, repacked_other}
use Rattle.jul_cover.proofs.packing.pack_one.Goals as goal

pub keep_part-kept-requires-clause-within : goal.keep_part-kept-requires-clause-within
keep_part-kept-requires-clause-within c =
    part_within c.args.p.now c.args.s c.index-start.result.now c.index.result.now c.as_mut_slice.result.now c.args.by.now c.requires.packed c.requires.in_range
    (is_part c.args.p.now c.args.s c.index-start.result.now c.index.result.now c.as_mut_slice.result.now c.requires.packed c.requires.in_range c.as_mut_slice.ensures.value c.index-start.ensures c.index.ensures)
    c.requires.by

pub returns-clause-packed : goal.returns-clause-packed
returns-clause-packed c =
    repacked_well c.args.p.now _ c.args.by.now c.args.s c.keep_part-kept.result c.requires.packed c.requires.in_range
    (repacked c.args.p.now _ c.args.by.now c.args.s c.index-start.result.now c.index.result.now c.keep_part-kept.result c.as_mut_slice.result.now c.keep_part-kept.new.items
    (is_part c.args.p.now c.args.s c.index-start.result.now c.index.result.now c.as_mut_slice.result.now c.requires.packed c.requires.in_range c.as_mut_slice.ensures.value c.index-start.ensures c.index.ensures)
    c.keep_part-kept.auto.items c.keep_part-kept.ensures.few c.keep_part-kept.ensures.before c.keep_part-kept.ensures.behind c.keep_part-kept.ensures.front refl refl refl
    (written c.keep_part-kept.new.items c.args.p.now.items.items c.args.p.now.items.len (c.keep_part-kept.auto.items ∙ ap length c.as_mut_slice.ensures.value ∙ sym c.args.p.now.items.ok.0)))

pub returns-clause-other : goal.returns-clause-other
returns-clause-other c =
    let q : PackedSets =
    record { n = c.args.p.now.n; starts = c.args.p.now.starts; lens = with_item c.args.p.now.lens c.args.s c.keep_part-kept.result; items = with_items c.args.p.now.items c.keep_part-kept.new.items } in
    repacked_other c.args.p.now q c.args.by.now c.args.s c.keep_part-kept.result c.requires.packed c.requires.in_range
    (repacked c.args.p.now q c.args.by.now c.args.s c.index-start.result.now c.index.result.now c.keep_part-kept.result c.as_mut_slice.result.now c.keep_part-kept.new.items
    (is_part c.args.p.now c.args.s c.index-start.result.now c.index.result.now c.as_mut_slice.result.now c.requires.packed c.requires.in_range c.as_mut_slice.ensures.value c.index-start.ensures c.index.ensures)
    c.keep_part-kept.auto.items c.keep_part-kept.ensures.few c.keep_part-kept.ensures.before c.keep_part-kept.ensures.behind c.keep_part-kept.ensures.front refl refl refl
    (written c.keep_part-kept.new.items c.args.p.now.items.items c.args.p.now.items.len (c.keep_part-kept.auto.items ∙ ap length c.as_mut_slice.ensures.value ∙ sym c.args.p.now.items.ok.0)))
