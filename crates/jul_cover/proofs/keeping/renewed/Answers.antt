use Rattle.std.proofs.Common.{◌<◌, ◌^◌, leb, length, refl, subst, sym, ap, ◌∙◌}
use Rattle.std.specs.List.{All}
use Rattle.jul_cover.specs.PackedSets.{pack_at}
use Rattle.jul_cover.specs.Choosing.{active_of}
use Rattle.jul_cover.specs.Keeping.{AreWithin, winners_of}
use Rattle.jul_cover.proofs.KeepingLaws.{same_members, winners_in}
use Rattle.jul_cover.proofs.MoveTurnLaws.{kept_in}
use Rattle.jul_cover.proofs.keeping.renewed.Goals as goal

pub winners_among-requires-clause-in_range : goal.winners_among-requires-clause-in_range
winners_among-requires-clause-in_range c =
    kept_in (λ s. leb (2 ^ c.args.bucket) (length (pack_at c.args.packs.now s))) c.args.packs.now.n c.pack_each.new.p.n c.args.touched.now c.args.touched.now c.as_slice.result.now
    c.requires.in_range refl (c.as_slice.ensures.value ∙ c.in_ok-large.ensures) c.pack_each.ensures.n

pub ordered-requires-clause-in_range : goal.ordered-requires-clause-in_range
ordered-requires-clause-in_range c =
    let large : All (λ s. s < c.pack_each.new.p.n) c.as_slice.result.now =
    kept_in (λ s. leb (2 ^ c.args.bucket) (length (pack_at c.args.packs.now s))) c.args.packs.now.n c.pack_each.new.p.n c.args.touched.now c.args.touched.now c.as_slice.result.now
    c.requires.in_range refl (c.as_slice.ensures.value ∙ c.in_ok-large.ensures) c.pack_each.ensures.n in
    subst (All (λ s. s < c.pack_each.new.p.n)) (sym c.in_ok-winners.ensures)
    (winners_in c.pack_each.new.p c.pack_each.ensures.packed c.args.holders.now (subst (λ k. AreWithin k c.args.holders.now) (sym c.pack_each.ensures.n) c.requires.within) c.args.bucket c.as_slice.result.now large)

pub returns-clause-winners : goal.returns-clause-winners
returns-clause-winners c =
    same_members c.in_ok-candidates.candidates.items c.in_ok-winners.winners.items
    (winners_of (pack_at c.pack_each.new.p) c.args.holders.now c.args.bucket (active_of (pack_at c.args.packs.now) c.args.bucket c.args.touched.now)) c.in_ok-candidates.ensures.same
    (c.in_ok-winners.ensures ∙ ap (winners_of (pack_at c.pack_each.new.p) c.args.holders.now c.args.bucket) (c.as_slice.ensures.value ∙ c.in_ok-large.ensures))
