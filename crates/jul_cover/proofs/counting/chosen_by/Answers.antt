use Rattle.std.proofs.Common.{◌≡◌, ◌<◌, ◌∙◌, get_or, subst, ap, sym}
use Rattle.std.specs.Prelude.{All, IfOk}
use Rattle.jul_words.specs.Least.{word_of}
use Rattle.jul_cover.specs.PackedSets.{pack_at}
use Rattle.jul_cover.proofs.CountingLaws.{chosen_same}
use Rattle.jul_cover.proofs.counting.chosen_by.Goals as goal

pub returns-then-work-from-clause-chosen : goal.returns-then-work-from-clause-chosen
returns-then-work-from-clause-chosen g c =
    subst (λ l. IfOk c.ids.result (λ chosen. chosen.items ≡ l))
    (c.in_ok-chosen.ensures.members
    ∙ chosen_same c.args.packs.now.n c.as_slice-bids.result.now (word_of c.args.seat.now)
    (λ e lt. ap (λ l. get_or l e 0) c.as_slice-bids.ensures.value ∙ c.in_ok-all.ensures.each e lt)
    (pack_at c.args.packs.now) c.args.base c.args.bucket c.args.members.now.members c.requires.packed.within
    (subst (λ n. All (λ s. s < n) c.args.members.now.members) c.requires.n c.n.ensures.subset.within))
    c.ids.ensures

pub chosen_sets-requires-clause-in_range : goal.chosen_sets-requires-clause-in_range
chosen_sets-requires-clause-in_range g c =
    subst (All (λ s. s < c.args.packs.now.n)) (sym c.in-Some.ensures.1)
    (subst (λ n. All (λ s. s < n) c.args.members.now.members) c.requires.n c.n.ensures.subset.within)
