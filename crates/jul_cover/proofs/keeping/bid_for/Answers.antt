use Rattle.std.proofs.Common.{ℕ, ◌<◌, List, subst, sym, ap}
use Rattle.std.specs.List.{All}
use Rattle.jul_subset.specs.Subsets.{Subset}
use Rattle.jul_cover.specs.PackedSets.{pack_at}
use Rattle.jul_cover.specs.Offers.{HasOffered}
use Rattle.jul_cover.specs.Keeping.{winners_of}
use Rattle.jul_cover.proofs.KeepingLaws.{same_members, winners_in}
use Rattle.jul_cover.proofs.keeping.bid_for.Goals as goal

pub ordered-requires-clause-in_range : goal.ordered-requires-clause-in_range
ordered-requires-clause-in_range g c =
    subst (All (λ s. s < c.args.packs.now.n)) (sym c.in_ok-winners.ensures)
    (winners_in c.args.packs.now c.requires.packed c.args.holders.now c.requires.within c.args.bucket c.args.chosen.now c.requires.in_range)

pub returns : goal.returns
returns g c = record {
  bidders = c.in_ok-bidders.bidders.items;
  bidders_are =
      same_members c.in_ok-bidders.bidders.items c.in_ok-winners.winners.items (winners_of (pack_at c.args.packs.now) c.args.holders.now c.args.bucket c.args.chosen.now)
      c.in_ok-bidders.ensures.same c.in_ok-winners.ensures;
  bid =
      subst (λ b. HasOffered c.in_ok-bidders.bidders.items (pack_at c.args.packs.now) b c.args.seat c.in_ok-seat.seat) c.base_of-base.ensures.base
      (subst (λ (l : List ℕ). HasOffered l (pack_at c.args.packs.now) c.base_of-base.result c.args.seat c.in_ok-seat.seat) (ap (λ (m : Subset). m.members) c.from_increasing-members.ensures.subset)
      c.in_ok-seat.ensures);
}
