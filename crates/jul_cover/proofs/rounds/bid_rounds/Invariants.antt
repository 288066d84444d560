use Rattle.std.proofs.Common.{◌≤◌}
use Rattle.jul_base.specs.declared.limits.TheConstants.{NONE}
use Rattle.jul_cover.specs.PackedSets.{AreOpen}
use Rattle.jul_cover.specs.CoverWork.{IsCovering, remaining}
use Rattle.jul_cover.proofs.rounds.bid_rounds.Given as goal

abbrev pub invariant-rounds : goal.invariant-rounds
invariant-rounds g l =
    IsCovering l.sets l.tables.bids.now l.tables.owners.now l.fn.at.bids.home l.fn.at.owners.home l.packs l.columns.round.items l.columns.by.items (record { round = l.at.round; bids = l.at.bids; owners = l.at.owners }) l.buckets
    × AreOpen l.columns.marks.items l.columns.by.items
    × (l.again ≤ NONE)

abbrev pub decreases-rounds : goal.decreases-rounds
decreases-rounds g l = remaining l.buckets.places
