use Rattle.std.proofs.Common.{◌<◌}
use Rattle.std.specs.List.{All}
use Rattle.std.specs.List.Sorted.{IsStrictlyIncreasing}
use Rattle.jul_cover.specs.PackedSets.{pack_at, AreOpen}
use Rattle.jul_cover.specs.CoverWork.{IsCovering, remaining}
use Rattle.jul_cover.specs.KeptTurns.{AreRight, IsKeeping}
use Rattle.jul_cover.proofs.kept_rounds.kept_rounds.Given as goal

abbrev pub invariant-rounds : goal.invariant-rounds
invariant-rounds g l =
    IsCovering l.sets l.tables.bids.now l.tables.owners.now l.fn.at.bids.home l.fn.at.owners.home l.packs l.columns.round.items l.columns.by.items (record { round = l.at.round; bids = l.at.bids; owners = l.at.owners }) l.buckets
    × AreOpen l.columns.marks.items l.columns.by.items
    × IsKeeping l.sets l.at.round l.last l.packs l.watched.candidates.items
    × All (λ s. s < l.packs.n) l.watched.candidates.items
    × IsStrictlyIncreasing l.watched.candidates.items
    × AreRight l.buckets.places l.last (pack_at l.packs) l.columns.round.items l.watched.changed.items
    × All (λ s. s < l.packs.n) l.watched.changed.items

abbrev pub decreases-rounds : goal.decreases-rounds
decreases-rounds g l = remaining l.buckets.places
