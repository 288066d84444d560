use Rattle.jul_tree.specs.Growing.{IsSearching, remaining}
use Rattle.jul_tree.proofs.growing.grow.Given as goal

abbrev pub invariant-rounds : goal.invariant-rounds
invariant-rounds g l = IsSearching l.rows l.sources l.dist l.words l.stamps l.fn.seat.home l.fn.stamp_seat.home l.hops l.members.items l.seat l.stamp_seat l.hop

abbrev pub decreases-rounds : goal.decreases-rounds
decreases-rounds g l = remaining l.hops l.members.items
