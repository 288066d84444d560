use Rattle.jul_dist.specs.Moving.{remaining}
use Rattle.jul_dist.specs.Advancing.{IsSearching}
use Rattle.jul_dist.proofs.searching.search.Given as goal

abbrev pub invariant-rounds : goal.invariant-rounds
invariant-rounds g l = IsSearching l.rows l.sources l.delta l.words l.fn.seat.home l.values l.seat l.buckets

abbrev pub decreases-rounds : goal.decreases-rounds
decreases-rounds g l = remaining l.values l.buckets.places
