use Rattle.jul_reach.specs.Searching.{IsSearching, remaining}
use Rattle.jul_reach.proofs.reaching.search.Given as goal

abbrev pub invariant-rounds : goal.invariant-rounds
invariant-rounds g l = IsSearching l.rows l.source l.stamps l.reached.items l.frontier l.seat l.round

abbrev pub decreases-rounds : goal.decreases-rounds
decreases-rounds g l = remaining l.reached.items l.frontier.members
