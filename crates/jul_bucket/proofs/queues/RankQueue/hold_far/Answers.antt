use Rattle.jul_bucket.proofs.TakingLaws.{level_first}
use Rattle.jul_bucket.proofs.queues.RankQueue.hold_far.Goals as goal

pub returns-clause-held : goal.returns-clause-held
returns-clause-held c = record {
  first = level_first c.args.self.now c.requires.queue c.requires.spot.0 c.args.level c.args.rank c.requires.spot.1;
  ids_are = c.in_ok-ids.ensures;
  after = c.in_ok-advance.ensures.reached;
}
