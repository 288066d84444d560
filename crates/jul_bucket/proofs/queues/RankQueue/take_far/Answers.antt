use Rattle.std.proofs.Common.{◌∙◌}
use Rattle.jul_bucket.specs.QueueViews.{ranked_of}
use Rattle.jul_bucket.proofs.TakingLaws.{level_first, taken_at}
use Rattle.jul_bucket.proofs.queues.RankQueue.take_far.Goals as goal

pub returns-clause-taken : goal.returns-clause-taken
returns-clause-taken c =
    let s = c.args.self.now in
    let taken = c.in_ok-taken.ensures in
    taken_at (ranked_of s) (ranked_of c.advance.new.self) (ranked_of c.empty.new.self) c.args.rank c.in_ok-taken.taken taken.rank
    (level_first s c.requires.queue c.requires.spot.0 c.args.level c.args.rank c.requires.spot.1)
    (taken.ids ∙ c.in_ok-ids.ensures) taken.kept c.in_ok-advance.ensures.reached c.empty.ensures.emptied
