use Rattle.jul_bucket.proofs.TakingLaws as laws
use Rattle.jul_bucket.proofs.queues.RankQueue.pass.Goals as goal

pub next_start-self-requires : goal.next_start-self-requires
next_start-self-requires c = laws.late_start c.args.self.now c.requires.queue c.args.rank c.requires.first

pub returns-clause-reached : goal.returns-clause-reached
returns-clause-reached c = laws.reached c.args.self.now c.requires.queue c.args.rank c.next_start-self.result c.next_start-self.ensures

pub returns-clause-queue : goal.returns-clause-queue
returns-clause-queue c =
    laws.passed_queue c.args.self.now c.requires.queue c.args.rank c.next_start-self.result c.clear_lists.new.lists c.requires.first c.requires.near c.clear_lists.ensures c.next_start-self.ensures
