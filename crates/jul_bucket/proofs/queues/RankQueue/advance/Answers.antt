use Rattle.jul_bucket.proofs.TakingLaws as laws
use Rattle.jul_bucket.proofs.TakingLaws.{ids_lent}
use Rattle.jul_bucket.proofs.queues.RankQueue.advance.Goals as goal

pub spread-requires-clause-ids : goal.spread-requires-clause-ids
spread-requires-clause-ids c =
    ids_lent c.as_slice.result.now c.args.self.now.ranks.items c.clear_lists-2.new.lists.items c.as_slice.ensures.value
    (λ k id has. c.requires.queue.lists.level_ids k id (c.clear_lists-2.ensures.fewer k id has))

pub next_start-self-requires : goal.next_start-self-requires
next_start-self-requires c =
    let s = c.args.self.now in
    laws.late_start s c.requires.queue c.args.rank (laws.level_first s c.requires.queue c.requires.spot.0 c.args.level c.args.rank c.requires.spot.1)

pub returns-in_err-end-clause-queue : goal.returns-in_err-end-clause-queue
returns-in_err-end-clause-queue c =
    let spread = c.in_err-end.ensures in
    laws.refused_queue c.args.self.now c.requires.queue c.requires.spot.0 c.args.level c.args.rank c.requires.spot.1 c.clear_lists.new.lists.items c.clear_lists-2.new.lists.items c.clear_lists.ensures c.clear_lists-2.ensures
    c.as_slice.result.now c.as_slice.ensures.value c.spread.new.near c.spread.new.levels spread.near spread.level_ids spread.level_len spread.err

pub returns-clause-queue : goal.returns-clause-queue
returns-clause-queue c =
    let spread = c.in_ok-end.ensures in
    let bounds = c.next_bounds-bounds in
    laws.spread_queue c.args.self.now c.requires.queue c.requires.spot.0 c.args.level c.args.rank c.requires.spot.1 c.clear_lists.new.lists.items c.clear_lists-2.new.lists.items c.clear_lists.ensures c.clear_lists-2.ensures
    c.as_slice.result.now c.as_slice.ensures.value c.spread.new.near c.spread.new.levels spread.near spread.level_ids spread.level_len
    c.next_start-self.result c.in_ok-end.end bounds.result c.next_start-self.ensures bounds.ensures.bounds bounds.ensures.others spread.others spread.end spread.has

pub returns-clause-reached : goal.returns-clause-reached
returns-clause-reached c = laws.reached c.args.self.now c.requires.queue c.args.rank c.next_start-self.result c.next_start-self.ensures
