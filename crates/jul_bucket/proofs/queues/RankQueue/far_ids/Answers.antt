use Rattle.std.proofs.Common.{length, arith}
use Rattle.jul_bucket.specs.Copies.{copies_at}
use Rattle.jul_bucket.proofs.CopyLaws.{slice-index, All-copies}
use Rattle.jul_bucket.proofs.TakingLaws.{level_all, all_lent, ids_lent}
use Rattle.jul_bucket.proofs.queues.RankQueue.far_ids.Goals as goal

pub ids_of-requires-clause-ids : goal.ids_of-requires-clause-ids
ids_of-requires-clause-ids c =
    let s = c.args.self.now in
    All-copies (length c.as_slice.result.now) s.levels.items c.args.level c.as_slice-copies.result.now
    (ids_lent c.as_slice.result.now s.ranks.items s.levels.items c.as_slice.ensures.value c.requires.queue.lists.level_ids)
    (slice-index s.levels.items c.args.level c.index.result.now c.as_slice-copies.result.now (omega (arith, c.requires.spot.1.in_levels, c.requires.queue.lists.levels)) c.index.ensures c.as_slice-copies.ensures.value)

pub ids_of-requires-clause-all : goal.ids_of-requires-clause-all
ids_of-requires-clause-all c =
    let s = c.args.self.now in
    all_lent s.ranks.items c.as_slice.result.now (copies_at c.args.self.now.levels.items c.args.level) c.as_slice-copies.result.now c.args.rank c.as_slice.ensures.value
    (slice-index s.levels.items c.args.level c.index.result.now c.as_slice-copies.result.now (omega (arith, c.requires.spot.1.in_levels, c.requires.queue.lists.levels)) c.index.ensures c.as_slice-copies.ensures.value)
    (level_all s c.requires.queue c.requires.spot.0 c.args.level c.args.rank c.requires.spot.1)
