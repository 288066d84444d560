use Rattle.std.proofs.Common.{◌∙◌, ◌+◌, ap}
use Rattle.jul_bucket.specs.Places.{ids_at}
use Rattle.jul_bucket.specs.QueueViews.{ranked_of}
use Rattle.jul_bucket.proofs.TakingLaws as laws
use Rattle.jul_bucket.proofs.TakingLaws.{taken_at}
use Rattle.jul_bucket.proofs.queues.RankQueue.take_near.Goals as goal

pub ids_of-requires-clause-ids : goal.ids_of-requires-clause-ids
ids_of-requires-clause-ids c =
    laws.near_ids c.args.self.now c.requires.queue c.as_slice.result.now c.as_slice.ensures.value c.args.i c.requires.spot.early c.index.result.now c.as_slice-copies.result.now c.index.ensures c.as_slice-copies.ensures.value

pub ids_of-requires-clause-all : goal.ids_of-requires-clause-all
ids_of-requires-clause-all c =
    laws.near_all c.args.self.now c.requires.queue c.as_slice.result.now c.as_slice.ensures.value c.args.i c.requires.spot.early c.index.result.now c.as_slice-copies.result.now c.index.ensures c.as_slice-copies.ensures.value

pub pass-requires-clause-first : goal.pass-requires-clause-first
pass-requires-clause-first c = laws.near_first c.args.self.now c.requires.queue c.args.i c.requires.spot

pub returns-clause-taken : goal.returns-clause-taken
returns-clause-taken c =
    let s = c.args.self.now in
    let rank = s.base + c.args.i in
    let taken = c.in_ok-taken.ensures in
    taken_at (ranked_of s) (ranked_of c.pass.new.self) (ranked_of c.empty.new.self) rank c.in_ok-taken.taken taken.rank (laws.near_first s c.requires.queue c.args.i c.requires.spot)
    (taken.ids ∙ c.in_ok-ids.ensures ∙ ap (λ l. ids_at l rank) c.as_slice.ensures.value) taken.kept c.pass.ensures.reached c.empty.ensures.emptied
