use Rattle.std.proofs.Common.{◌∙◌, ℕ, List, sym, ap}
use Rattle.jul_bucket.specs.Ranks.{Ranked}
use Rattle.jul_bucket.specs.Places.{ids_at}
use Rattle.jul_bucket.specs.QueueViews.{ranked_of}
use Rattle.jul_bucket.proofs.TakingLaws.{emptied_queue, written}
use Rattle.jul_bucket.proofs.queues.RankQueue.empty.Goals as goal

pub take_out-requires : goal.take_out-requires
take_out-requires c = c.requires.ids ∙ ap (λ l. ids_at l c.args.self.now.front) (sym c.as_mut_slice.ensures.value)

pub returns-clause-emptied : goal.returns-clause-emptied
returns-clause-emptied c =
    let s = c.args.self.now in
    let view = λ (l : List ℕ). let r : Ranked = record (ranked_of c.args.self.now) { ranks = l } in r in
    ap view (written s.ranks c.as_mut_slice.result.now c.take_out.new.ranks s.front c.as_mut_slice.ensures.value c.take_out.ensures)

pub returns-clause-queue : goal.returns-clause-queue
returns-clause-queue c =
    let s = c.args.self.now in
    emptied_queue s c.requires.queue _ c.clear_lists.new.lists (written s.ranks c.as_mut_slice.result.now c.take_out.new.ranks s.front c.as_mut_slice.ensures.value c.take_out.ensures) c.clear_lists.ensures
