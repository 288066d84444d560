use Rattle.std.proofs.Common.{◌<◌, ◌∙◌, ◌+◌, length, arith, ap, sym, refl}
use Rattle.std.specs.Vec.{with_item}
use Rattle.jul_bucket.specs.Places.{ids_at}
use Rattle.jul_bucket.proofs.CopyLaws.{copies_at-index, copies_at-set_same}
use Rattle.jul_bucket.proofs.TakingLaws as laws
use Rattle.jul_bucket.proofs.queues.RankQueue.hold_near.Goals as goal

pub settle-requires-clause-ids : goal.settle-requires-clause-ids
settle-requires-clause-ids c =
    laws.near_ids c.args.self.now c.requires.queue c.as_slice.result.now c.as_slice.ensures.value c.args.i c.requires.spot.early c.index_mut.result.now c.index_mut.result.now.items c.index_mut.ensures.value refl

pub settle-requires-clause-all : goal.settle-requires-clause-all
settle-requires-clause-all c =
    laws.near_all c.args.self.now c.requires.queue c.as_slice.result.now c.as_slice.ensures.value c.args.i c.requires.spot.early c.index_mut.result.now c.index_mut.result.now.items c.index_mut.ensures.value refl

pub returns-in_err-settle-clause-queue : goal.returns-in_err-settle-clause-queue
returns-in_err-settle-clause-queue c =
    laws.settled_queue c.args.self.now c.requires.queue c.args.i c.as_slice.result.now c.settle.new.copies c.requires.spot.early c.as_slice.ensures.value c.in_err-settle.ensures.ids c.in_err-settle.ensures.all

pub returns-in_err-ids-clause-queue : goal.returns-in_err-ids-clause-queue
returns-in_err-ids-clause-queue c =
    laws.settled_queue c.args.self.now c.requires.queue c.args.i c.as_slice.result.now c.settle.new.copies c.requires.spot.early c.as_slice.ensures.value c.in_ok-settle.ensures.ids c.in_ok-settle.ensures.all

pub pass-requires-clause-queue : goal.pass-requires-clause-queue
pass-requires-clause-queue c =
    laws.settled_queue c.args.self.now c.requires.queue c.args.i c.as_slice.result.now c.settle.new.copies c.requires.spot.early c.as_slice.ensures.value c.in_ok-settle.ensures.ids c.in_ok-settle.ensures.all

pub pass-requires-clause-first : goal.pass-requires-clause-first
pass-requires-clause-first c = laws.near_first c.args.self.now c.requires.queue c.args.i c.requires.spot

pub returns-clause-held : goal.returns-clause-held
returns-clause-held c =
    let s = c.args.self.now in
    let rank = s.base + c.args.i in
    let lt : c.args.i < length c.args.self.now.near.items = laws.in_near c.args.self.now c.requires.queue c.args.i c.requires.spot.early in
    let settled = with_item c.args.self.now.near c.args.i c.settle.new.copies in
    let listed = sym (copies_at-index settled.items c.args.i c.index.result.now (omega (arith, c.index.ensures)) c.index.ensures) ∙ copies_at-set_same s.near.items c.args.i c.settle.new.copies lt in record {
      first = laws.near_first s c.requires.queue c.args.i c.requires.spot;
      ids_are = c.in_ok-ids.ensures.items ∙ c.as_slice-2.ensures.value ∙ listed ∙ c.in_ok-settle.ensures.ok ∙ ap (λ l. ids_at l rank) c.as_slice.ensures.value;
      after = c.pass.ensures.reached;
    }
