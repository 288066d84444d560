use Rattle.std.proofs.Common.{◌≡◌, ◌≢◌, ◌∙◌, ℕ, ◌<◌, ◌≤◌, List, length, arith, subst, sym, slice_index, ap, All}
use Rattle.jul_base.specs.declared.limits.TheConstants.{NONE}
use Rattle.jul_bucket.specs.Orders.{turn}
use Rattle.jul_bucket.specs.Places.{set_places}
use Rattle.jul_bucket.specs.Ranks.{turned_moves}
use Rattle.jul_bucket.specs.Copies.{AreLists, AreCovered, HasCopy, IsEnd, Lists}
use Rattle.std.specs.Vec.{with_items}
use Rattle.jul_bucket.proofs.CopyLaws.{items-with_items}
use Rattle.jul_bucket.proofs.IdLaws.{length-set_places}
use Rattle.jul_bucket.proofs.QueueLaws.{set_each, AreLists-grown, AreCovered-grown, IsRanked-set}
use Rattle.jul_bucket.proofs.queues.RankQueue.set.Goals as goal

pub returns-in_err-end-clause-queue : goal.returns-in_err-end-clause-queue
returns-in_err-end-clause-queue c =
    let s = c.args.self.now in
    let n = length c.args.self.now.ranks.items in
    let inv = c.requires.queue in
    let ids : All (λ (m : ℕ × ℕ). m.0 < length c.args.self.now.ranks.items) c.args.moves.now = c.requires.ids in
    let near = c.in_err-end.ensures.near n ids in
    let levels = c.in_err-end.ensures.levels n ids in
    let end : IsEnd (length c.args.self.now.near.items) c.args.self.now.base c.args.self.now.end (slice_index c.args.self.now.bounds 0) c.args.self.now.end = record { later = omega arith; few = omega (arith, inv.lists.end_few, inv.lists.near); before = inv.lists.end_near } in
    record {
      based = inv.based;
      near = inv.near;
      ranked = inv.ranked;
      lists = AreLists-grown n s.near_count s.base s.end s.end s.bounds s.near.items c.put_moves.new.near.items s.levels.items c.put_moves.new.levels.items inv.lists near levels end;
      covered = AreCovered-grown n s.base s.end s.end s.ranks.items s.bounds s.near.items c.put_moves.new.near.items s.levels.items c.put_moves.new.levels.items (omega arith) near levels inv.covered;
    }

pub returns-clause-queue : goal.returns-clause-queue
returns-clause-queue c =
    let s = c.args.self.now in
    let n = length c.args.self.now.ranks.items in
    let inv = c.requires.queue in
    let order = c.args.order in
    let moves = c.args.moves.now in
    let set : c.set_ranks.new.ranks ≡ set_places c.args.self.now.ranks.items (turned_moves c.args.order c.args.moves.now) = subst (λ (l : List ℕ). c.set_ranks.new.ranks ≡ set_places l (turned_moves c.args.order c.args.moves.now)) c.as_mut_slice.ensures.value c.set_ranks.ensures.is in
    let size : length c.set_ranks.new.ranks ≡ length c.args.self.now.ranks.items = ap length set ∙ length-set_places s.ranks.items (turned_moves order moves) in
    let kept : (with_items c.args.self.now.ranks c.set_ranks.new.ranks).items ≡ c.set_ranks.new.ranks = items-with_items c.args.self.now.ranks c.set_ranks.new.ranks size in
    let after : (with_items c.args.self.now.ranks c.set_ranks.new.ranks).items ≡ set_places c.args.self.now.ranks.items (turned_moves c.args.order c.args.moves.now) = kept ∙ set in
    let len : length (with_items c.args.self.now.ranks c.set_ranks.new.ranks).items ≡ length c.args.self.now.ranks.items = ap length kept ∙ size in
    let ids : All (λ (m : ℕ × ℕ). m.0 < length c.args.self.now.ranks.items) c.args.moves.now = c.requires.ids in
    let late : All (λ (m : ℕ × ℕ). m.1 ≢ NONE → c.args.self.now.front ≤ turn c.args.order m.1) c.args.moves.now = c.requires.late in
    let near = c.in_ok-end.ensures.near n ids in
    let levels = c.in_ok-end.ensures.levels n ids in
    let lists : Lists = record { start = c.args.self.now.base; end = c.in_ok-end.end; bounds = c.args.self.now.bounds; near = c.put_moves.new.near.items; levels = c.put_moves.new.levels.items } in
    let grown : AreCovered c.args.self.now.ranks.items lists = AreCovered-grown n s.base s.end c.in_ok-end.end s.ranks.items s.bounds s.near.items c.put_moves.new.near.items s.levels.items c.put_moves.new.levels.items c.in_ok-end.ensures.end.later near levels inv.covered in
    let P : ℕ → Type 0 = λ m. AreLists m c.args.self.now.near_count lists in
    let fits : All (λ r. r ≤ NONE) c.args.self.now.ranks.items = inv.ranked.fits in
    let C : List ℕ → Type 0 = λ l. AreCovered l lists in
    record {
      based = c.requires.queue.based;
      near = c.requires.queue.near;
      ranked = IsRanked-set _ order moves _ inv.ranked after (subst (All (λ r. r ≤ NONE)) (sym kept) c.set_ranks.ensures.fits) late;
      lists = subst P (sym len) (AreLists-grown n s.near_count s.base s.end c.in_ok-end.end s.bounds s.near.items c.put_moves.new.near.items s.levels.items c.put_moves.new.levels.items inv.lists near levels c.in_ok-end.ensures.end);
      covered = subst C (sym after) (λ id lt some.
          set_each (λ i rank. HasCopy lists rank i) order s.ranks.items moves
          (λ i lt' ne. grown i lt' (let le : slice_index c.args.self.now.ranks.items i ≤ NONE = fits i 0 lt' in grind arith))
          c.in_ok-end.ensures.has id (omega (arith, lt, length-set_places s.ranks.items (turned_moves order moves))) (λ e. absurd (omega (arith, e, some))));
    }
