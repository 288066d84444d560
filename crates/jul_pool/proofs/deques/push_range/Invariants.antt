use Rattle.crossbeam_deque.specs.Handles.{worker_view}
use Rattle.jul_pool.specs.Deques.{MayPush, HasPushed}
use Rattle.jul_pool.proofs.deques.push_range.Given as goal

abbrev pub invariant-loop-chunk : goal.invariant-loop-chunk
invariant-loop-chunk l = record {
  may : MayPush l.chunk (worker_view l.deque);
  pushed : HasPushed l.next l.end (worker_view l.fn.deque) (worker_view l.deque);
}
