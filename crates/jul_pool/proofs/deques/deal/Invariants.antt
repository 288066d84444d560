use Rattle.std.proofs.Common.{◌≡◌, All, vec_len}
use Rattle.crossbeam_deque.specs.Handles.{worker_view}
use Rattle.jul_pool.specs.Deques.{MayPush}
use Rattle.jul_pool.proofs.deques.deal.Given as goal

abbrev pub invariant-loop-worker : goal.invariant-loop-worker
invariant-loop-worker l = record {
  count : vec_len l.hands ≡ l.worker;
  rest : All (λ h. MayPush h.next (worker_view h.deque)) l.hands.items;
}
