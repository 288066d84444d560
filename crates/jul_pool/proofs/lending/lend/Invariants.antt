use Rattle.std.proofs.Common.{◌≡◌, ◌+◌, [], true, All, vec_len}
use Rattle.crossbeam_deque.specs.Handles.{worker_view}
use Rattle.jul_pool.specs.Deques.{MayPush}
use Rattle.jul_pool.specs.Workers.{IsLent}
use Rattle.jul_pool.proofs.lending.lend.Given as goal

abbrev pub invariant-loop-hand : goal.invariant-loop-hand
invariant-loop-hand g l = record {
  table : l.seat.table_id ≡ l.round.board.now.table.shared.table_id;
  root_seat : l.seat.me.0.root ≡ 1;
  seats_out : l.seat.me.0.out ≡ vec_len l.lent;
  none_taken : l.seat.me.0.chunks ≡ [];
  root : g.J.Token.Share.is_root l.token ≡ true;
  out : g.J.Token.Share.out l.token ≡ vec_len l.lent;
  log : g.J.Token.Share.log l.token ≡ g.J.Token.Share.log l.fn.token;
  home : g.J.Token.Share.home l.token ≡ g.J.Token.Share.home l.fn.token;
  dealt : All (λ h. MayPush h.next (worker_view h.deque)) l.hands.items;
  count : vec_len l.lent + vec_len l.hands ≡ vec_len l.fn.hands;
  lent : All (IsLent g.J.Token.Share.log g.J.Token.Share.home g.J.Token.Share.is_root l.round (g.J.Token.Share.home l.fn.token)) l.lent.items;
}

abbrev pub decreases-loop-hand : goal.decreases-loop-hand
decreases-loop-hand g l = vec_len l.hands
