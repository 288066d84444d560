use Rattle.std.proofs.Common.{arith}
use Rattle.jul_pool.proofs.DequeLaws.{begins, may_push_first, may_push_rest, pushed_within}
use Rattle.jul_pool.proofs.deques.deal_one.Goals as goal

pub fifo_as-requires : goal.fifo_as-requires
fifo_as-requires c = begins

pub push_range-requires : goal.push_range-requires
push_range-requires c = may_push_first c.args.first _ c.in_ok-deque.ensures.4

pub returns-clause-rest : goal.returns-clause-rest
returns-clause-rest c = may_push_rest c.args.first _ _ _ c.in_ok-deque.ensures.4 c.push_range.ensures

pub returns-clause-within : goal.returns-clause-within
returns-clause-within c x h = let w = pushed_within c.args.first _ _ _ c.in_ok-deque.ensures.4 c.push_range.ensures x h in (w.0, omega (arith, w.1, c.min-next.ensures))
