use Rattle.std.proofs.Common.{arith}
use Rattle.crossbeam_deque.specs.Handles.{worker_view}
use Rattle.jul_pool.proofs.DequeLaws.{pushes, pushed_none, pushed_more, pushed_or_not, may_push_next}
use Rattle.jul_pool.proofs.deques.push_range.Goals as goal

pub loop-chunk-init : goal.loop-chunk-init
loop-chunk-init c = record { may = c.requires; pushed = pushed_none c.args.next c.args.end (worker_view c.args.deque.now) }

pub push_as-requires-clause-pushes : goal.push_as-requires-clause-pushes
push_as-requires-clause-pushes c = pushes _ _ c.loop-chunk.chunk c.loop-chunk.invariant.may.own (c.loop-chunk.invariant.may.fresh c.loop-chunk.chunk (omega arith))

pub loop-chunk-preserved : goal.loop-chunk-preserved
loop-chunk-preserved c =
    let how = pushed_or_not c.push_as.result _ _ _ _ _ _ c.push_as.ensures.rule in record {
      may = may_push_next c.loop-chunk.chunk (worker_view c.loop-chunk.deque) (worker_view c.push_as.new.self) c.loop-chunk.invariant.may how;
      pushed = pushed_more c.args.next c.loop-chunk.chunk c.args.end _ (worker_view c.loop-chunk.deque) (worker_view c.push_as.new.self) c.loop-chunk.invariant.pushed c.loop-chunk.auto.chunk c.loop-chunk-test.true how;
    }
