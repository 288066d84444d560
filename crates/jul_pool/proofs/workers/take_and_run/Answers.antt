use Rattle.std.proofs.Common.{◌≡◌, ◌<◌, true, false, ◌∙◌, ap, sym, subst, refl}
use Rattle.jul_base.specs.Times.{times}
use Rattle.jul_pool.specs.Claims.{after_take}
use Rattle.jul_pool.proofs.WorkLaws.{worked_one, worked_not, times_else, times_own}
use Rattle.jul_pool.proofs.workers.take_and_run.Goals as goal

pub returns-then-not-take-clause-worked : goal.returns-then-not-take-clause-worked
returns-then-not-take-clause-worked g c =
    let share = g.J.Token.Share in
    let taken : c.take.new.seat.me ≡ (after_take c.args.me.now.seat.me.0 c.args.chunk false, c.args.me.now.seat.me.1) = c.take.ensures.taken ∙ ap (λ own. (after_take c.args.me.now.seat.me.0 c.args.chunk own, c.args.me.now.seat.me.1)) c.if-not-take.true in
    worked_not share.log share.home share.is_root share.out (g.J.Job.gives c.args.round.now.job.now) c.args.round.now.board.now.chunks c.args.me.now _ c.args.chunk c.take.ensures.table taken refl refl

pub returns-clause-worked : goal.returns-clause-worked
returns-clause-worked g c =
    let share = g.J.Token.Share in
    let ran = c.run_chunk.ensures in
    let taken : c.take.new.seat.me ≡ (after_take c.args.me.now.seat.me.0 c.args.chunk true, c.args.me.now.seat.me.1) = c.take.ensures.taken ∙ ap (λ own. (after_take c.args.me.now.seat.me.0 c.args.chunk own, c.args.me.now.seat.me.1)) c.if-not-take.false in
    worked_one share.log share.home share.is_root share.out (g.J.Job.gives c.args.round.now.job.now) c.args.round.now.board.now.chunks c.args.me.now _ c.args.chunk c.in_ok-out.out c.take.ensures.table taken ran.home ran.root ran.out c.in_ok-push.ensures.items (c.take.ensures.on_board c.if-not-take.false) c.in_ok-out.ensures.gives

pub returns-clause-alone : goal.returns-clause-alone
returns-clause-alone g c root none_out near fresh =
    let taken : c.take.new.seat.me ≡ (after_take c.args.me.now.seat.me.0 c.args.chunk true, c.args.me.now.seat.me.1) = c.take.ensures.taken ∙ ap (λ own. (after_take c.args.me.now.seat.me.0 c.args.chunk own, c.args.me.now.seat.me.1)) c.if-not-take.false in
    subst (λ m. 0 < times c.args.chunk m.0.chunks) (sym taken) (times_own c.args.me.now.seat.me.0 c.args.chunk)

pub returns-clause-others : goal.returns-clause-others
returns-clause-others g c x ne = ap (λ m. times x m.0.chunks) c.take.ensures.taken ∙ times_else c.args.me.now.seat.me.0 c.args.chunk c.take.result x ne

pub take-requires-clause-table : goal.take-requires-clause-table
take-requires-clause-table g c = c.requires.able.table_is

pub take-requires-clause-live : goal.take-requires-clause-live
take-requires-clause-live g c = c.requires.able.live

pub run_chunk-requires-clause-condition : goal.run_chunk-requires-clause-condition
run_chunk-requires-clause-condition g c κs h = c.requires.able.condition c.args.chunk (c.take.ensures.on_board c.if-not-take.false)
