use Rattle.std.proofs.Common.{refl}
use Rattle.jul_pool.proofs.WorkLaws.{worked_then, worked_all, lent_can_work, can_still_work}
use Rattle.jul_pool.proofs.workers.work.Goals as goal

pub returns : goal.returns
returns g c =
    let share = g.J.Token.Share in
    let gives = g.J.Job.gives c.args.round.now.job.now in
    let both = worked_then share.log share.home share.is_root share.out gives c.args.round.now.board.now.chunks _ c.run_own.new.me c.run_stolen.new.me c.in_ok-run_own.ensures c.in_ok-run_stolen.ensures in
    worked_all share.log share.home share.is_root share.out g.J.Job.gives c.args.round.now c.args.lent _ c.run_stolen.new.me c.requires.lent refl refl c.in_ok-done.ensures.items both

pub run_own-requires-clause-able : goal.run_own-requires-clause-able
run_own-requires-clause-able g c κs h = let share = g.J.Token.Share in lent_can_work share.log share.home share.is_root share.out g.J.Job.gives c.args.round.now g.J.Job.can_run c.args.lent _ c.requires.lent refl refl c.requires.condition

pub run_stolen-requires-clause-able : goal.run_stolen-requires-clause-able
run_stolen-requires-clause-able g c κs h =
    let share = g.J.Token.Share in
    let able = lent_can_work share.log share.home share.is_root share.out g.J.Job.gives c.args.round.now g.J.Job.can_run c.args.lent _ c.requires.lent refl refl c.requires.condition in
    can_still_work share.log share.home share.is_root share.out (g.J.Job.gives c.args.round.now.job.now) g.J.Job.can_run c.args.round.now _ c.run_own.new.me able c.in_ok-run_own.ensures
