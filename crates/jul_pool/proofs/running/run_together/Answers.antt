use Rattle.std.proofs.Common.{◌∙◌, sym, subst}
use Rattle.jul_base.specs.Times.{EachOnceBelow}
use Rattle.jul_pool.specs.Runs.{EachRunOnce}
use Rattle.jul_pool.proofs.WorkLaws.{did_worked, listed_worked}
use Rattle.jul_pool.proofs.LeftoverLaws.{did_small}
use Rattle.jul_pool.proofs.GatheringLaws.{firsts, each_once_done, ran_from_did}
use Rattle.jul_pool.proofs.running.run_together.Goals as goal

pub run_rest-requires-clause-small : goal.run_rest-requires-clause-small
run_rest-requires-clause-small g c κs h = did_small (g.J.Job.gives c.args.job.now) _ _ _ _ c.in_ok-done.ensures.did

pub settle-requires : goal.settle-requires
settle-requires g c =
    let share = g.J.Token.Share in
    let gives = g.J.Job.gives c.args.job.now in
    let chunks = c.in_ok-board.board.chunks in
    let done = c.in_ok-done.ensures in
    let rest = c.in_ok-run_rest.ensures in
    let did = did_worked share.log share.home share.is_root share.out gives chunks (share.log c.lend.new.token) _ _ rest.worked done.did in
    let listed = listed_worked share.log share.home share.is_root share.out gives chunks _ _ rest.worked done.chunks in
    subst (λ n. EachOnceBelow n (firsts c.run_rest.new.lead.done.items)) c.in_ok-board.ensures.chunks (each_once_done gives chunks _ _ _ _ listed c.close.ensures rest.all did)

pub returns-clause-each_once : goal.returns-clause-each_once
returns-clause-each_once g c =
    let share = g.J.Token.Share in
    let gives = g.J.Job.gives c.args.job.now in
    let chunks = c.in_ok-board.board.chunks in
    let done = c.in_ok-done.ensures in
    let rest = c.in_ok-run_rest.ensures in
    let out = c.in_ok-outs.ensures in
    let did = did_worked share.log share.home share.is_root share.out gives chunks (share.log c.lend.new.token) _ _ rest.worked done.did in
    let listed = listed_worked share.log share.home share.is_root share.out gives chunks _ _ rest.worked done.chunks in
    let once = each_once_done gives chunks _ _ _ _ listed c.close.ensures rest.all did in
    let ran = ran_from_did gives chunks _ _ _ _ _ did out.stored (c.from_vec.ensures ∙ out.order) (out.count ∙ sym c.in_ok-board.ensures.chunks) once in
    rw (sym c.in_ok-lent.ensures.log) (subst (λ n. EachRunOnce gives n (share.log c.lend.new.token) (share.log c.run_rest.new.lead.token) c.in_ok-outs.outs.items c.from_vec.result) c.in_ok-board.ensures.chunks ran)
