use Rattle.std.proofs.Common.{ap}
use Rattle.std.proofs.lemmas.Result.{IfOk-weaker, IfErr-weaker}
use Rattle.jul_query.specs.Asking.{input_of, work_of, problem_of, form_of, named_sources, purpose_of}
use Rattle.jul_cmd.proofs.VerdictLaws.{at_err}
use Rattle.jul_cmd.proofs.AnswerLaws.{input_refused, solve_done, solve_refused, checked_done, check_refused}
use Rattle.jul_cmd.proofs.running.find_reply.Goals as goal

pub returns-in_err-loaded-clause-refused : goal.returns-in_err-loaded-clause-refused
returns-in_err-loaded-clause-refused g c =
    at_err _ c.from_residual.result _ c.from_residual.ensures.1
    (input_refused (input_of c.args.query.input) (work_of c.args.query.work) _ _ _ c.in_err-loaded.ensures.refused)

pub returns-in-Solve-clause-found : goal.returns-in-Solve-clause-found
returns-in-Solve-clause-found g c =
    IfOk-weaker c.solve.result _ _ (λ reply done.
    solve_done (input_of c.args.query.input) (work_of c.args.query.work) (problem_of c.in-Solve.problem) (form_of c.in-Solve.form) _ _ c.in_ok-loaded.loaded.rows _ _ (ap work_of c.in-Solve.is)
    c.in_ok-loaded.ensures.rows done) c.solve.ensures.done

pub returns-in-Solve-clause-refused : goal.returns-in-Solve-clause-refused
returns-in-Solve-clause-refused g c =
    IfErr-weaker c.solve.result _ _ (λ status unsolved.
    solve_refused (input_of c.args.query.input) (work_of c.args.query.work) (problem_of c.in-Solve.problem) (form_of c.in-Solve.form) _ _ c.in_ok-loaded.loaded.rows status (ap work_of c.in-Solve.is)
    c.in_ok-loaded.ensures.rows unsolved) c.solve.ensures.refused

pub returns-in-Judge-clause-found : goal.returns-in-Judge-clause-found
returns-in-Judge-clause-found g c =
    checked_done (input_of c.args.query.input) (work_of c.args.query.work) _ _ _ c.in_ok-loaded.loaded.rows (purpose_of c.in-Judge.purpose) c.in-Judge.witness.now (named_sources c.in-Judge.sources) c.judge.result (ap work_of c.in-Judge.is)
    c.in_ok-loaded.ensures.rows c.judge.ensures.given c.judge.ensures.found

pub returns-in-Judge-clause-refused : goal.returns-in-Judge-clause-refused
returns-in-Judge-clause-refused g c =
    IfErr-weaker c.judge.result _ _ (λ status unchecked.
    check_refused (input_of c.args.query.input) (work_of c.args.query.work) _ _ _ c.in_ok-loaded.loaded.rows (purpose_of c.in-Judge.purpose) c.in-Judge.witness.now (named_sources c.in-Judge.sources) status (ap work_of c.in-Judge.is)
    c.load_input.ensures.faults c.in_ok-loaded.ensures.rows unchecked) c.judge.ensures.refused
