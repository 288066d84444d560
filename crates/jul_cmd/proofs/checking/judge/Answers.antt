use Rattle.jul_query.specs.Asking.{named_sources, purpose_of}
use Rattle.std.proofs.lemmas.Result.{IfErr-weaker}
use Rattle.jul_cmd.proofs.VerdictLaws.{at_err}
use Rattle.jul_cmd.proofs.AnswerLaws.{unread_refused, read_checked, read_refused}
use Rattle.jul_cmd.proofs.checking.judge.Goals as goal

pub returns-in_err-witness-clause-refused : goal.returns-in_err-witness-clause-refused
returns-in_err-witness-clause-refused g c =
    at_err _ c.from_residual.result _ c.from_residual.ensures.1
    (unread_refused _ _ c.args.rows.now (purpose_of c.args.purpose) c.args.name.now (named_sources c.args.given) _ c.in_err-witness.ensures.refused)

pub returns-clause-found : goal.returns-clause-found
returns-clause-found g c =
    read_checked _ _ c.args.rows.now (purpose_of c.args.purpose) c.args.name.now (named_sources c.args.given) c.in_ok-witness.witness c.judge_witness.result c.in_ok-witness.ensures.witness c.judge_witness.ensures.judged

pub returns-clause-refused : goal.returns-clause-refused
returns-clause-refused g c =
    IfErr-weaker c.judge_witness.result _ _ (λ status refused.
    read_refused _ _ c.args.rows.now (purpose_of c.args.purpose) c.args.name.now (named_sources c.args.given) c.in_ok-witness.witness status c.in_ok-witness.ensures.witness refused) c.judge_witness.ensures.refused
