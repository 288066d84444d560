use Rattle.std.proofs.Common.{Ok, sym, ◌∙◌, ap}
use Rattle.jul_check.specs.declared.verdicts.Verdict.{Verdict}
use Rattle.jul_query.specs.Asking.{named_sources, purpose_of}
use Rattle.jul_cmd.specs.Checking.{yes_text, verdict_text}
use Rattle.jul_cmd.proofs.VerdictLaws.{at_err, size_same, witness_refused, columns_refused, columns_judged, read_back_named}
use Rattle.jul_cmd.proofs.checking.judge_witness.Goals as goal

pub returns-in_err-check_witness-clause-refused : goal.returns-in_err-check_witness-clause-refused
returns-in_err-check_witness-clause-refused c =
    at_err _ c.from_residual.result _ c.from_residual.ensures.1
    (witness_refused c.args.rows.now (purpose_of c.args.purpose) (named_sources c.args.given) c.args.witness _ c.in_err-check_witness.ensures.first)

pub judge_columns-requires-clause-size : goal.judge_columns-requires-clause-size
judge_columns-requires-clause-size c = size_same c.args.rows.now (named_sources c.args.given) c.args.witness c.in_ok-check_witness.ensures.none

pub returns-in_err-verdict-clause-refused : goal.returns-in_err-verdict-clause-refused
returns-in_err-verdict-clause-refused c =
    at_err _ c.from_residual-in_err-verdict.result _ c.from_residual-in_err-verdict.ensures.1
    (columns_refused c.args.rows.now (purpose_of c.args.purpose) (named_sources c.args.given) c.args.witness c.as_slice.result.now _ c.in_ok-check_witness.ensures.none
    (c.as_slice.ensures ∙ c.in_ok-sources.ensures.meant) c.in_err-verdict.ensures.verdict)

pub returns-clause-judged : goal.returns-clause-judged
returns-clause-judged c =
    let purpose = purpose_of c.args.purpose in
    let sources = c.as_slice.result.now in
    let columns = c.args.witness.columns in
    columns_judged c.args.rows.now purpose (named_sources c.args.given) c.args.witness c.m-places.result sources c.in_ok-verdict.verdict _ _ c.in_ok-check_witness.ensures.none c.m-places.ensures.count
    (c.as_slice.ensures ∙ c.in_ok-sources.ensures.meant) c.in_ok-verdict.ensures.verdict (λ is_yes. c.in_ok-verdict.ensures.sound (ap (λ (v : Verdict). Ok v) is_yes))
    (read_back_named c.m-places.result sources _ columns (c.as_slice-2.ensures ∙ sym c.as_slice.ensures) c.is_read_back.ensures) c.verdict_reply.ensures.status
    (c.verdict_reply.ensures.text ∙ ap (λ t. verdict_text t c.in_ok-verdict.verdict) c.text_of_yes-yes.ensures.text
    ∙ ap (λ s. verdict_text (yes_text purpose c.m-places.result s columns) c.in_ok-verdict.verdict) (sym c.as_slice.ensures))
