use Rattle.std.proofs.Common.{[], ◌∷◌, ◌++◌}
use Rattle.std.proofs.lemmas.Result.{on_ok_weaker, on_err_weaker}
use Rattle.jul_base.proofs.SendingLaws.{on_err_holds, sent_more, failed_more, failed_before}
use Rattle.jul_witness.specs.Texts.{value_text, values_line}
use Rattle.jul_witness.proofs.lines.put_triple.Goals as goal

pub returns-in_err-put_value-clause-err : goal.returns-in_err-put_value-clause-err
returns-in_err-put_value-clause-err g c =
    on_err_holds c.from_residual.result
    (failed_before _ _ c.args.block.now (value_text c.args.first ++ 32 ∷ []) (values_line (c.args.second ∷ c.args.third ∷ [])) c.in_err-put_value.ensures.err)

pub returns-clause-ok : goal.returns-clause-ok
returns-clause-ok g c =
    on_ok_weaker c.put_pair.result
    (λ second. sent_more _ _ _ _ _ c.args.block.now (value_text c.args.first ++ 32 ∷ []) (values_line (c.args.second ∷ c.args.third ∷ [])) c.in_ok-put_value.ensures.ok second)
    c.put_pair.ensures.ok

pub returns-clause-err : goal.returns-clause-err
returns-clause-err g c =
    on_err_weaker c.put_pair.result
    (λ failed. failed_more _ _ _ _ c.args.block.now (value_text c.args.first ++ 32 ∷ []) (values_line (c.args.second ∷ c.args.third ∷ [])) c.put_value.ensures.faults c.in_ok-put_value.ensures.ok failed)
    c.put_pair.ensures.err
