use Rattle.std.proofs.Common.{[], ◌∷◌, ◌++◌}
use Rattle.std.proofs.lemmas.Result.{on_ok_weaker, on_err_weaker}
use Rattle.jul_base.proofs.SendingLaws.{sent_more, failed_more}
use Rattle.jul_witness.specs.Texts.{value_text}
use Rattle.jul_witness.proofs.lines.put_pair.Goals as goal

pub returns-clause-ok : goal.returns-clause-ok
returns-clause-ok g c =
    on_ok_weaker c.put_value-2.result
    (λ second. sent_more _ _ _ _ _ c.args.block.now (value_text c.args.first ++ 32 ∷ []) (value_text c.args.second ++ 10 ∷ []) c.in_ok-put_value.ensures.ok second)
    c.put_value-2.ensures.ok

pub returns-clause-err : goal.returns-clause-err
returns-clause-err g c =
    on_err_weaker c.put_value-2.result
    (λ failed. failed_more _ _ _ _ c.args.block.now (value_text c.args.first ++ 32 ∷ []) (value_text c.args.second ++ 10 ∷ []) c.put_value.ensures.faults c.in_ok-put_value.ensures.ok failed)
    c.put_value-2.ensures.err
