use Rattle.std.proofs.Common.{[], ◌∷◌}
use Rattle.std.proofs.lemmas.Result.{on_ok_weaker, on_err_weaker}
use Rattle.jul_base.proofs.SendingLaws.{sent_more, failed_more}
use Rattle.jul_witness.specs.Texts.{value_text}
use Rattle.jul_witness.proofs.lines.put_spaced.Goals as goal

pub returns-clause-ok : goal.returns-clause-ok
returns-clause-ok g c =
    on_ok_weaker c.put_number.result
    (λ second. sent_more _ _ _ _ _ c.args.block.now (32 ∷ []) (value_text c.args.value) c.in_ok-put.ensures.ok second)
    c.put_number.ensures.ok

pub returns-clause-err : goal.returns-clause-err
returns-clause-err g c =
    on_err_weaker c.put_number.result
    (λ failed. failed_more _ _ _ _ c.args.block.now (32 ∷ []) (value_text c.args.value) c.put.ensures.faults c.in_ok-put.ensures.ok failed)
    c.put_number.ensures.err
