use Rattle.std.proofs.lemmas.Result.{on_ok_weaker, on_err_weaker}
use Rattle.jul_base.proofs.SendingLaws.{sent_more, failed_more}
use Rattle.jul_witness.specs.Texts.{value_text}
use Rattle.jul_witness.proofs.lines.put_value.Goals as goal

pub returns-clause-ok : goal.returns-clause-ok
returns-clause-ok g c =
    on_ok_weaker c.put.result (λ second. sent_more _ _ _ _ _ c.args.block.now (value_text c.args.value) c.args.end.now c.in_ok-put_number.ensures.ok second) c.put.ensures.ok

pub returns-clause-err : goal.returns-clause-err
returns-clause-err g c =
    on_err_weaker c.put.result (λ failed. failed_more _ _ _ _ c.args.block.now (value_text c.args.value) c.args.end.now c.put_number.ensures.faults c.in_ok-put_number.ensures.ok failed) c.put.ensures.err
