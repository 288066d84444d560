use Rattle.std.proofs.Common.{[], ◌∷◌}
use Rattle.std.proofs.lemmas.Result.{on_ok_weaker, on_err_weaker}
use Rattle.jul_base.proofs.SendingLaws.{on_err_holds, sent_more, failed_more, failed_before}
use Rattle.jul_witness.specs.Texts.{spaced_values}
use Rattle.jul_witness.proofs.lines.put_rest.Goals as goal

pub returns-in_err-put_each-clause-err : goal.returns-in_err-put_each-clause-err
returns-in_err-put_each-clause-err g c =
    on_err_holds c.from_residual.result (failed_before _ _ c.args.block.now (spaced_values c.args.numbers.now) (10 ∷ []) c.in_err-put_each.ensures.err)

pub returns-clause-ok : goal.returns-clause-ok
returns-clause-ok g c =
    on_ok_weaker c.put.result
    (λ second. sent_more _ _ _ _ _ c.args.block.now (spaced_values c.args.numbers.now) (10 ∷ []) c.in_ok-put_each.ensures.ok second)
    c.put.ensures.ok

pub returns-clause-err : goal.returns-clause-err
returns-clause-err g c =
    on_err_weaker c.put.result
    (λ failed. failed_more _ _ _ _ c.args.block.now (spaced_values c.args.numbers.now) (10 ∷ []) c.put_each.ensures.faults c.in_ok-put_each.ensures.ok failed)
    c.put.ensures.err
