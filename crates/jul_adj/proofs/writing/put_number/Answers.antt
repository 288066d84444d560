use Rattle.std.proofs.Common.{[], ◌∷◌, decimal}
use Rattle.std.proofs.lemmas.Result.{on_ok_weaker, on_err_weaker}
use Rattle.jul_base.proofs.SendingLaws.{sent_more, failed_more}
use Rattle.jul_adj.proofs.writing.put_number.Goals as goal

pub returns-clause-ok : goal.returns-clause-ok
returns-clause-ok g c =
    on_ok_weaker c.put.result (λ second. sent_more _ _ _ _ _ c.args.block.now (decimal c.args.number) (10 ∷ []) c.in_ok-put_u64.ensures.ok second) c.put.ensures.ok

pub returns-clause-err : goal.returns-clause-err
returns-clause-err g c =
    on_err_weaker c.put.result (λ failed. failed_more _ _ _ _ c.args.block.now (decimal c.args.number) (10 ∷ []) c.put_u64.ensures.faults c.in_ok-put_u64.ensures.ok failed) c.put.ensures.err
