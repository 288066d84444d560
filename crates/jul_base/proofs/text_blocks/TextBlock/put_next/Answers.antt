use Rattle.std.proofs.Common.{◌≡◌, [], ap, ◌∙◌}
use Rattle.std.proofs.lemmas.Result.{on_ok_weaker, on_err_weaker}
use Rattle.jul_base.proofs.SinkLaws.{Appended-then, IsSent-whole, FailedWriting-after}
use Rattle.jul_base.proofs.text_blocks.TextBlock.put_next.Goals as goal

pub returns-clause-ok : goal.returns-clause-ok
returns-clause-ok g c =
    let kept : c.try_extend_from_slice.new.self.items ≡ [] = ap (λ v. v.items) c.in_default.ensures.err ∙ c.self.view_is ∙ c.in_ok-flush.ensures.empty in
    on_ok_weaker c.write_whole.result (λ second. IsSent-whole _ _ _ _ kept (Appended-then _ _ _ _ _ c.in_ok-flush.ensures.ok second)) c.write_whole.ensures.ok

pub returns-clause-err : goal.returns-clause-err
returns-clause-err g c =
    on_err_weaker c.write_whole.result (λ failed. FailedWriting-after _ _ _ _ _ c.flush.ensures.faults c.in_ok-flush.ensures.ok failed) c.write_whole.ensures.err
