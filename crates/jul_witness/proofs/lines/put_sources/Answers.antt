use Rattle.std.proofs.Common.{ℕ, List, [], ◌∷◌, ◌++◌, length, subst}
use Rattle.std.proofs.lemmas.Result.{on_ok_weaker, on_err_weaker}
use Rattle.jul_base.specs.Sinks.{SinkState, FailedWriting, IsSent}
use Rattle.jul_base.proofs.SendingLaws.{on_err_holds, sent_more, failed_more, failed_before}
use Rattle.jul_witness.specs.Texts.{value_text, spaced_values}
use Rattle.jul_witness.proofs.TextLaws.{values_line-is}
use Rattle.jul_witness.proofs.lines.put_sources.Goals as goal

pub returns-in_err-put_number-clause-err : goal.returns-in_err-put_number-clause-err
returns-in_err-put_number-clause-err g c =
    let start : SinkState = g.S.Sink.state c.args.sink.now in
    let end : SinkState = g.S.Sink.state c.put_number.new.sink in
    let count : ℕ = length c.args.sources.now in
    let rest : List ℕ = spaced_values c.args.sources.now ++ 10 ∷ [] in
    on_err_holds c.from_residual.result
    (subst (λ (t : List ℕ). FailedWriting start end (c.args.block.now ++ t)) (values_line-is count c.args.sources.now)
    (failed_before start end c.args.block.now (value_text count) rest c.in_err-put_number.ensures.err))

pub returns-clause-ok : goal.returns-clause-ok
returns-clause-ok g c =
    let start : SinkState = g.S.Sink.state c.args.sink.now in
    let end : SinkState = g.S.Sink.state c.put_rest.new.sink in
    let count : ℕ = length c.args.sources.now in
    let rest : List ℕ = spaced_values c.args.sources.now ++ 10 ∷ [] in
    on_ok_weaker c.put_rest.result
    (λ second. subst (λ (t : List ℕ). IsSent start end c.put_rest.new.block (c.args.block.now ++ t)) (values_line-is count c.args.sources.now)
    (sent_more _ _ _ _ _ c.args.block.now (value_text count) rest c.in_ok-put_number.ensures.ok second))
    c.put_rest.ensures.ok

pub returns-clause-err : goal.returns-clause-err
returns-clause-err g c =
    let start : SinkState = g.S.Sink.state c.args.sink.now in
    let end : SinkState = g.S.Sink.state c.put_rest.new.sink in
    let count : ℕ = length c.args.sources.now in
    let rest : List ℕ = spaced_values c.args.sources.now ++ 10 ∷ [] in
    on_err_weaker c.put_rest.result
    (λ failed. subst (λ (t : List ℕ). FailedWriting start end (c.args.block.now ++ t)) (values_line-is count c.args.sources.now)
    (failed_more _ _ _ _ c.args.block.now (value_text count) rest c.put_number.ensures.faults c.in_ok-put_number.ensures.ok failed))
    c.put_rest.ensures.err
