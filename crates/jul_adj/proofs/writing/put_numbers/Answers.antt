use Rattle.std.proofs.Common.{ℕ, List, ◌++◌, ◌+◌, get_or, take, drop, decimal, subst, arith}
use Rattle.jul_base.specs.Sinks.{SinkState, FailedWriting, IsSent}
use Rattle.jul_text.specs.Lines.{line_of}
use Rattle.jul_base.proofs.SendingLaws.{on_err_holds, sent_more, failed_more, failed_before}
use Rattle.jul_adj.specs.Texts.{number_lines}
use Rattle.jul_adj.proofs.TextLaws.{number_lines-more, number_lines-rest}
use Rattle.jul_adj.proofs.writing.put_numbers.Goals as goal

pub returns-in_err-put_number-clause-err : goal.returns-in_err-put_number-clause-err
returns-in_err-put_number-clause-err g c =
    let xs : List ℕ = c.args.numbers.now in
    let i : ℕ = c.loop-number.number-index in
    let old : List ℕ = c.args.block.now in
    let line : List ℕ = line_of (decimal (get_or xs i 0)) in
    let start : SinkState = g.S.Sink.state c.args.sink.now in
    let before : SinkState = g.S.Sink.state c.loop-number.sink in
    let end : SinkState = g.S.Sink.state c.put_number.new.sink in
    let here : FailedWriting start end (old ++ (number_lines (take i xs) ++ line)) =
    failed_more start before end c.loop-number.block old (number_lines (take i xs)) line c.loop-number.invariant.faults c.loop-number.invariant.sent c.in_err-put_number.ensures.err in
    on_err_holds c.from_residual.result
    (subst (λ (t : List ℕ). FailedWriting start end (old ++ t)) (number_lines-rest xs i c.loop-number-test.true)
    (failed_before start end old (number_lines (take i xs) ++ line) (number_lines (drop (i + 1) xs)) here))

pub loop-number-preserved : goal.loop-number-preserved
loop-number-preserved g c =
    let xs : List ℕ = c.args.numbers.now in
    let i : ℕ = c.loop-number.number-index in
    let old : List ℕ = c.args.block.now in
    let start : SinkState = g.S.Sink.state c.args.sink.now in
    let before : SinkState = g.S.Sink.state c.loop-number.sink in
    let end : SinkState = g.S.Sink.state c.put_number.new.sink in
    record {
      sent = subst (λ (t : List ℕ). IsSent start end c.put_number.new.block (old ++ t)) (number_lines-more xs i c.loop-number-test.true)
          (sent_more start before end c.loop-number.block c.put_number.new.block old (number_lines (take i xs)) (line_of (decimal (get_or xs i 0))) c.loop-number.invariant.sent c.in_ok-put_number.ensures.ok);
      faults = omega (arith, c.loop-number.invariant.faults, c.put_number.ensures.faults);
    }
