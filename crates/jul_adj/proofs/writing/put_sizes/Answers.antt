use Rattle.std.proofs.Common.{◌≡◌, ℕ, List, ◌++◌, decimal, refl, ◌∙◌, ap, subst, arith}
use Rattle.std.proofs.lemmas.Result.{on_ok_weaker, on_err_weaker}
use Rattle.jul_base.specs.declared.graphs.RawGraph.{RawGraph}
use Rattle.jul_base.specs.Graph.{vertices, places}
use Rattle.jul_base.specs.Sinks.{SinkState, FailedWriting, IsSent}
use Rattle.jul_text.specs.Lines.{line_of}
use Rattle.jul_base.proofs.SendingLaws.{on_err_holds, sent_more, failed_more, failed_before}
use Rattle.jul_adj.specs.Texts.{header_word, size_lines}
use Rattle.jul_adj.proofs.writing.put_sizes.Goals as goal

-- the lines that were put are those of the graph
lines : (g : RawGraph) (header : List ℕ) (n m : ℕ) → header ≡ line_of (header_word g) → n ≡ vertices g → m ≡ places g →
    header ++ line_of (decimal n) ++ line_of (decimal m) ≡ size_lines g
lines g header n m a b c =
    ap (λ (h : List ℕ). h ++ line_of (decimal n) ++ line_of (decimal m)) a
    ∙ ap (λ (k : ℕ). line_of (header_word g) ++ line_of (decimal k) ++ line_of (decimal m)) b
    ∙ ap (λ (k : ℕ). line_of (header_word g) ++ line_of (decimal (vertices g)) ++ line_of (decimal k)) c

pub returns-in_err-put-clause-err : goal.returns-in_err-put-clause-err
returns-in_err-put-clause-err g c =
    let graph : RawGraph = c.args.graph.now in
    let old : List ℕ = c.args.block.now in
    let header : List ℕ = line_of (header_word graph) in
    let n : List ℕ = line_of (decimal (vertices graph)) in
    let start : SinkState = g.S.Sink.state c.args.sink.now in
    let end : SinkState = g.S.Sink.state c.put.new.sink in
    let here : FailedWriting start end (old ++ header) = subst (λ (h : List ℕ). FailedWriting start end (old ++ h)) c.header_line.ensures c.in_err-put.ensures.err in
    on_err_holds c.from_residual.result
    (failed_before start end old (header ++ n) (line_of (decimal (places graph))) (failed_before start end old header n here))

pub returns-in_err-put_number-clause-err : goal.returns-in_err-put_number-clause-err
returns-in_err-put_number-clause-err g c =
    let graph : RawGraph = c.args.graph.now in
    let old : List ℕ = c.args.block.now in
    let header : List ℕ = c.header_line.result.now in
    let n : List ℕ = line_of (decimal c.len.result) in
    let m : List ℕ = line_of (decimal (places graph)) in
    let start : SinkState = g.S.Sink.state c.args.sink.now in
    let middle : SinkState = g.S.Sink.state c.put.new.sink in
    let end : SinkState = g.S.Sink.state c.put_number.new.sink in
    let here : FailedWriting start end (old ++ (header ++ n)) = failed_more start middle end c.put.new.self old header n c.put.ensures.faults c.in_ok-put.ensures.ok c.in_err-put_number.ensures.err in
    on_err_holds c.from_residual-in_err-put_number.result
    (subst (λ (t : List ℕ). FailedWriting start end (old ++ t)) (lines graph header c.len.result (places graph) c.header_line.ensures c.len.ensures refl)
    (failed_before start end old (header ++ n) m here))

pub returns-clause-ok : goal.returns-clause-ok
returns-clause-ok g c =
    let graph : RawGraph = c.args.graph.now in
    let old : List ℕ = c.args.block.now in
    let header : List ℕ = c.header_line.result.now in
    let n : List ℕ = line_of (decimal c.len.result) in
    let m : List ℕ = line_of (decimal c.len-2.result) in
    let s0 : SinkState = g.S.Sink.state c.args.sink.now in
    let s1 : SinkState = g.S.Sink.state c.put.new.sink in
    let s2 : SinkState = g.S.Sink.state c.put_number.new.sink in
    let s3 : SinkState = g.S.Sink.state c.put_number-2.new.sink in
    let second : IsSent s0 s2 c.put_number.new.block (old ++ (header ++ n)) = sent_more s0 s1 s2 c.put.new.self c.put_number.new.block old header n c.in_ok-put.ensures.ok c.in_ok-put_number.ensures.ok in
    on_ok_weaker c.put_number-2.result
    (λ third. subst (λ (t : List ℕ). IsSent s0 s3 c.put_number-2.new.block (old ++ t)) (lines graph header c.len.result c.len-2.result c.header_line.ensures c.len.ensures c.len-2.ensures)
    (sent_more s0 s2 s3 c.put_number.new.block c.put_number-2.new.block old (header ++ n) m second third))
    c.put_number-2.ensures.ok

pub returns-clause-err : goal.returns-clause-err
returns-clause-err g c =
    let graph : RawGraph = c.args.graph.now in
    let old : List ℕ = c.args.block.now in
    let header : List ℕ = c.header_line.result.now in
    let n : List ℕ = line_of (decimal c.len.result) in
    let m : List ℕ = line_of (decimal c.len-2.result) in
    let s0 : SinkState = g.S.Sink.state c.args.sink.now in
    let s1 : SinkState = g.S.Sink.state c.put.new.sink in
    let s2 : SinkState = g.S.Sink.state c.put_number.new.sink in
    let s3 : SinkState = g.S.Sink.state c.put_number-2.new.sink in
    let second : IsSent s0 s2 c.put_number.new.block (old ++ (header ++ n)) = sent_more s0 s1 s2 c.put.new.self c.put_number.new.block old header n c.in_ok-put.ensures.ok c.in_ok-put_number.ensures.ok in
    on_err_weaker c.put_number-2.result
    (λ failed. subst (λ (t : List ℕ). FailedWriting s0 s3 (old ++ t)) (lines graph header c.len.result c.len-2.result c.header_line.ensures c.len.ensures c.len-2.ensures)
    (failed_more s0 s2 s3 c.put_number.new.block old (header ++ n) m (omega (arith, c.put.ensures.faults, c.put_number.ensures.faults)) second failed))
    c.put_number-2.ensures.err
