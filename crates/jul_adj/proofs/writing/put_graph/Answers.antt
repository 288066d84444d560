use Rattle.std.proofs.Common.{◌≡◌, ℕ, List, ◌++◌, sym, ◌∙◌, ap, subst, arith}
use Rattle.std.proofs.lemmas.Result.{on_ok_weaker, on_err_weaker}
use Rattle.jul_base.specs.declared.graphs.RawGraph.{RawGraph}
use Rattle.jul_base.specs.Sinks.{SinkState, FailedWriting, IsSent}
use Rattle.jul_base.proofs.SendingLaws.{on_err_holds, sent_more, failed_more, failed_before}
use Rattle.jul_adj.specs.Texts.{size_lines, number_lines, graph_text}
use Rattle.jul_adj.proofs.TextLaws.{graph_text-parts}
use Rattle.jul_adj.proofs.writing.put_graph.Goals as goal

-- the lines that were put are the text of the graph
whole_text : (g : RawGraph) (os ts ws : List ℕ) → os ≡ g.offsets → ts ≡ g.targets → ws ≡ g.weights → size_lines g ++ number_lines os ++ number_lines ts ++ number_lines ws ≡ graph_text g
whole_text g os ts ws a b c =
    ap (λ (xs : List ℕ). size_lines g ++ number_lines xs ++ number_lines ts ++ number_lines ws) a
    ∙ ap (λ (xs : List ℕ). size_lines g ++ number_lines g.offsets ++ number_lines xs ++ number_lines ws) b
    ∙ ap (λ (xs : List ℕ). size_lines g ++ number_lines g.offsets ++ number_lines g.targets ++ number_lines xs) c
    ∙ sym (graph_text-parts g)

-- a failure in the first, the second or the third part of the text
failed_in_sizes : (g : RawGraph) (a b : SinkState) (old : List ℕ) → FailedWriting a b (old ++ size_lines g) → FailedWriting a b (old ++ graph_text g)
failed_in_sizes g a b old failed =
    subst (λ (t : List ℕ). FailedWriting a b (old ++ t)) (sym (graph_text-parts g))
    (failed_before a b old (size_lines g ++ number_lines g.offsets ++ number_lines g.targets) (number_lines g.weights)
    (failed_before a b old (size_lines g ++ number_lines g.offsets) (number_lines g.targets)
    (failed_before a b old (size_lines g) (number_lines g.offsets) failed)))

failed_in_offsets : (g : RawGraph) (a b : SinkState) (old : List ℕ) → FailedWriting a b (old ++ (size_lines g ++ number_lines g.offsets)) → FailedWriting a b (old ++ graph_text g)
failed_in_offsets g a b old failed =
    subst (λ (t : List ℕ). FailedWriting a b (old ++ t)) (sym (graph_text-parts g))
    (failed_before a b old (size_lines g ++ number_lines g.offsets ++ number_lines g.targets) (number_lines g.weights)
    (failed_before a b old (size_lines g ++ number_lines g.offsets) (number_lines g.targets) failed))

failed_in_targets : (g : RawGraph) (a b : SinkState) (old : List ℕ) → FailedWriting a b (old ++ (size_lines g ++ number_lines g.offsets ++ number_lines g.targets)) →
    FailedWriting a b (old ++ graph_text g)
failed_in_targets g a b old failed =
    subst (λ (t : List ℕ). FailedWriting a b (old ++ t)) (sym (graph_text-parts g))
    (failed_before a b old (size_lines g ++ number_lines g.offsets ++ number_lines g.targets) (number_lines g.weights) failed)

pub returns-in_err-put_sizes-clause-err : goal.returns-in_err-put_sizes-clause-err
returns-in_err-put_sizes-clause-err g c = on_err_holds c.from_residual.result (failed_in_sizes c.args.graph.now _ _ c.args.block.now c.in_err-put_sizes.ensures.err)

pub returns-in_err-put_numbers-clause-err : goal.returns-in_err-put_numbers-clause-err
returns-in_err-put_numbers-clause-err g c =
    let graph : RawGraph = c.args.graph.now in
    let old : List ℕ = c.args.block.now in
    let s0 : SinkState = g.S.Sink.state c.args.sink.now in
    let s1 : SinkState = g.S.Sink.state c.put_sizes.new.sink in
    let s2 : SinkState = g.S.Sink.state c.put_numbers.new.sink in
    let failed : FailedWriting s1 s2 (c.put_sizes.new.block ++ number_lines graph.offsets) =
    subst (λ (xs : List ℕ). FailedWriting s1 s2 (c.put_sizes.new.block ++ number_lines xs)) c.as_slice.ensures c.in_err-put_numbers.ensures.err in
    on_err_holds c.from_residual-in_err-put_numbers.result
    (failed_in_offsets graph s0 s2 old (failed_more s0 s1 s2 c.put_sizes.new.block old (size_lines graph) (number_lines graph.offsets) c.put_sizes.ensures.faults c.in_ok-put_sizes.ensures.ok failed))

pub returns-in_err-put_numbers-2-clause-err : goal.returns-in_err-put_numbers-2-clause-err
returns-in_err-put_numbers-2-clause-err g c =
    let graph : RawGraph = c.args.graph.now in
    let old : List ℕ = c.args.block.now in
    let s0 : SinkState = g.S.Sink.state c.args.sink.now in
    let s1 : SinkState = g.S.Sink.state c.put_sizes.new.sink in
    let s2 : SinkState = g.S.Sink.state c.put_numbers.new.sink in
    let s3 : SinkState = g.S.Sink.state c.put_numbers-2.new.sink in
    let offsets : IsSent s1 s2 c.put_numbers.new.block (c.put_sizes.new.block ++ number_lines graph.offsets) =
    subst (λ (xs : List ℕ). IsSent s1 s2 c.put_numbers.new.block (c.put_sizes.new.block ++ number_lines xs)) c.as_slice.ensures c.in_ok-put_numbers.ensures.ok in
    let second : IsSent s0 s2 c.put_numbers.new.block (old ++ (size_lines graph ++ number_lines graph.offsets)) =
    sent_more s0 s1 s2 c.put_sizes.new.block c.put_numbers.new.block old (size_lines graph) (number_lines graph.offsets) c.in_ok-put_sizes.ensures.ok offsets in
    let failed : FailedWriting s2 s3 (c.put_numbers.new.block ++ number_lines graph.targets) =
    subst (λ (xs : List ℕ). FailedWriting s2 s3 (c.put_numbers.new.block ++ number_lines xs)) c.as_slice-2.ensures c.in_err-put_numbers-2.ensures.err in
    on_err_holds c.from_residual-in_err-put_numbers-2.result
    (failed_in_targets graph s0 s3 old
    (failed_more s0 s2 s3 c.put_numbers.new.block old (size_lines graph ++ number_lines graph.offsets) (number_lines graph.targets) (omega (arith, c.put_sizes.ensures.faults, c.put_numbers.ensures.faults)) second failed))

pub returns-clause-ok : goal.returns-clause-ok
returns-clause-ok g c =
    let graph : RawGraph = c.args.graph.now in
    let old : List ℕ = c.args.block.now in
    let s0 : SinkState = g.S.Sink.state c.args.sink.now in
    let s1 : SinkState = g.S.Sink.state c.put_sizes.new.sink in
    let s2 : SinkState = g.S.Sink.state c.put_numbers.new.sink in
    let s3 : SinkState = g.S.Sink.state c.put_numbers-2.new.sink in
    let s4 : SinkState = g.S.Sink.state c.put_numbers-3.new.sink in
    let third : IsSent s0 s3 c.put_numbers-2.new.block (old ++ (size_lines graph ++ number_lines c.as_slice.result.now ++ number_lines c.as_slice-2.result.now)) =
    sent_more s0 s2 s3 c.put_numbers.new.block c.put_numbers-2.new.block old (size_lines graph ++ number_lines c.as_slice.result.now) (number_lines c.as_slice-2.result.now)
    (sent_more s0 s1 s2 c.put_sizes.new.block c.put_numbers.new.block old (size_lines graph) (number_lines c.as_slice.result.now) c.in_ok-put_sizes.ensures.ok c.in_ok-put_numbers.ensures.ok)
    c.in_ok-put_numbers-2.ensures.ok in
    on_ok_weaker c.put_numbers-3.result
    (λ last. subst (λ (t : List ℕ). IsSent s0 s4 c.put_numbers-3.new.block (old ++ t)) (whole_text graph _ _ _ c.as_slice.ensures c.as_slice-2.ensures c.as_slice-3.ensures)
    (sent_more s0 s3 s4 c.put_numbers-2.new.block c.put_numbers-3.new.block old (size_lines graph ++ number_lines c.as_slice.result.now ++ number_lines c.as_slice-2.result.now) (number_lines c.as_slice-3.result.now) third last))
    c.put_numbers-3.ensures.ok

pub returns-clause-err : goal.returns-clause-err
returns-clause-err g c =
    let graph : RawGraph = c.args.graph.now in
    let old : List ℕ = c.args.block.now in
    let s0 : SinkState = g.S.Sink.state c.args.sink.now in
    let s1 : SinkState = g.S.Sink.state c.put_sizes.new.sink in
    let s2 : SinkState = g.S.Sink.state c.put_numbers.new.sink in
    let s3 : SinkState = g.S.Sink.state c.put_numbers-2.new.sink in
    let s4 : SinkState = g.S.Sink.state c.put_numbers-3.new.sink in
    let third : IsSent s0 s3 c.put_numbers-2.new.block (old ++ (size_lines graph ++ number_lines c.as_slice.result.now ++ number_lines c.as_slice-2.result.now)) =
    sent_more s0 s2 s3 c.put_numbers.new.block c.put_numbers-2.new.block old (size_lines graph ++ number_lines c.as_slice.result.now) (number_lines c.as_slice-2.result.now)
    (sent_more s0 s1 s2 c.put_sizes.new.block c.put_numbers.new.block old (size_lines graph) (number_lines c.as_slice.result.now) c.in_ok-put_sizes.ensures.ok c.in_ok-put_numbers.ensures.ok)
    c.in_ok-put_numbers-2.ensures.ok in
    on_err_weaker c.put_numbers-3.result
    (λ failed. subst (λ (t : List ℕ). FailedWriting s0 s4 (old ++ t)) (whole_text graph _ _ _ c.as_slice.ensures c.as_slice-2.ensures c.as_slice-3.ensures)
    (failed_more s0 s3 s4 c.put_numbers-2.new.block old (size_lines graph ++ number_lines c.as_slice.result.now ++ number_lines c.as_slice-2.result.now) (number_lines c.as_slice-3.result.now)
    (omega (arith, c.put_sizes.ensures.faults, c.put_numbers.ensures.faults, c.put_numbers-2.ensures.faults)) third failed))
    c.put_numbers-3.ensures.err
