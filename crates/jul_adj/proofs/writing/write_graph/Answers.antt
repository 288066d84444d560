use Rattle.std.proofs.Common.{ℕ, List, ◌++◌, subst}
use Rattle.std.proofs.lemmas.Result.{on_err_weaker}
use Rattle.jul_base.specs.Sinks.{SinkState, IsSent}
use Rattle.jul_base.proofs.SendingLaws.{failed_at_end}
use Rattle.jul_adj.specs.Texts.{graph_text}
use Rattle.jul_adj.proofs.writing.write_graph.Goals as goal

pub returns-clause-err : goal.returns-clause-err
returns-clause-err g c =
    let s0 : SinkState = g.S.Sink.state c.args.sink.now in
    let s1 : SinkState = g.S.Sink.state c.put_graph.new.sink in
    let s2 : SinkState = g.S.Sink.state c.flush.new.sink in
    let sent : IsSent s0 s1 c.put_graph.new.block (graph_text c.args.graph.now) =
    subst (λ (old : List ℕ). IsSent s0 s1 c.put_graph.new.block (old ++ graph_text c.args.graph.now)) c.new-block.ensures c.in_ok-put_graph.ensures.ok in
    on_err_weaker c.flush.result (λ failed. failed_at_end s0 s1 s2 c.put_graph.new.block (graph_text c.args.graph.now) c.put_graph.ensures.faults sent failed) c.flush.ensures.err
