use Rattle.std.proofs.Common.{Ok, sym, subst}
use Rattle.jul_base.specs.declared.graphs.RawGraph.{RawGraph}
use Rattle.jul_cmd.specs.Files.{graph_of_file, IsRead}
use Rattle.jul_cmd.proofs.VerdictLaws.{at_err}
use Rattle.jul_cmd.proofs.FileLaws.{streamed_graph, graph_unread}
use Rattle.jul_cmd.proofs.loading.load_graph.Goals as goal

pub returns-in_err-graph-clause-refused : goal.returns-in_err-graph-clause-refused
returns-in_err-graph-clause-refused g c =
    at_err _ c.from_residual.result _ c.from_residual.ensures.1 (graph_unread _ _ c.args.name.now _ c.in_err-graph.ensures.refused)

pub returns-clause-rows : goal.returns-clause-rows
returns-clause-rows g c =
    let P : RawGraph → Type 0 = λ x. IsRead graph_of_file (g.F.Shelf.state c.args.files.now) (g.F.Shelf.state c.read_stream.new.files) c.args.name.now (Ok x) in
    subst P (sym c.of.ensures.graph) (streamed_graph _ _ c.args.name.now (Ok c.in_ok-graph.graph) c.in_ok-graph.ensures.graph)
