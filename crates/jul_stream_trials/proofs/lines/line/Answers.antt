use Rattle.std.proofs.Common.{◌≡◌, ℕ, List, IfOk, string_bytes, sym, ◌∙◌, ap, subst}
use Rattle.jul_stream_trials.specs.Lines.{line_of}
use Rattle.jul_stream_trials.proofs.LineLaws.{line_of-graph, line_of-fault}
use Rattle.jul_stream_trials.proofs.lines.line.Goals as goal

pub returns-in-Ok : goal.returns-in-Ok
returns-in-Ok c =
    subst (λ (text : List ℕ). IfOk c.line_of_graph.result (λ line. string_bytes line ≡ text))
    (sym (ap (line_of c.args.block c.args.workers) c.in-Ok.is ∙ line_of-graph c.args.block c.args.workers c.in-Ok.graph)) c.line_of_graph.ensures

pub returns-in-Err : goal.returns-in-Err
returns-in-Err c =
    subst (λ (text : List ℕ). IfOk c.line_of_fault.result (λ line. string_bytes line ≡ text))
    (sym (ap (line_of c.args.block c.args.workers) c.in-Err.is ∙ line_of-fault c.args.block c.args.workers c.in-Err.fault)) c.line_of_fault.ensures
