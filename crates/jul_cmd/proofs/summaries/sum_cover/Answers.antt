use Rattle.std.proofs.Common.{sym}
use Rattle.jul_query.specs.Words.{task_name}
use Rattle.jul_cmd.proofs.SummaryLaws.{cover_line}
use Rattle.jul_cmd.proofs.summaries.sum_cover.Goals as goal

pub returns-clause-summed : goal.returns-clause-summed
returns-clause-summed g c =
    let found = c.in_ok-found.found in
    (found, c.in_ok-found.ensures.whole, rw (sym c.n-n.ensures.count, sym c.m-m.ensures.count) (cover_line (task_name c.args.task) c.n-n.result c.m-m.result found.round found.by c.line_of.result _ _ c.line_of.ensures c.number_count-chosen.ensures c.number_count-covered.ensures))
