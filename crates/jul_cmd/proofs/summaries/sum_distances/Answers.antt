use Rattle.std.proofs.Common.{sym}
use Rattle.jul_query.specs.Words.{task_name}
use Rattle.jul_cmd.proofs.SummaryLaws.{distances_line}
use Rattle.jul_cmd.proofs.summaries.sum_distances.Goals as goal

pub returns-clause-summed : goal.returns-clause-summed
returns-clause-summed g c =
    (c.in_ok-dist.dist, c.in_ok-dist.ensures.found, rw (sym c.n-n.ensures.count, sym c.m-m.ensures.count) (distances_line (task_name c.args.task) c.n-n.result c.m-m.result c.in_ok-dist.dist c.line_of.result _ _ c.line_of.ensures c.number_count-reached.ensures c.greatest_number-most.ensures))
