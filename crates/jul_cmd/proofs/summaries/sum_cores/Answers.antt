use Rattle.std.proofs.Common.{sym}
use Rattle.jul_query.specs.Words.{task_name}
use Rattle.jul_cmd.proofs.SummaryLaws.{cores_line}
use Rattle.jul_cmd.proofs.summaries.sum_cores.Goals as goal

pub returns-clause-summed : goal.returns-clause-summed
returns-clause-summed g c =
    (c.in_ok-found.found.core, c.in_ok-found.ensures.values, rw (sym c.n-n.ensures.count, sym c.m-m.ensures.count) (cores_line (task_name c.args.task) c.n-n.result c.m-m.result c.in_ok-found.found.core c.line_of.result _ _ c.line_of.ensures c.greatest_value-most.ensures c.times_in-top.ensures))
