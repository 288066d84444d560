use Rattle.std.proofs.Common.{OnOk, sym, subst}
use Rattle.jul_query.specs.declared.queries.Problem.{Problem}
use Rattle.jul_query.specs.Asking.{problem_of}
use Rattle.jul_cmd.specs.Suited.{IsSuited}
use Rattle.jul_cmd.proofs.summaries.sum_up.Goals as goal

pub returns-in-Cores-clause-suited : goal.returns-in-Cores-clause-suited
returns-in-Cores-clause-suited g c =
    subst (λ (p : Problem). OnOk c.sum_cores.result (IsSuited c.args.rows (problem_of p))) (sym c.in-Cores.is) c.sum_cores.ensures.suited

pub returns-in-Cover-clause-suited : goal.returns-in-Cover-clause-suited
returns-in-Cover-clause-suited g c =
    subst (λ (p : Problem). OnOk c.sum_cover.result (IsSuited c.args.rows (problem_of p))) (sym c.in-Cover.is) c.sum_cover.ensures.suited
