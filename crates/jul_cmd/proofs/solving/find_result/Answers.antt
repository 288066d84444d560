use Rattle.std.proofs.Common.{sym, subst}
use Rattle.jul_query.specs.declared.queries.Problem.{Problem}
use Rattle.jul_query.specs.Asking.{problem_of}
use Rattle.jul_cmd.specs.Suited.{IsSuited}
use Rattle.jul_cmd.proofs.solving.find_result.Goals as goal

pub returns-in_ok-found-in-Cores-clause-suited : goal.returns-in_ok-found-in-Cores-clause-suited
returns-in_ok-found-in-Cores-clause-suited g c =
    subst (λ (p : Problem). IsSuited c.args.rows (problem_of p)) (sym c.in-Cores.is) c.in_ok-found-in-Cores.ensures.suited

pub returns-in_ok-found-in-Cover-clause-suited : goal.returns-in_ok-found-in-Cover-clause-suited
returns-in_ok-found-in-Cover-clause-suited g c =
    subst (λ (p : Problem). IsSuited c.args.rows (problem_of p)) (sym c.in-Cover.is) c.in_ok-found-in-Cover.ensures.suited
