use Rattle.std.proofs.Common.{sym, ◌∙◌}
use Rattle.jul_check.proofs.CoreCheckLaws.{cores_accepted}
use Rattle.jul_check.proofs.CoreAcceptLaws.{peeled_accepted}
use Rattle.jul_check.proofs.core_checks.check_cores.Goals as goal

pub returns-clause-sound : goal.returns-clause-sound
returns-clause-sound c accepted = cores_accepted c.args.rows.now c.n.ensures.lawful c.args.c.now (sym c.first_failing.ensures ∙ accepted)

pub returns-clause-accepts : goal.returns-clause-accepts
returns-clause-accepts c cores levels = c.first_failing.ensures ∙ peeled_accepted c.args.rows.now c.n.ensures.lawful c.args.c.now cores levels
