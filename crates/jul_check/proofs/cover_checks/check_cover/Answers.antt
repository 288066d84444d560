use Rattle.std.proofs.Common.{sym, ◌∙◌}
use Rattle.jul_check.proofs.CoverCheckLaws.{cover_accepted}
use Rattle.jul_check.proofs.CoverAcceptLaws.{rounds_accepted}
use Rattle.jul_check.proofs.cover_checks.check_cover.Goals as goal

pub returns-clause-sound : goal.returns-clause-sound
returns-clause-sound c accepted = cover_accepted c.args.rows.now c.args.c.now (sym c.first_failing.ensures ∙ accepted)

pub returns-clause-accepts : goal.returns-clause-accepts
returns-clause-accepts c cover = c.first_failing.ensures ∙ rounds_accepted c.args.rows.now c.args.c.now cover
