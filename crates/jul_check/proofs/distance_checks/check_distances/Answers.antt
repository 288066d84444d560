use Rattle.std.proofs.Common.{sym, ◌∙◌}
use Rattle.jul_check.proofs.DistanceCheckLaws.{distances_accepted}
use Rattle.jul_check.proofs.DistanceAcceptLaws.{tree_accepted}
use Rattle.jul_check.proofs.distance_checks.check_distances.Goals as goal

pub returns-clause-sound : goal.returns-clause-sound
returns-clause-sound c accepted =
    distances_accepted c.args.rows.now c.args.sources.now c.args.d.now c.requires.sources.within c.requires.dist (sym c.first_failing.ensures ∙ accepted)

pub returns-clause-accepts : goal.returns-clause-accepts
returns-clause-accepts c tree =
    c.first_failing.ensures ∙ tree_accepted c.args.rows.now c.args.sources.now c.args.d.now c.n.ensures.lawful c.requires.sources.within tree
