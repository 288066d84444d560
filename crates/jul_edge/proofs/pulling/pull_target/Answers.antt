use Rattle.std.proofs.Common.{◌∙◌, sym}
use Rattle.jul_edge.specs.Pulls.{pull_steps}
use Rattle.jul_edge.proofs.PullingLaws.{pull_steps_lead, pulled_unwanted, pulled_hit, pulled_unhit}
use Rattle.jul_edge.proofs.pulling.pull_target.Goals as goal

pub returns-then-not-wants-clause-pulled : goal.returns-then-not-wants-clause-pulled
returns-then-not-wants-clause-pulled g c =
    pulled_unwanted (g.V.Visit.visits c.args.visit.now) _ (pull_steps c.args.in_rows.now c.args.from.now.members c.args.v) c.args.v _ _ (sym c.wants.ensures ∙ c.if-not-wants.true)

pub returns-in_ok-push-clause-pulled : goal.returns-in_ok-push-clause-pulled
returns-in_ok-push-clause-pulled g c =
    pulled_hit (g.V.Visit.visits c.args.visit.now) _ (pull_steps c.args.in_rows.now c.args.from.now.members c.args.v) c.args.v _ _ _ _ c.pull_row.result (sym c.wants.ensures ∙ c.if-not-wants.false) (pull_steps_lead c.args.in_rows.now c.args.from.now.members c.args.v) c.if-pull_row.true c.in_ok-push.ensures.items c.pull_row.ensures.tried

pub returns-else-pull_row-clause-pulled : goal.returns-else-pull_row-clause-pulled
returns-else-pull_row-clause-pulled g c =
    pulled_unhit (g.V.Visit.visits c.args.visit.now) _ (pull_steps c.args.in_rows.now c.args.from.now.members c.args.v) c.args.v _ _ _ c.pull_row.result (sym c.wants.ensures ∙ c.if-not-wants.false) c.if-pull_row.false c.pull_row.ensures.tried
