use Rattle.std.proofs.Common.{◌∙◌, ◌∷◌, []}
use Rattle.jul_rows.specs.Visits.{step}
use Rattle.jul_edge.proofs.PullingLaws.{has_test, tried_chosen, tried_unchosen}
use Rattle.jul_edge.proofs.pulling.pull_place.Goals as goal

pub returns-then-not-contains-clause-tried : goal.returns-then-not-contains-clause-tried
returns-then-not-contains-clause-tried g c =
    tried_unchosen (g.V.Visit.visits c.args.visit.now) _ (step c.args.u c.args.place c.args.v ∷ []) _ (has_test c.args.from.now.members c.args.u c.contains.result c.contains.ensures.member ∙ c.if-not-contains.true)

pub returns-clause-tried : goal.returns-clause-tried
returns-clause-tried g c =
    tried_chosen (g.V.Visit.visits c.args.visit.now) _ c.visit.result (step c.args.u c.args.place c.args.v) _ _ (has_test c.args.from.now.members c.args.u c.contains.result c.contains.ensures.member ∙ c.if-not-contains.false) c.visit.ensures.visited
