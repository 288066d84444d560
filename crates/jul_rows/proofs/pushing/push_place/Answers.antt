use Rattle.std.proofs.Common.{◌∙◌, sym, ap, ◌++◌, ◌∷◌, [], if◌then◌else◌}
use Rattle.std.proofs.lemmas.List.{append-nil}
use Rattle.jul_rows.specs.Visits.{step}
use Rattle.jul_rows.proofs.VisitLaws.{pushed_chosen}
use Rattle.jul_rows.proofs.pushing.push_place.Goals as goal

pub returns-in_ok-push-clause-pushed : goal.returns-in_ok-push-clause-pushed
returns-in_ok-push-clause-pushed g c =
    pushed_chosen (g.V.Visit.visits c.args.visit.now) _ c.visit.result (step c.args.u c.args.place c.args.v) _ _ c.args.noted.now.items _ (sym c.wants.ensures ∙ c.if-not-wants.false) c.visit.ensures.visited
    (c.in_ok-push.ensures.items ∙ ap (λ b. c.args.noted.now.items ++ (if b then c.args.v ∷ [] else [])) (sym c.if-visit.true))

pub returns-else-visit-clause-pushed : goal.returns-else-visit-clause-pushed
returns-else-visit-clause-pushed g c =
    pushed_chosen (g.V.Visit.visits c.args.visit.now) _ c.visit.result (step c.args.u c.args.place c.args.v) _ _ c.args.noted.now.items _ (sym c.wants.ensures ∙ c.if-not-wants.false) c.visit.ensures.visited
    (sym (append-nil c.args.noted.now.items) ∙ ap (λ b. c.args.noted.now.items ++ (if b then c.args.v ∷ [] else [])) (sym c.if-visit.false))
