use Rattle.std.proofs.Common.{◌+◌, ◌≤◌, length, subst, arith, inl, inr}
use Rattle.jul_adj.specs.Roles.{first_target}
use Rattle.jul_adj.specs.Readings.{IsPart}
use Rattle.jul_adj.proofs.ListsLaws.{if_ok, offsets_grown, targets_grown, weights_grown}
use Rattle.jul_adj.proofs.lists.Lists.store.Goals as goal

pub returns-in-Count-clause-lists : goal.returns-in-Count-clause-lists
returns-in-Count-clause-lists c ws token marks ruled part are =
    let p : (3 ≤ token) × (token + length c.args.part.now ≤ first_target ws) = elim c.in-Count.is [
      | inl q ↦ subst (λ r. IsPart ws r token (token + length c.args.part.now)) q.2 part
      | inr q ↦ subst (λ r. IsPart ws r token (token + length c.args.part.now)) q.2 part
    ] in
    if_ok c.store.result _ _ _ (λ s count stored. offsets_grown ws token s.count c.args.self.now c.store.new.values are p.0 (omega (arith, p.1, count)) stored) c.store.ensures.count (c.store.ensures.stored ws token marks ruled)

pub returns-in-Target-clause-lists : goal.returns-in-Target-clause-lists
returns-in-Target-clause-lists c ws token marks ruled part are =
    let p = subst (λ r. IsPart ws r token (token + length c.args.part.now)) c.in-Target.is part in
    if_ok c.store-in-Target.result _ _ _ (λ s count stored. targets_grown ws token s.count c.args.self.now c.store-in-Target.new.values are p.0 (omega (arith, p.1, count)) stored) c.store-in-Target.ensures.count (c.store-in-Target.ensures.stored ws token marks ruled)

pub returns-in-Weight-clause-lists : goal.returns-in-Weight-clause-lists
returns-in-Weight-clause-lists c ws token marks ruled part are =
    let p = subst (λ r. IsPart ws r token (token + length c.args.part.now)) c.in-Weight.is part in
    if_ok c.store-in-Weight.result _ _ _ (λ s count stored. weights_grown ws token s.count c.args.self.now c.store-in-Weight.new.values are p.0 (omega (arith, p.1, count)) stored) c.store-in-Weight.ensures.count (c.store-in-Weight.ensures.stored ws token marks ruled)
