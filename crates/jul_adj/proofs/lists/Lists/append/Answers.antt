use Rattle.std.proofs.Common.{◌+◌, ◌≤◌, length, subst, inl, inr}
use Rattle.jul_adj.specs.Roles.{first_target}
use Rattle.jul_adj.specs.Readings.{IsPart}
use Rattle.std.proofs.lemmas.Result.{on_ok_weaker}
use Rattle.jul_adj.proofs.ListsLaws.{offsets_grown, targets_grown, weights_grown}
use Rattle.jul_adj.proofs.ValueLaws.{are_stored}
use Rattle.jul_adj.proofs.lists.Lists.append.Goals as goal

pub returns-in-Count : goal.returns-in-Count
returns-in-Count c ws token are part lists =
    let to = token + length c.args.values.now in
    let p : (3 ≤ token) × (to ≤ first_target ws) = elim c.in-Count.is [
      | inl q ↦ subst (λ r. IsPart ws r token to) q.2 part
      | inr q ↦ subst (λ r. IsPart ws r token to) q.2 part
    ] in
    on_ok_weaker c.append.result (λ is. offsets_grown ws token (length c.args.values.now) c.args.self.now c.append.new.list lists p.0 p.1 (are_stored ws token c.args.values.now _ _ are is)) c.append.ensures

pub returns-in-Target : goal.returns-in-Target
returns-in-Target c ws token are part lists =
    let to = token + length c.args.values.now in
    let p = subst (λ r. IsPart ws r token to) c.in-Target.is part in
    on_ok_weaker c.append-in-Target.result (λ is. targets_grown ws token (length c.args.values.now) c.args.self.now c.append-in-Target.new.list lists p.0 p.1 (are_stored ws token c.args.values.now _ _ are is)) c.append-in-Target.ensures

pub returns-in-Weight : goal.returns-in-Weight
returns-in-Weight c ws token are part lists =
    let to = token + length c.args.values.now in
    let p = subst (λ r. IsPart ws r token to) c.in-Weight.is part in
    on_ok_weaker c.append-in-Weight.result (λ is. weights_grown ws token (length c.args.values.now) c.args.self.now c.append-in-Weight.new.list lists p.0 p.1 (are_stored ws token c.args.values.now _ _ are is)) c.append-in-Weight.ensures
