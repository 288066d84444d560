use Rattle.std.proofs.Common.{◌<◌, ◌≤◌, subst, sym, arith}
use Rattle.std.proofs.lemmas.Bool.{ltb-true}
use Rattle.jul_base.specs.declared.limits.TheConstants.{MAX_N, MAX_W}
use Rattle.jul_adj.specs.declared.rules.Rule.{Rule}
use Rattle.jul_adj.specs.Values.{Meets}
use Rattle.jul_adj.specs.Rules.{bound_of}
use Rattle.jul_adj.proofs.ValueLaws.{offsets_meet, targets_meet, weights_meet}
use Rattle.jul_adj.proofs.values.admits.Goals as goal

pub returns-in-Offset : goal.returns-in-Offset
returns-in-Offset c h =
    let small : c.args.most ≤ c.in-Offset.places = subst (λ (r : Rule). c.args.most ≤ bound_of r) c.in-Offset.is (omega (arith, c.if-most-bound.true, c.bound.ensures, c.from-most.ensures)) in
    subst (λ r. Meets r c.args.values.now) (sym c.in-Offset.is) (offsets_meet c.in-Offset.before c.args.most c.in-Offset.places c.args.values.now small c.requires (c.rises.ensures h))

pub returns-in-Target : goal.returns-in-Target
returns-in-Target c h =
    let small : c.args.most ≤ MAX_N = subst (λ (r : Rule). c.args.most ≤ bound_of r) c.in-Target.is (omega (arith, c.if-most-bound.true, c.bound.ensures, c.from-most.ensures)) in
    let below : c.args.most < c.in-Target.vertices = subst (λ m. m < c.in-Target.vertices) c.from-most.ensures (ltb-true c.from-most.result c.in-Target.vertices h) in
    subst (λ r. Meets r c.args.values.now) (sym c.in-Target.is) (targets_meet c.args.most c.in-Target.vertices c.args.values.now small below c.requires)

pub returns-in-Weight : goal.returns-in-Weight
returns-in-Weight c h =
    let small : c.args.most ≤ MAX_W = subst (λ (r : Rule). c.args.most ≤ bound_of r) c.in-Weight.is (omega (arith, c.if-most-bound.true, c.bound.ensures, c.from-most.ensures)) in
    subst (λ r. Meets r c.args.values.now) (sym c.in-Weight.is) (weights_meet c.args.most c.args.values.now small c.requires)
