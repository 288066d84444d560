use Rattle.std.proofs.Common.{◌≡◌, ◌<◌, length, ◌∙◌, ap, refl, arith}
use Rattle.jul_text.specs.declared.shapes.Shape.TheVariants.{Plain}
use Rattle.jul_text.specs.declared.shapes.Mark.{Mark}
use Rattle.jul_adj.specs.Rules.{behind, bound_of}
use Rattle.jul_adj.proofs.StoringLaws.{storing_none, storing_more, fault_of_mark, behind-behind, bound_of-behind}
use Rattle.jul_adj.proofs.storing.store.Goals as goal

abbrev blank : Mark
blank = record { start = 0; shape = Plain }

pub loop-mark-init : goal.loop-mark-init
loop-mark-init c = record {
  count = refl;
  bound = c.requires;
  same = λ v. refl;
  storing = λ ws token are ruled. storing_none ws token (length c.args.marks.now) c.args.rule c.args.values.now.items ruled;
}

pub returns-in-Err-clause-fault : goal.returns-in-Err-clause-fault
returns-in-Err-clause-fault c ws token are ruled =
    let lt : c.loop-mark.count < length c.args.marks.now = omega (arith, c.loop-mark.invariant.count, c.loop-mark-test.true) in
    fault_of_mark ws token c.loop-mark.count c.args.marks.now blank c.loop-mark.rule are lt c.loop-mark.invariant.bound ((c.loop-mark.invariant.storing ws token are ruled).ruled lt)
    ∙ (rw c.loop-mark.invariant.count c.in-Err.ensures.fault)

pub loop-mark-preserved : goal.loop-mark-preserved
loop-mark-preserved c =
    let lt : c.loop-mark.count < length c.args.marks.now = omega (arith, c.loop-mark.invariant.count, c.loop-mark-test.true) in
    let next : c.next_rule-rule.result ≡ behind c.loop-mark.rule c.in-Ok.value = c.next_rule-rule.ensures in
    record {
      count = omega (arith, c.loop-mark.invariant.count);
      bound = omega (arith, ap bound_of next, bound_of-behind c.loop-mark.rule c.in-Ok.value, c.loop-mark.invariant.bound);
      same = λ v. ap (λ r. behind r v) next ∙ behind-behind c.loop-mark.rule c.in-Ok.value v ∙ c.loop-mark.invariant.same v;
      storing = λ ws token are ruled.
          rw (next, c.in_ok-push-in-Ok.ensures.items)
          (storing_more ws token c.loop-mark.count c.in-Ok.value c.args.marks.now blank c.args.rule c.loop-mark.rule c.args.values.now.items c.loop-mark.values.items are ruled lt c.loop-mark.invariant.bound c.loop-mark.invariant.same
          (rw c.loop-mark.invariant.count c.in-Ok.ensures.digits) c.in-Ok.ensures.within (rw c.loop-mark.invariant.count c.in-Ok.ensures.none) (c.loop-mark.invariant.storing ws token are ruled));
    }
