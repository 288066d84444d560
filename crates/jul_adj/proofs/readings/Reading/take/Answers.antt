use Rattle.std.proofs.Common.{◌≡◌, ◌+◌, sym, ◌-◌, length, take, subst, drop, arith}
use Rattle.jul_adj.specs.Storing.{AreMarks}
use Rattle.jul_adj.specs.Readings.{HasRead}
use Rattle.jul_adj.proofs.StepLaws.{clear_at, marks_behind, marks_front}
use Rattle.jul_adj.proofs.readings.Reading.take.Goals as goal

pub loop-at-preserved : goal.loop-at-preserved
loop-at-preserved c = record {
  within = omega (arith, c.in_ok-at.ensures.count);
  read = λ ws token h are.
      let here : HasRead ws (token + c.loop-at.at) c.loop-at.self = c.loop-at.invariant.read ws token h are in
      let at : c.loop-at.self.token ≡ token + c.loop-at.at = (clear_at ws (token + c.loop-at.at) c.loop-at.self c.in_default.is here).0 in
      let rest : AreMarks ws c.loop-at.self.token (take (length c.args.marks.now - c.loop-at.at) (drop c.loop-at.at c.args.marks.now)) =
      subst (λ t. AreMarks ws t (take (length c.args.marks.now - c.loop-at.at) (drop c.loop-at.at c.args.marks.now))) (sym at)
      (marks_front ws (token + c.loop-at.at) (length c.args.marks.now - c.loop-at.at) (drop c.loop-at.at c.args.marks.now) (marks_behind ws token c.loop-at.at c.args.marks.now c.loop-at.invariant.within are)) in
      let next : c.loop-at.self.token + c.in_ok-at.field-0 ≡ token + (c.loop-at.at + c.in_ok-at.field-0) = omega (arith, at) in
      subst (λ t. HasRead ws t c.take_some.new.self) next (c.in_ok-at.ensures.read ws (subst (λ t. HasRead ws t c.loop-at.self) (sym at) here) rest);
}
