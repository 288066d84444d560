use Rattle.std.proofs.Common.{◌≡◌, ◌-◌, length, take, drop, arith}
use Rattle.std.proofs.lemmas.List.{length-drop, take_all}
use Rattle.jul_base.proofs.SinkLaws.{Appended-take}
use Rattle.jul_base.proofs.writing.write_whole.Goals as goal

pub loop-done-preserved : goal.loop-done-preserved
loop-done-preserved g c = record {
  within = omega (arith, c.in_ok-done.ensures.within, c.loop-done.invariant.within, length-drop c.loop-done.done c.args.bytes.now);
  appended =
      let rest : take (length c.args.bytes.now - c.loop-done.done) (drop c.loop-done.done c.args.bytes.now) ≡ drop c.loop-done.done c.args.bytes.now =
      take_all _ _ (omega (arith, length-drop c.loop-done.done c.args.bytes.now)) in
      Appended-take _ _ _ c.args.bytes.now c.loop-done.done c.in_ok-done.field-0 c.loop-done.invariant.appended (rw rest at c.in_ok-done.ensures.ok);
  faults = omega (arith, c.write.ensures.faults, c.loop-done.invariant.faults);
}
