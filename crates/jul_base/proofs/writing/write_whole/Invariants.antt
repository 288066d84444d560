use Rattle.std.proofs.Common.{length, take, ◌-◌, ◌≤◌}
use Rattle.jul_base.specs.Sinks.{Appended}
use Rattle.jul_base.proofs.writing.write_whole.Given as goal

abbrev pub invariant-loop-done : goal.invariant-loop-done
invariant-loop-done g l = record {
  within : l.done ≤ length l.bytes;
  appended : Appended (g.S.Sink.state l.fn.sink) (g.S.Sink.state l.sink) (take l.done l.bytes);
  faults : (g.S.Sink.state l.fn.sink).faults ≤ (g.S.Sink.state l.sink).faults;
}

abbrev pub decreases-loop-done : goal.decreases-loop-done
decreases-loop-done g l = length l.bytes - l.done
