use Rattle.std.proofs.Common.{◌++◌, ◌≤◌, take}
use Rattle.std.specs.List.{flat_map}
use Rattle.jul_base.specs.Sinks.{IsSent}
use Rattle.jul_witness.specs.Texts.{spaced_value}
use Rattle.jul_witness.proofs.lines.put_each.Given as goal

abbrev pub invariant-loop-number : goal.invariant-loop-number
invariant-loop-number g l = record {
  sent : IsSent (g.S.Sink.state l.fn.sink) (g.S.Sink.state l.sink) l.block (l.fn.block ++ flat_map spaced_value (take l.number-index l.numbers));
  faults : (g.S.Sink.state l.fn.sink).faults ≤ (g.S.Sink.state l.sink).faults;
}
