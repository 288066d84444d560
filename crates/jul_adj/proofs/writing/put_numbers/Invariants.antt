use Rattle.std.proofs.Common.{◌++◌, ◌≤◌, take}
use Rattle.jul_base.specs.Sinks.{IsSent}
use Rattle.jul_adj.specs.Texts.{number_lines}
use Rattle.jul_adj.proofs.writing.put_numbers.Given as goal

abbrev pub invariant-loop-number : goal.invariant-loop-number
invariant-loop-number g l = record {
  sent : IsSent (g.S.Sink.state l.fn.sink) (g.S.Sink.state l.sink) l.block (l.fn.block ++ number_lines (take l.number-index l.numbers));
  faults : (g.S.Sink.state l.fn.sink).faults ≤ (g.S.Sink.state l.sink).faults;
}
