use Rattle.std.proofs.Common.{[], ◌∷◌, ◌++◌, ◌≤◌, length, take}
use Rattle.std.specs.List.{flat_map}
use Rattle.jul_base.specs.Numbers.{below}
use Rattle.jul_base.specs.Sinks.{IsSent}
use Rattle.jul_witness.specs.Texts.{vertex_line}
use Rattle.jul_witness.proofs.lines.put_pairs.Given as goal

abbrev pub invariant-loop-v : goal.invariant-loop-v
invariant-loop-v g l = record {
  sent : IsSent (g.S.Sink.state l.fn.sink) (g.S.Sink.state l.sink) l.block
      (l.fn.block ++ flat_map (vertex_line (l.first ∷ l.second ∷ [])) (take l.v (below (length l.first))));
  faults : (g.S.Sink.state l.fn.sink).faults ≤ (g.S.Sink.state l.sink).faults;
}
