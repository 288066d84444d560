-- The two kinds of line.
use Rattle.std.proofs.Common.{◌≡◌, ℕ, Ok, Err, refl}
use Rattle.jul_base.specs.declared.graphs.RawGraph.{RawGraph}
use Rattle.jul_adj.specs.declared.faults.Fault.{Fault}
use Rattle.jul_stream_trials.specs.Lines.{graph_line, fault_line, line_of}

pub line_of-graph : (block workers : ℕ) (g : RawGraph) → line_of block workers (Ok g) ≡ graph_line block workers g
unfolding line_of
line_of-graph block workers g = refl

pub line_of-fault : (block workers : ℕ) (f : Fault) → line_of block workers (Err f) ≡ fault_line block workers f
unfolding line_of
line_of-fault block workers f = refl
