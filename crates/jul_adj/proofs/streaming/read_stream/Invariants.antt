use Rattle.std.proofs.Common.{◌≡◌, ◌+◌, ◌-◌, ◌≤◌, true}
use Rattle.jul_adj.specs.Pipelines.{AreBlocks, bytes_read}
use Rattle.jul_adj.proofs.StreamLaws.{IsStreaming}
use Rattle.jul_adj.proofs.streaming.read_stream.Given as goal

abbrev pub invariant-loop-read : goal.invariant-loop-read
invariant-loop-read g l = record {
  streaming : IsStreaming (g.F.Shelf.state l.fn.files) (g.F.Shelf.state l.files) l.name l.read l.pipeline;
  is_open : (g.F.Shelf.state l.files).is_open ≡ true;
  within : l.read ≤ l.limit + 1;
  blocks : AreBlocks l.pipeline;
  count : bytes_read l.pipeline ≡ l.read;
  faults : (g.F.Shelf.state l.fn.files).faults ≤ (g.F.Shelf.state l.files).faults;
}

abbrev pub decreases-loop-read : goal.decreases-loop-read
decreases-loop-read g l = l.limit + 1 - l.read
