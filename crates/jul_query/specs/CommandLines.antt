-- A command line of the code stands for the split words.
use Rattle.std.specs.Prelude.{Option}
use Rattle.std.specs.Option.{option_map}
use Rattle.std.specs.Borrow.{Bor}
use Rattle.clap.specs.Words.{Text}
use Rattle.jul_query.specs.declared.command_line.CommandLine.{CommandLine}
use Rattle.jul_query.specs.Splitting.{Split}

abbrev pub text_of : Option (Bor Text) → Option Text
text_of = option_map (λ t. t.now)

abbrev pub split_by : CommandLine → Split
split_by l = record {
  task = text_of l.task;
  graph = text_of l.graph;
  witness = text_of l.witness;
  source = text_of l.source;
  delta = text_of l.delta;
  open_buckets = text_of l.open_buckets;
  workers = text_of l.workers;
  chunk = text_of l.chunk;
  n = text_of l.n;
  pairs = text_of l.pairs;
  seed = text_of l.seed;
  bare = l.bare;
}
