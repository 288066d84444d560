-- A graph by its lists.
use Rattle.std.specs.Prelude.{ℕ, List, length, ◌==◌, not}
use Rattle.jul_base.specs.declared.graphs.RawGraph.{RawGraph}

-- it has weights of its own where the last list isn't empty
abbrev pub listed : List ℕ → List ℕ → List ℕ → RawGraph
listed offsets targets weights = record {
  weighted = not (length weights == 0);
  offsets = offsets;
  targets = targets;
  weights = weights;
}
