-- What is read of a file.
use Rattle.std.specs.Prelude.{ℕ, List, Result}
use Rattle.jul_base.specs.declared.graphs.RawGraph.{RawGraph}
use Rattle.jul_adj.specs.declared.faults.Fault.{Fault}
use Rattle.jul_adj.specs.Reading.{reads}

-- what a file says that is to have at most so many bytes
unfoldable pub said_of : List ℕ → ℕ → Result RawGraph Fault
said_of file limit = reads file limit
