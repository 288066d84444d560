-- What was read of the file of a shelf in memory.
use Rattle.std.proofs.Common.{◌≡◌, ℕ, List, [], Some, Result, sym, ◌∙◌, ap}
use Rattle.std.specs.Option.{unwrap_or}
use Rattle.jul_base.specs.declared.graphs.RawGraph.{RawGraph}
use Rattle.jul_base.specs.declared.memory_shelves.MemShelf.{MemShelf}
use Rattle.jul_base.specs.Shelves.{ShelfState, contents}
use Rattle.jul_base.specs.Memory.{files_of}
use Rattle.jul_base.specs.MemoryShelves.{shelf_state}
use Rattle.jul_adj.specs.declared.faults.Fault.{Fault}
use Rattle.jul_adj.specs.Reading.{reads}
use Rattle.jul_adj.specs.Streaming.{IsStreamed}
use Rattle.jul_stream_trials.specs.Readings.{said_of}

pub streamed_said : (s : MemShelf) (after : ShelfState) (name file : List ℕ) (limit : ℕ) (said : Result RawGraph Fault) →
    contents (files_of s.files.items) name ≡ Some file → IsStreamed (shelf_state s) after name limit said → said ≡ said_of file limit
unfolding said_of
streamed_said s after name file limit said there streamed =
    let same : streamed.file ≡ file = ap (λ c. unwrap_or c []) (sym streamed.there ∙ there) in
    sym streamed.is ∙ ap (λ (f : List ℕ). reads f limit) same
