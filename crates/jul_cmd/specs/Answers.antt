-- What the program says of a query and of the files that it names.
use Rattle.std.specs.Prelude.{◌≡◌, List, [], ℕ, Result, Ok, Err}
use Rattle.jul_base.specs.declared.graphs.RawGraph.{RawGraph}
use Rattle.jul_base.specs.Shelves.{ShelfState}
use Rattle.jul_adj.specs.declared.faults.Fault.{Fault}
use Rattle.jul_cmd.specs.declared.statuses.Status.{Status}
use Rattle.jul_cmd.specs.declared.statuses.Status.TheVariants.{GraphFault}
use Rattle.jul_query.specs.Queries.{Input, graph_file, generated, Work, solve, judge, Asked}
use Rattle.jul_adj.specs.Generated.{generated as generated_graph}
use Rattle.jul_cmd.specs.Files.{graph_of_file, Says}
use Rattle.jul_cmd.specs.Solving.{IsSolved}
use Rattle.jul_cmd.specs.Checking.{IsChecked}

-- what an input says: the graph that it has, or the first fault of its file. A generated graph has none
abbrev pub InputSays : ShelfState → Input → Result RawGraph Fault → Type 0
InputSays shelf (graph_file name) graph = Says graph_of_file shelf name graph
InputSays shelf (generated n pairs seed) graph = graph ≡ Ok (generated_graph n pairs seed)

-- what is said of a graph
abbrev pub WorkAnswer : ShelfState → RawGraph → Work → Status → List ℕ → Type 0
WorkAnswer shelf g (solve problem form) status text = IsSolved g problem form status text
WorkAnswer shelf g (judge purpose witness sources) status text = IsChecked shelf g purpose witness sources status text

-- what is said of what the input says: a fault comes before all else
abbrev pub GraphAnswer : ShelfState → Work → Result RawGraph Fault → Status → List ℕ → Type 0
GraphAnswer shelf work (Err fault) status text = (status ≡ GraphFault fault) × (text ≡ [])
GraphAnswer shelf work (Ok g) status text = WorkAnswer shelf g work status text

-- ANSWER: what the program says of a query and of the files that it names, and the text that it writes
pub record Answer (query : Asked) (shelf : ShelfState) (status : Status) (text : List ℕ) : Type 0 where
  pub graph : Result RawGraph Fault
  pub input : InputSays shelf query.input graph
  pub answer : GraphAnswer shelf query.work graph status text
