-- The files of a query, in the order in which they are read.
use Rattle.std.specs.Prelude.{ℕ, List, [], ◌∷◌, ◌++◌, Option, Some, None}
use Rattle.jul_query.specs.Queries.{Asked, graph_name, witness_name}
use Rattle.jul_cmd.specs.declared.statuses.Which.{Which}
use Rattle.jul_cmd.specs.declared.statuses.Which.TheVariants.{Graph, Witness}

-- the name of the graph file or of the witness file, where a query has one
abbrev pub name_of : Asked → Which → Option (List ℕ)
name_of query Graph = graph_name query.input
name_of query Witness = witness_name query.work

abbrev pub listed : Option (List ℕ) → List (List ℕ)
listed None = []
listed (Some name) = name ∷ []

-- the names of the files of a query, in the order in which they are read
abbrev pub read_in_order : Asked → List (List ℕ)
read_in_order query = listed (name_of query Graph) ++ listed (name_of query Witness)
