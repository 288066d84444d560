-- The line about a reading.
use Rattle.std.specs.Prelude.{ℕ, List, ◌++◌, codes, decimal, Result, Ok, Err, if◌then◌else◌}
use Rattle.jul_base.specs.declared.graphs.RawGraph.{RawGraph}
use Rattle.jul_base.specs.Graph.{vertices, places}
use Rattle.jul_adj.specs.declared.faults.Fault.{Fault}
use Rattle.jul_adj.specs.Names.{kind_name}
use Rattle.jul_stream_trials.specs.Checksums.{checksum_of}

-- a word, a space and the rest of the line
abbrev pub spaced : List ℕ → List ℕ → List ℕ
spaced word rest = word ++ (codes " " ++ rest)

-- the word for the form of a graph
abbrev pub form_of : RawGraph → List ℕ
form_of g = if g.weighted then codes "weighted" else codes "plain"

-- the most bytes of a block and the most workers, the form of the graph, its sizes and its checksum
abbrev pub graph_line : ℕ → ℕ → RawGraph → List ℕ
graph_line block workers g =
    spaced (decimal block) (spaced (decimal workers) (spaced (form_of g)
    (spaced (decimal (vertices g)) (spaced (decimal (places g)) (decimal (checksum_of g) ++ codes "\n")))))

-- the most bytes of a block and the most workers, and the fault
abbrev pub fault_line : ℕ → ℕ → Fault → List ℕ
fault_line block workers f =
    spaced (decimal block) (spaced (decimal workers) (spaced (kind_name f.kind)
    (spaced (decimal f.token) (decimal f.at ++ codes "\n"))))

-- what was read
unfoldable pub line_of : ℕ → ℕ → Result RawGraph Fault → List ℕ
line_of block workers (Ok g) = graph_line block workers g
line_of block workers (Err f) = fault_line block workers f
