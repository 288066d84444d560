-- The exit code, the stage and the message of each status.
use Rattle.std.specs.Prelude.{ℕ, ◌≤◌, List, [], ◌++◌, codes, decimal}
use Rattle.jul_adj.specs.declared.faults.StreamError.{StreamError}
use Rattle.jul_adj.specs.declared.faults.StreamError.TheVariants as stream_errors
use Rattle.jul_witness.specs.declared.faults.WitnessError.{WitnessError}
use Rattle.jul_witness.specs.declared.faults.WitnessError.TheVariants as witness_errors
use Rattle.jul_cmd.specs.declared.statuses.Status.{Status}
use Rattle.jul_cmd.specs.declared.statuses.Status.TheVariants.{Done, No, Usage, GraphFault, WitnessFault, SizeDiffers, PlacesDiffer, SourcesDiffer, Asymmetric, SourceRange, ReadFault, WriteFault, Memory}
use Rattle.jul_cmd.specs.declared.statuses.Which.TheVariants.{Graph, Witness}
use Rattle.jul_adj.specs.Names.{kind_name as graph_kind_name}
use Rattle.jul_witness.specs.Names.{kind_name as witness_kind_name}

abbrev pub code_of : Status → ℕ
code_of Done = 0
code_of (No vertex reason) = 1
code_of Usage = 2
code_of (GraphFault f) = 3
code_of (WitnessFault f) = 3
code_of (SizeDiffers witness graph) = 4
code_of (PlacesDiffer witness graph) = 4
code_of (SourcesDiffer at) = 4
code_of (Asymmetric place) = 4
code_of (SourceRange source n) = 4
code_of (ReadFault file) = 5
code_of WriteFault = 6
code_of Memory = 7

-- Where the status stands in the one order of answers: 1 once the graph file was read, 2 once the witness file was, 3 at
-- the sizes, 4 at the places, 5 at the sources that a witness names, 6 at the range of the sources or the symmetry, 7 once the
-- text was written, 8 where it could not be; 0 for what no file decides.
abbrev pub stage_of : Status → ℕ
stage_of Usage = 0
stage_of (ReadFault file) = 0
stage_of Memory = 0
stage_of (GraphFault f) = 1
stage_of (WitnessFault f) = 2
stage_of (SizeDiffers witness graph) = 3
stage_of (PlacesDiffer witness graph) = 4
stage_of (SourcesDiffer at) = 5
stage_of (Asymmetric place) = 6
stage_of (SourceRange source n) = 6
stage_of Done = 7
stage_of (No vertex reason) = 7
stage_of WriteFault = 8

-- only after these statuses may anything have been written
abbrev pub MayWrite : Status → Type 0
MayWrite status = 7 ≤ stage_of status

-- the status of a graph that wasn't read
abbrev pub stream_refusal : StreamError → Status
stream_refusal stream_errors.Failed = ReadFault Graph
stream_refusal (stream_errors.Bad fault) = GraphFault fault
stream_refusal stream_errors.Memory = Memory

-- the status of a witness that wasn't read
abbrev pub witness_refusal : WitnessError → Status
witness_refusal (witness_errors.Bad fault) = WitnessFault fault
witness_refusal witness_errors.Memory = Memory

abbrev pub usage_text : List ℕ
usage_text = codes "usage: julienne TASK GRAPH [WITNESS] [--source LIST] [--delta D] [--open B] [--workers W] [--chunk C] [--bare] [--n N] [--pairs P] [--seed X]\n"

-- a fault of a file, by its kind and its place
abbrev pub fault_text : List ℕ → List ℕ → ℕ → ℕ → List ℕ
fault_text file kind token at = file ++ codes ": " ++ kind ++ codes " at token " ++ decimal token ++ codes ", byte " ++ decimal at ++ codes "\n"

-- a witness and a graph have another number of something
abbrev pub differing_text : List ℕ → ℕ → ℕ → List ℕ
differing_text what witness graph = codes "witness " ++ what ++ codes " " ++ decimal witness ++ codes ", graph " ++ what ++ codes " " ++ decimal graph ++ codes "\n"

-- the line that goes to standard error, and nothing for an answer
abbrev pub message_of : Status → List ℕ
message_of Done = []
message_of (No vertex reason) = []
message_of Usage = usage_text
message_of (GraphFault f) = fault_text (codes "graph") (graph_kind_name f.kind) f.token f.at
message_of (WitnessFault f) = fault_text (codes "witness") (witness_kind_name f.kind) f.token f.at
message_of (SizeDiffers witness graph) = differing_text (codes "size") witness graph
message_of (PlacesDiffer witness graph) = differing_text (codes "places") witness graph
message_of (SourcesDiffer at) = codes "sources differ at entry " ++ decimal at ++ codes "\n"
message_of (Asymmetric place) = codes "asymmetric at place " ++ decimal place ++ codes "\n"
message_of (SourceRange source n) = codes "source " ++ decimal source ++ codes " is not below " ++ decimal n ++ codes "\n"
message_of (ReadFault Graph) = codes "read fault: graph\n"
message_of (ReadFault Witness) = codes "read fault: witness\n"
message_of WriteFault = codes "write fault\n"
message_of Memory = codes "out of memory\n"
