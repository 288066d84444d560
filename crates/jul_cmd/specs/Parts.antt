-- What the parts of a run leave to the next one.
use Rattle.std.specs.Prelude.{◌≡◌, ◌⊎◌, ℕ, ◌<◌, ◌≤◌, List, [], Option, Result, Ok, Err, Bool, IsTrue}
use Rattle.jul_base.specs.declared.graphs.RawGraph.{RawGraph}
use Rattle.jul_base.specs.declared.limits.TheConstants.{MAX_M}
use Rattle.jul_base.specs.Shelves.{ShelfState}
use Rattle.jul_base.specs.Loading.{FailedLoading}
use Rattle.jul_base.specs.Sources.{AreNamedSources}
use Rattle.jul_base.specs.Symmetry.{IsSymmetric}
use Rattle.jul_witness.specs.declared.faults.WitnessFault.{WitnessFault as FaultOfWitness}
use Rattle.jul_witness.specs.declared.witnesses.Witness.{Witness as AnyWitness}
use Rattle.jul_witness.specs.Lawful.{IsLawful}
use Rattle.jul_witness.specs.declared.witnesses.Columns.{Columns}
use Rattle.jul_witness.specs.Texts.{bare_text, columns_text}
use Rattle.jul_check.specs.declared.verdicts.Verdict.{Verdict}
use Rattle.jul_cmd.specs.declared.statuses.Status.{Status}
use Rattle.jul_cmd.specs.declared.statuses.Status.TheVariants.{GraphFault, WitnessFault, ReadFault, Memory}
use Rattle.jul_cmd.specs.declared.statuses.Which.{Which}
use Rattle.jul_cmd.specs.declared.statuses.Which.TheVariants.{Graph, Witness}
use Rattle.jul_cmd.specs.declared.replies.Reply.{Reply}
use Rattle.jul_cmd.specs.declared.replies.Text.{Text}
use Rattle.jul_cmd.specs.declared.replies.Text.TheVariants.{Bare, Whole, Line}
use Rattle.jul_cmd.specs.Statuses.{stage_of}
use Rattle.jul_query.specs.declared.queries.Problem.{Problem as GivenProblem}
use Rattle.jul_query.specs.Queries.{Input, graph_file, generated, Problem, Form, Purpose, Asked}
use Rattle.jul_query.specs.Ranges.{IsProblemInRange}
use Rattle.jul_adj.specs.Generated.{generated as generated_graph}
use Rattle.jul_cmd.specs.Files.{graph_of_file, witness_of_file, IsRead}
use Rattle.jul_cmd.specs.Suited.{IsUnsuited}
use Rattle.jul_cmd.specs.Solving.{IsDone}
use Rattle.jul_cmd.specs.Checking.{IsJudged}
use Rattle.jul_cmd.specs.Outcomes.{IsAnswer, FailedReading}

-- ---- statuses of refusals

-- a refusal that the files cause
abbrev pub IsRefusal : Status → Type 0
IsRefusal status = (1 ≤ stage_of status) × (stage_of status < 7)

-- a refusal that comes once the witness was read
abbrev pub IsWitnessRefusal : Status → Type 0
IsWitnessRefusal status = (2 ≤ stage_of status) × (stage_of status < 7)

-- an answer that has a text
abbrev pub IsGiven : Status → Type 0
IsGiven status = stage_of status ≡ 7

-- ---- files

-- the bytes of a file could not be loaded
abbrev pub IsUnloaded : Which → ShelfState → ShelfState → List ℕ → Status → Type 0
IsUnloaded which shelf shelf' name status = ((status ≡ ReadFault which) × FailedLoading shelf shelf' name) ⊎ (status ≡ Memory)

-- the file of the name was read, and has a fault
pub record FaultyFile {A B : Type 0} (says : List ℕ → Result A B) (refusal : B → Status) (shelf shelf' : ShelfState) (name : List ℕ) (status : Status) : Type 0 where
  pub fault : B
  pub read : IsRead says shelf shelf' name (Err fault)
  pub is : status ≡ refusal fault

-- the graph file has a fault, or could not be loaded
abbrev pub IsGraphUnread : ShelfState → ShelfState → List ℕ → Status → Type 0
IsGraphUnread shelf shelf' name status = FaultyFile graph_of_file (λ fault. GraphFault fault) shelf shelf' name status ⊎ IsUnloaded Graph shelf shelf' name status

-- the witness file has a fault, or could not be loaded
abbrev pub IsWitnessUnread : ShelfState → ShelfState → List ℕ → Status → Type 0
IsWitnessUnread shelf shelf' name status = FaultyFile witness_of_file (λ fault. WitnessFault fault) shelf shelf' name status ⊎ IsUnloaded Witness shelf shelf' name status

-- the graph of an input was read, or made
abbrev pub IsInputRead : Input → ShelfState → ShelfState → RawGraph → Type 0
IsInputRead (graph_file name) shelf shelf' g = IsRead graph_of_file shelf shelf' name (Ok g)
IsInputRead (generated n pairs seed) shelf shelf' g = (shelf' ≡ shelf) × (g ≡ generated_graph n pairs seed)

-- the graph of an input could not be read, or made
abbrev pub IsInputUnread : Input → ShelfState → ShelfState → Status → Type 0
IsInputUnread (graph_file name) shelf shelf' status = IsGraphUnread shelf shelf' name status
IsInputUnread (generated n pairs seed) shelf shelf' status = status ≡ Memory

-- ---- the tasks

abbrev pub text_of : Text → List ℕ
text_of (Bare column) = bare_text column
text_of (Whole places sources columns) = columns_text places sources columns
text_of (Line line) = line

-- a problem can be put to a graph: its numbers are in range, and where the graph is said to be symmetric, it is
pub record IsPosed (g : RawGraph) (is_symmetric : Bool) (problem : GivenProblem) : Type 0 where
  pub range : IsProblemInRange problem
  pub symmetric : IsTrue is_symmetric → IsSymmetric g

-- a reply has what a problem asks of a graph, in the form
abbrev pub Solves : RawGraph → Problem → Form → Reply → Type 0
Solves g problem form reply = IsDone g problem form reply.status (text_of reply.text)

-- the graph isn't suited to the problem, or memory ran out
abbrev pub IsUnsolved : RawGraph → Problem → Status → Type 0
IsUnsolved g problem status = IsUnsuited g problem status ⊎ (status ≡ Memory)

-- what was said of columns, unless memory ran out
abbrev pub Judges : Result Verdict Status → Result Verdict Status → Type 0
Judges (Ok verdict) said = said ≡ Ok verdict
Judges (Err status) said = (IsWitnessRefusal status × (said ≡ Err status)) ⊎ (status ≡ Memory)

-- what a witness file says is refused, or memory ran out
abbrev pub IsWitnessRefused : RawGraph → Purpose → Option (List ℕ) → Result AnyWitness FaultOfWitness → Status → Type 0
IsWitnessRefused g purpose given said status = (IsWitnessRefusal status × IsJudged g purpose given said status []) ⊎ (status ≡ Memory)

-- the witness file was read and judged
pub record HasChecked (shelf shelf' : ShelfState) (g : RawGraph) (purpose : Purpose) (name : List ℕ) (given : Option (List ℕ)) (status : Status) (text : List ℕ) : Type 0 where
  pub witness : Result AnyWitness FaultOfWitness
  pub read : IsRead witness_of_file shelf shelf' name witness
  pub judged : IsJudged g purpose given witness status text

-- there is no verdict: the witness is refused, or its file could not be loaded, or memory ran out
abbrev pub IsUnchecked : ShelfState → ShelfState → RawGraph → Purpose → List ℕ → Option (List ℕ) → Status → Type 0
IsUnchecked shelf shelf' g purpose name given status =
    (IsWitnessRefusal status × HasChecked shelf shelf' g purpose name given status []) ⊎ IsUnloaded Witness shelf shelf' name status

-- ---- the whole

-- the columns of a result can be written, with the places and the sources
pub record AreWritable (places : ℕ) (sources : List ℕ) (columns : Columns) : Type 0 where
  pub few : places ≤ MAX_M
  pub sources_named : AreNamedSources sources
  pub lawful : IsLawful columns

abbrev pub IsWritable : Text → Type 0
IsWritable (Bare column) = Unit {0}
IsWritable (Whole places sources columns) = AreWritable places sources columns
IsWritable (Line line) = Unit {0}

-- a refusal before anything is written
abbrev pub IsRefused : Asked → ShelfState → ShelfState → Status → Type 0
IsRefused query shelf shelf' status =
    (IsRefusal status × IsAnswer query shelf shelf' status [])
    ⊎ ((which : Which) × (status ≡ ReadFault which) × FailedReading query shelf shelf' which)
    ⊎ (status ≡ Memory)
