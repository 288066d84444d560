-- What a run leaves, and what each status means.
use Rattle.std.specs.Prelude.{◌≡◌, ◌⊎◌, ℕ, List, [], ◌∷◌, take, Some, None, Ok, All}
use Rattle.jul_base.specs.declared.graphs.RawGraph.{RawGraph}
use Rattle.jul_base.specs.Sinks.{SinkState, Rose, Appended, FailedWriting}
use Rattle.jul_base.specs.Shelves.{ShelfState, IsMissing}
use Rattle.jul_base.specs.Loading.{FailedLoading}
use Rattle.jul_adj.specs.declared.faults.FaultKind.TheVariants as graph_kinds
use Rattle.jul_witness.specs.declared.faults.WitnessKind.TheVariants as witness_kinds
use Rattle.jul_cmd.specs.declared.statuses.Status.{Status}
use Rattle.jul_cmd.specs.declared.statuses.Status.TheVariants.{Usage, GraphFault, WitnessFault, ReadFault, WriteFault, Memory}
use Rattle.jul_cmd.specs.declared.statuses.Which.{Which}
use Rattle.jul_cmd.specs.declared.statuses.Which.TheVariants.{Graph, Witness}
use Rattle.jul_cmd.specs.Statuses.{stage_of}
use Rattle.jul_query.specs.Queries.{Input, Asked}
use Rattle.jul_cmd.specs.Queries.{name_of, read_in_order}
use Rattle.jul_query.specs.Words.{asked}
use Rattle.jul_cmd.specs.Files.{IsOpenedLast, IsAtEnd}
use Rattle.jul_cmd.specs.Answers.{InputSays, Answer}

-- the whole text was appended, or the sink failed behind a part of it
abbrev pub WroteOrFailed : SinkState → SinkState → List ℕ → Type 0
WroteOrFailed old new text = Appended old new text ⊎ FailedWriting old new text

-- ---- the shelf

abbrev pub IsTooLong : Status → Type 0
IsTooLong (GraphFault fault) = fault.kind ≡ graph_kinds.TooLong
IsTooLong (WitnessFault fault) = fault.kind ≡ witness_kinds.TooLong
IsTooLong status = ⊥

-- the last of these files was opened last, and no byte of it is left, unless the status says that it is too long. Without
-- any the shelf is as before
abbrev pub HasRead : ShelfState → ShelfState → List (List ℕ) → Status → Type 0
HasRead shelf shelf' [] status = shelf' ≡ shelf
HasRead shelf shelf' (name ∷ []) status = IsOpenedLast shelf shelf' name × ((IsTooLong status → ⊥) → IsAtEnd shelf')
HasRead shelf shelf' (name ∷ next ∷ names) status = HasRead shelf shelf' (next ∷ names) status

-- the files that are read before a query has this answer: the graph alone where it has a fault
abbrev pub read_before : Asked → Status → List (List ℕ)
read_before query status = take (stage_of status) (read_in_order query)

-- The answer to a query, with the files that the shelf has under the names, and what was read of them.
pub record IsAnswer (query : Asked) (shelf shelf' : ShelfState) (status : Status) (text : List ℕ) : Type 0 where
  pub answer : Answer query shelf status text
  pub read : HasRead shelf shelf' (read_before query status) status

-- ---- the statuses

-- the answer was given, and its text was written whole
pub record Answered (words : List (List ℕ)) (shelf shelf' : ShelfState) (out out' : SinkState) (status : Status) : Type 0 where
  pub query : Asked
  pub taken : asked words ≡ Some query
  pub text : List ℕ
  pub answer : IsAnswer query shelf shelf' status text
  pub whole : Appended out out' text

-- the text of the answer was not written whole, because the sink failed
pub record FailedAnswer (words : List (List ℕ)) (shelf shelf' : ShelfState) (out out' : SinkState) : Type 0 where
  pub query : Asked
  pub taken : asked words ≡ Some query
  pub status : Status
  pub text : List ℕ
  pub answer : IsAnswer query shelf shelf' status text
  pub part : FailedWriting out out' text

-- the input has a graph
abbrev pub HasGraph : ShelfState → Input → Type 0
HasGraph shelf input = (g : RawGraph) × InputSays shelf input (Ok g)

-- a file of a query could not be read: the shelf failed, or has no file of the name
pub record FailedFile (query : Asked) (shelf shelf' : ShelfState) (which : Which) : Type 0 where
  pub name : List ℕ
  pub named : name_of query which ≡ Some name
  pub failed : FailedLoading shelf shelf' name

-- the graph file could not be read; or the witness file, where the graph file has a graph
abbrev pub FailedReading : Asked → ShelfState → ShelfState → Which → Type 0
FailedReading query shelf shelf' Graph = FailedFile query shelf shelf' Graph
FailedReading query shelf shelf' Witness = HasGraph shelf query.input × FailedFile query shelf shelf' Witness

-- WHAT EACH STATUS MEANS. Memory may come in place of any other before the first byte is written.
abbrev pub HasCause : List (List ℕ) → ShelfState → ShelfState → SinkState → SinkState → Status → Type 0
HasCause words shelf shelf' out out' Usage = (asked words ≡ None) × (shelf' ≡ shelf)
HasCause words shelf shelf' out out' (ReadFault which) = (query : Asked) × (asked words ≡ Some query) × FailedReading query shelf shelf' which
HasCause words shelf shelf' out out' WriteFault = FailedAnswer words shelf shelf' out out'
HasCause words shelf shelf' out out' Memory = Unit {0}
HasCause words shelf shelf' out out' status = Answered words shelf shelf' out out' status

-- nothing went wrong outside: neither shelf nor sink failed, and the files that the words name are there
pub record IsUntroubled (words : List (List ℕ)) (shelf shelf' : ShelfState) (out out' : SinkState) : Type 0 where
  pub shelf_held : Rose shelf.faults shelf'.faults → ⊥
  pub out_held : Rose out.faults out'.faults → ⊥
  pub files_there : (query : Asked) → asked words ≡ Some query → All (λ name. IsMissing shelf name → ⊥) (read_in_order query)

-- the words aren't taken, or the answer of their files was given whole, or memory ran out
abbrev pub IsComplete : List (List ℕ) → ShelfState → ShelfState → SinkState → SinkState → Status → Type 0
IsComplete words shelf shelf' out out' status =
    ((status ≡ Usage) × (asked words ≡ None)) ⊎ Answered words shelf shelf' out out' status ⊎ (status ≡ Memory)
