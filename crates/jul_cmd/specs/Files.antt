-- What a run reads: what the bytes of a file say, and what stands of the shelf once the file was read.
use Rattle.std.specs.Prelude.{◌≡◌, ℕ, ◌≤◌, List, [], length, Some, Result, IfSome}
use Rattle.std.specs.Option.{option_map}
use Rattle.jul_base.specs.declared.graphs.RawGraph.{RawGraph}
use Rattle.jul_base.specs.declared.limits.TheConstants.{MAX_BYTES}
use Rattle.jul_base.specs.Shelves.{ShelfState, contents, after_open, files_and_last}
use Rattle.jul_adj.specs.declared.faults.Fault.{Fault}
use Rattle.jul_adj.specs.Reading.{reads}
use Rattle.jul_witness.specs.declared.faults.WitnessFault.{WitnessFault}
use Rattle.jul_witness.specs.declared.witnesses.Witness.{Witness}
use Rattle.jul_witness.specs.Reading.{reads_witness}

-- what the bytes of a graph file say: a graph, or their first fault
unfoldable pub graph_of_file : List ℕ → Result RawGraph Fault
graph_of_file file = reads file MAX_BYTES

-- what the bytes of a witness file say: a witness, or their first fault
unfoldable pub witness_of_file : List ℕ → Result Witness WitnessFault
witness_of_file file = reads_witness file MAX_BYTES

-- the bytes are those of the file of the name, where the shelf tells them
abbrev pub IsFile : ShelfState → List ℕ → List ℕ → Type 0
IsFile s name file = IfSome s.told (λ t. contents t.files name ≡ Some file)

-- the file of the name says this. Where the shelf doesn't tell its files, the bytes are those that were read
pub record Says {A B : Type 0} (says : List ℕ → Result A B) (shelf : ShelfState) (name : List ℕ) (said : Result A B) : Type 0 where
  pub file : List ℕ
  pub there : IsFile shelf name file
  pub is : says file ≡ said

-- the file of this name was opened last, and the files are as before
abbrev pub IsOpenedLast : ShelfState → ShelfState → List ℕ → Type 0
IsOpenedLast shelf shelf' name = files_and_last shelf'.told ≡ files_and_last (option_map (after_open name) shelf.told)

-- no byte of the open file is left
abbrev pub IsAtEnd : ShelfState → Type 0
IsAtEnd shelf = IfSome shelf.told (λ t. t.left ≡ [])

-- the file of the name was read, and says this: it was opened last, and no byte of it is left unless it is too long
pub record IsRead {A B : Type 0} (says : List ℕ → Result A B) (shelf shelf' : ShelfState) (name : List ℕ) (said : Result A B) : Type 0 where
  pub content : Says says shelf name said
  pub last : IsOpenedLast shelf shelf' name
  pub to_end : length content.file ≤ MAX_BYTES → IsAtEnd shelf'
