-- The file of a name, from the bytes that were loaded of it.
use Rattle.std.proofs.Common.{◌≡◌, ℕ, ◌+◌, ◌<◌, ◌≤◌, List, [], length, take, Option, Some, None, Result, Ok, Err, IfSome, refl, sym, ◌∙◌, subst, ap, arith, inl, inr}
use Rattle.std.specs.Option.{option_map, unwrap_or}
use Rattle.std.proofs.lemmas.Bool.{cases_lt, lt-ltb, cond-true}
use Rattle.std.proofs.lemmas.List.{take_all, drop_all, length-take-le}
use Rattle.jul_base.specs.declared.graphs.RawGraph.{RawGraph}
use Rattle.jul_base.specs.declared.limits.TheConstants.{MAX_BYTES}
use Rattle.jul_base.specs.Shelves.{ShelfState, Told, contents, after_open, after_read, files_and_last}
use Rattle.jul_base.specs.Loading.{bytes_of, IsLoaded}
use Rattle.jul_adj.specs.declared.faults.Fault.{Fault}
use Rattle.jul_adj.specs.declared.faults.FaultKind.TheVariants as graph_kinds
use Rattle.jul_adj.specs.declared.faults.StreamError.{StreamError}
use Rattle.jul_adj.specs.declared.faults.StreamError.TheVariants as stream_errors
use Rattle.jul_adj.specs.Reading.{reads}
use Rattle.jul_adj.specs.Streaming.{IsStreamed, IsUnread}
use Rattle.jul_witness.specs.declared.faults.WitnessFault.{WitnessFault}
use Rattle.jul_witness.specs.declared.faults.WitnessKind.TheVariants as witness_kinds
use Rattle.jul_witness.specs.declared.witnesses.Witness.{Witness}
use Rattle.jul_witness.specs.declared.faults.WitnessError.{WitnessError}
use Rattle.jul_witness.specs.declared.faults.WitnessError.TheVariants as witness_errors
use Rattle.jul_witness.specs.Reading.{reads_witness, Fails as WitnessFails}
use Rattle.jul_cmd.specs.Statuses.{stream_refusal, witness_refusal}
use Rattle.jul_cmd.specs.Files.{graph_of_file, witness_of_file, IsAtEnd, IsRead}
use Rattle.jul_cmd.specs.Parts.{IsGraphUnread, IsWitnessUnread}

-- ---- what bytes say, where a file that is too long has a fault of its own

pub record TellsLength {A B : Type 0} (says : List ℕ → Result A B) (too_long : B) : Type 0 where
  pub long : (file : List ℕ) → MAX_BYTES < length file → says file ≡ Err too_long

-- the bytes that are loaded say what the file says
first_bytes_say : {A B : Type 0} (says : List ℕ → Result A B) (too_long : B) → TellsLength says too_long → (file bytes : List ℕ) → bytes ≡ take (MAX_BYTES + 1) file → says file ≡ says bytes
first_bytes_say says too_long h file bytes e = elim (cases_lt MAX_BYTES (length file)) [
  | inl lt ↦ h.long file lt ∙ sym (h.long bytes (omega (arith, lt, ap length e, length-take-le (MAX_BYTES + 1) file (omega (arith, lt)))))
  | inr le ↦ ap says (sym (e ∙ take_all (MAX_BYTES + 1) file (omega (arith, le))))
]

-- a file that says anything else isn't too long
is_short : {A B : Type 0} (says : List ℕ → Result A B) (too_long : B) → TellsLength says too_long → (file : List ℕ) (r : Result A B) → says file ≡ r → (r ≡ Err too_long → ⊥) → length file ≤ MAX_BYTES
is_short says too_long h file r e other = elim (cases_lt MAX_BYTES (length file)) [
  | inl lt ↦ absurd (other (sym e ∙ h.long file lt))
  | inr le ↦ le
]

opened_last : (o p : Option Told) (name : List ℕ) (n : ℕ) → p ≡ option_map (λ t. after_read n (after_open name t)) o → files_and_last p ≡ files_and_last (option_map (after_open name) o)
opened_last None p name n e = ap files_and_last e
opened_last (Some t) p name n e = ap files_and_last e

file_read : {A B : Type 0} (says : List ℕ → Result A B) (too_long : B) → TellsLength says too_long → (o p : Option Told) (name bytes : List ℕ) →
    IfSome o (λ t. contents t.files name ≡ Some (bytes_of t name)) → IfSome o (λ t. bytes ≡ take (MAX_BYTES + 1) (bytes_of t name)) →
    p ≡ option_map (λ t. after_read (MAX_BYTES + 1) (after_open name t)) o →
    (file : List ℕ) × IfSome o (λ t. contents t.files name ≡ Some file) × (says file ≡ says bytes) × (length file ≤ MAX_BYTES → IfSome p (λ t. t.left ≡ []))
file_read says too_long h None p name bytes there first rest = (bytes, tt, refl, λ short. subst (λ o. IfSome o (λ t. t.left ≡ [])) (sym rest) tt)
file_read says too_long h (Some t) p name bytes there first rest = (
  bytes_of t name,
  there,
  first_bytes_say says too_long h (bytes_of t name) bytes first,
  λ short. subst (λ o. IfSome o (λ t. t.left ≡ [])) (sym rest) (drop_all (MAX_BYTES + 1) (bytes_of t name) (omega (arith, short))),
)

loaded_file : {A B : Type 0} (says : List ℕ → Result A B) (too_long : B) → TellsLength says too_long → (shelf shelf' : ShelfState) (name bytes : List ℕ) (said : Result A B) →
    IsLoaded shelf shelf' name bytes (MAX_BYTES + 1) → says bytes ≡ said → IsRead says shelf shelf' name said
loaded_file says too_long h shelf shelf' name bytes said loaded e =
    let f = file_read says too_long h shelf.told shelf'.told name bytes loaded.there loaded.first_bytes loaded.rest in
    record { content = record { file = f.0; there = f.1; is = f.2 ∙ e }; last = opened_last shelf.told shelf'.told name (MAX_BYTES + 1) loaded.rest; to_end = f.3 }

-- no byte is left of a file that says something else than that it is too long
read_to_end : {A B : Type 0} (says : List ℕ → Result A B) (too_long : B) → TellsLength says too_long → (shelf shelf' : ShelfState) (name : List ℕ) (said : Result A B) →
    IsRead says shelf shelf' name said → (said ≡ Err too_long → ⊥) → IsAtEnd shelf'
read_to_end says too_long h shelf shelf' name said read other = read.to_end (is_short says too_long h read.content.file said read.content.is other)

-- ---- a graph file

abbrev long_graph : Fault
long_graph = record { kind = graph_kinds.TooLong; token = 0; at = MAX_BYTES }

graph_tells_length : TellsLength graph_of_file long_graph
unfolding graph_of_file
graph_tells_length = record { long = λ file lt. cond-true _ _ _ (lt-ltb MAX_BYTES (length file) lt) }

graph_says : (bytes : List ℕ) (r : Result RawGraph Fault) → reads bytes MAX_BYTES ≡ r → graph_of_file bytes ≡ r
unfolding graph_of_file
graph_says bytes r e = e

graph_is_no_fault : (g : RawGraph) (f : Fault) → ◌≡◌ {A = Result RawGraph Fault} (Ok g) (Err f) → ⊥
graph_is_no_fault g f e = cc

same_fault : (f h : Fault) → ◌≡◌ {A = Result RawGraph Fault} (Err f) (Err h) → f ≡ h
same_fault f h e = cc

-- no byte is left of a file that isn't too long
streamed_end : (o p : Option Told) (name file : List ℕ) → IfSome o (λ t. contents t.files name ≡ Some file) → p ≡ option_map (λ t. after_read (MAX_BYTES + 1) (after_open name t)) o →
    length file ≤ MAX_BYTES → IfSome p (λ t. t.left ≡ [])
streamed_end None p name file there rest short = subst (λ o. IfSome o (λ t. t.left ≡ [])) (sym rest) tt
streamed_end (Some t) p name file there rest short =
    let is : bytes_of t name ≡ file = ap (λ c. unwrap_or c []) there in
    subst (λ o. IfSome o (λ t. t.left ≡ [])) (sym rest) (drop_all (MAX_BYTES + 1) (bytes_of t name) (omega (arith, short, ap (λ (b : List ℕ). length b) is)))

-- a graph file that was read from the shelf
pub streamed_graph : (shelf shelf' : ShelfState) (name : List ℕ) (said : Result RawGraph Fault) → IsStreamed shelf shelf' name MAX_BYTES said → IsRead graph_of_file shelf shelf' name said
streamed_graph shelf shelf' name said h = record {
  content = record { file = h.file; there = h.there; is = graph_says h.file said h.is };
  last = opened_last shelf.told shelf'.told name (MAX_BYTES + 1) h.rest;
  to_end = streamed_end shelf.told shelf'.told name h.file h.there h.rest;
}

pub graph_to_end : (shelf shelf' : ShelfState) (name : List ℕ) (g : RawGraph) → IsRead graph_of_file shelf shelf' name (Ok g) → IsAtEnd shelf'
graph_to_end shelf shelf' name g read = read_to_end graph_of_file long_graph graph_tells_length shelf shelf' name (Ok g) read (graph_is_no_fault g long_graph)

pub fault_to_end : (shelf shelf' : ShelfState) (name : List ℕ) (f : Fault) → IsRead graph_of_file shelf shelf' name (Err f) → (f.kind ≡ graph_kinds.TooLong → ⊥) → IsAtEnd shelf'
fault_to_end shelf shelf' name f read other =
    read_to_end graph_of_file long_graph graph_tells_length shelf shelf' name (Err f) read (λ e. other (ap (λ (x : Fault). x.kind) (same_fault f long_graph e)))

-- a graph that wasn't read
pub graph_unread : (shelf shelf' : ShelfState) (name : List ℕ) (e : StreamError) → IsUnread shelf shelf' name MAX_BYTES e → IsGraphUnread shelf shelf' name (stream_refusal e)
graph_unread shelf shelf' name stream_errors.Failed failed = inr (inl (refl, failed))
graph_unread shelf shelf' name (stream_errors.Bad fault) streamed = inl (record { fault = fault; read = streamed_graph shelf shelf' name (Err fault) streamed; is = refl })
graph_unread shelf shelf' name stream_errors.Memory stopped = inr (inr refl)

-- ---- a witness file

abbrev long_witness : WitnessFault
long_witness = record { kind = witness_kinds.TooLong; token = 0; at = MAX_BYTES }

witness_tells_length : TellsLength witness_of_file long_witness
unfolding witness_of_file
witness_tells_length = record { long = λ file lt. cond-true _ _ _ (lt-ltb MAX_BYTES (length file) lt) }

witness_says : (bytes : List ℕ) (r : Result Witness WitnessFault) → reads_witness bytes MAX_BYTES ≡ r → witness_of_file bytes ≡ r
unfolding witness_of_file
witness_says bytes r e = e

pub loaded_witness : (shelf shelf' : ShelfState) (name bytes : List ℕ) (said : Result Witness WitnessFault) → IsLoaded shelf shelf' name bytes (MAX_BYTES + 1) → reads_witness bytes MAX_BYTES ≡ said →
    IsRead witness_of_file shelf shelf' name said
loaded_witness shelf shelf' name bytes said loaded e =
    loaded_file witness_of_file long_witness witness_tells_length shelf shelf' name bytes said loaded (witness_says bytes said e)

-- no byte is left of a witness file, unless its fault is that it is too long
pub witness_to_end : (shelf shelf' : ShelfState) (name : List ℕ) (said : Result Witness WitnessFault) → IsRead witness_of_file shelf shelf' name said →
    ((f : WitnessFault) → said ≡ Err f → f.kind ≡ witness_kinds.TooLong → ⊥) → IsAtEnd shelf'
witness_to_end shelf shelf' name said read other =
    read_to_end witness_of_file long_witness witness_tells_length shelf shelf' name said read (λ e. other long_witness e refl)

-- a witness that wasn't read, after its file was loaded
pub witness_unread : (shelf shelf' : ShelfState) (name text bytes : List ℕ) (e : WitnessError) → text ≡ bytes → IsLoaded shelf shelf' name bytes (MAX_BYTES + 1) → WitnessFails e (reads_witness text MAX_BYTES) →
    IsWitnessUnread shelf shelf' name (witness_refusal e)
witness_unread shelf shelf' name text bytes witness_errors.Memory same loaded fails = inr (inr refl)
witness_unread shelf shelf' name text bytes (witness_errors.Bad fault) same loaded fails =
    inl (record { fault = fault; read = loaded_witness shelf shelf' name bytes (Err fault) loaded (ap (λ b. reads_witness b MAX_BYTES) (sym same) ∙ fails); is = refl })
