-- The answer of a run, from what its parts found.
use Rattle.std.proofs.Common.{◌≡◌, ℕ, ◌≤◌, List, [], ◌∷◌, take, Option, Some, None, Result, Ok, Err, IfSome, IfOk, refl, sym, ◌∙◌, subst, ap, arith, inl, inr}
use Rattle.std.specs.Option.{option_map, IsSomeAnd}
use Rattle.std.proofs.lemmas.List.{take_all}
use Rattle.std.proofs.lemmas.Result.{IfOk-weaker}
use Rattle.jul_base.specs.declared.graphs.RawGraph.{RawGraph}
use Rattle.jul_base.specs.Graph.{vertices}
use Rattle.jul_base.specs.Sinks.{SinkState, Appended}
use Rattle.jul_base.specs.Shelves.{ShelfState, Told, File, IsMissing, contents, known_name, after_open, files_and_last}
use Rattle.jul_base.specs.Loading.{FailedLoading}
use Rattle.jul_base.proofs.SinkLaws.{Rose-after, Appended-none}
use Rattle.jul_witness.specs.declared.faults.WitnessFault.{WitnessFault as FaultOfWitness}
use Rattle.jul_witness.specs.declared.witnesses.Witness.{Witness}
use Rattle.jul_cmd.specs.declared.statuses.Status.{Status}
use Rattle.jul_cmd.specs.declared.statuses.Status.TheVariants.{Usage, GraphFault, WitnessFault, ReadFault, WriteFault, Memory}
use Rattle.jul_cmd.specs.declared.statuses.Which.TheVariants as which
use Rattle.jul_cmd.specs.declared.replies.Reply.{Reply}
use Rattle.jul_cmd.specs.Statuses.{stage_of}
use Rattle.jul_query.specs.Queries.{Input, graph_file, generated, Problem, distances, cores, cover, Form, Purpose, Work, solve, judge, witness_name, Asked}
use Rattle.jul_query.specs.Words.{asked}
use Rattle.jul_cmd.specs.Files.{graph_of_file, witness_of_file, IsFile, IsOpenedLast, IsAtEnd, IsRead}
use Rattle.jul_cmd.specs.Suited.{IsUnsuited}
use Rattle.jul_cmd.specs.Solving.{IsDone, IsSolved}
use Rattle.jul_cmd.specs.Checking.{IsTold, IsJudged, IsChecked}
use Rattle.jul_cmd.specs.Answers.{InputSays}
use Rattle.jul_cmd.specs.Outcomes.{IsTooLong, HasRead, read_before, IsAnswer, HasCause, IsUntroubled, IsComplete}
use Rattle.jul_cmd.specs.Parts.{IsGiven, IsInputRead, IsInputUnread, IsWitnessUnread, IsUnsolved, IsWitnessRefused, HasChecked, IsUnchecked, IsRefusal, IsRefused, text_of}
use Rattle.jul_cmd.proofs.SourceLaws.{refusal_stage}
use Rattle.jul_cmd.proofs.QueryLaws.{named_file}
use Rattle.jul_cmd.proofs.FileLaws.{graph_to_end, fault_to_end, witness_to_end}

-- ---- a file that is opened after another

-- what was opened before changes no file
files_kept : (o p : Option Told) (name : List ℕ) → files_and_last p ≡ files_and_last (option_map (after_open name) o) → option_map (λ t. t.files) p ≡ option_map (λ t. t.files) o
files_kept None None name e = refl
files_kept None (Some u) name e = cc
files_kept (Some t) None name e = cc
files_kept (Some t) (Some u) name e = ap (option_map (λ (x : List File × Option (List ℕ)). x.0)) e

IsFile-before : (a b : ShelfState) (first name file : List ℕ) → IsOpenedLast a b first → IsFile b name file → IsFile a name file
IsFile-before a b first name file e h = go a.told b.told (files_kept a.told b.told first e) h where
  go : (o p : Option Told) → option_map (λ t. t.files) p ≡ option_map (λ t. t.files) o → IfSome p (λ t. contents t.files name ≡ Some file) → IfSome o (λ t. contents t.files name ≡ Some file)
  go None p e h = tt
  go (Some t) None e h = absurd (cc)
  go (Some t) (Some u) e h = let same : u.files ≡ t.files = cc in subst (λ fs. contents fs name ≡ Some file) same h

IsMissing-before : (a b : ShelfState) (first name : List ℕ) → IsOpenedLast a b first → IsMissing b name → IsMissing a name
IsMissing-before a b first name e h = go a.told b.told (files_kept a.told b.told first e) h where
  go : (o p : Option Told) → option_map (λ t. t.files) p ≡ option_map (λ t. t.files) o → IsSomeAnd p (λ t. contents t.files name ≡ None) → IsSomeAnd o (λ t. contents t.files name ≡ None)
  go o None e h = absurd h
  go None (Some u) e h = absurd (cc)
  go (Some t) (Some u) e h = let same : u.files ≡ t.files = cc in subst (λ fs. contents fs name ≡ None) same h

opened_anew : (a b : ShelfState) (first name : List ℕ) → IsOpenedLast a b first → files_and_last (option_map (after_open name) b.told) ≡ files_and_last (option_map (after_open name) a.told)
opened_anew a b first name e = go a.told b.told (files_kept a.told b.told first e) where
  go : (o p : Option Told) → option_map (λ t. t.files) p ≡ option_map (λ t. t.files) o → files_and_last (option_map (after_open name) p) ≡ files_and_last (option_map (after_open name) o)
  go None None e = refl
  go None (Some u) e = absurd (cc)
  go (Some t) None e = absurd (cc)
  go (Some t) (Some u) e = let same : u.files ≡ t.files = cc in ap (λ fs. Some (fs, known_name fs name)) same

IsOpenedLast-then : (a b c : ShelfState) (first name : List ℕ) → IsOpenedLast a b first → IsOpenedLast b c name → IsOpenedLast a c name
IsOpenedLast-then a b c first name e f = f ∙ opened_anew a b first name e

FailedLoading-then : (a b c : ShelfState) (first name : List ℕ) → a.faults ≤ b.faults → IsOpenedLast a b first → FailedLoading b c name → FailedLoading a c name
FailedLoading-then a b c first name le e h = record {
  cause = elim h.cause [
    | inl rose ↦ inl (Rose-after a.faults b.faults c.faults le rose)
    | inr missing ↦ inr (IsMissing-before a b first name e missing)
  ];
  last = h.last ∙ opened_anew a b first name e;
}

-- ---- the graph

abbrev query_of : Input → Work → Asked
query_of input work = record { input = input; work = work }

-- a graph that couldn't be read is the refusal of every work
pub input_refused : (input : Input) (work : Work) (a b : ShelfState) (status : Status) → IsInputUnread input a b status → IsRefused (query_of input work) a b status
input_refused (graph_file name) work a b status (inl faulty) =
    let f = faulty.fault in
    let answer : IsAnswer (query_of (graph_file name) work) a b (GraphFault f) [] =
    record {
      answer = record { graph = Err f; input = faulty.read.content; answer = (refl, refl) };
      read = (faulty.read.last, λ other. fault_to_end a b name f faulty.read other);
    }
    in subst (IsRefused (query_of (graph_file name) work) a b) (sym faulty.is) (inl ((omega (arith), omega (arith)), answer))
input_refused (graph_file name) work a b status (inr (inl unloaded)) =
    inr (inl (which.Graph, unloaded.0, record { name = name; named = refl; failed = unloaded.1 }))
input_refused (graph_file name) work a b status (inr (inr memory)) = inr (inr memory)
input_refused (generated n pairs seed) work a b status memory = inr (inr memory)

-- ---- a problem that is solved

-- the graph is refused at its stage
unsuited_stage : (g : RawGraph) (problem : Problem) (status : Status) → IsUnsuited g problem status → stage_of status ≡ 6
unsuited_stage g (distances sources) status unsuited = refusal_stage (vertices g) sources status unsuited
unsuited_stage g cores status (p, first, is) = ap stage_of is
unsuited_stage g cover status none = absurd none

take_none : (k : ℕ) → ◌≡◌ {A = List (List ℕ)} (take k []) []
take_none k = take_all k [] (omega arith)

solve_read : (input : Input) (problem : Problem) (form : Form) (a b : ShelfState) (g : RawGraph) (status : Status) → 1 ≤ stage_of status → IsInputRead input a b g →
    HasRead a b (read_before (query_of input (solve problem form)) status) status
solve_read (graph_file name) problem form a b g status le read =
    subst (λ names. HasRead a b names status) (sym (take_all (stage_of status) (name ∷ []) le)) (read.last, λ other. graph_to_end a b name g read)
solve_read (generated n pairs seed) problem form a b g status le read =
    subst (λ names. HasRead a b names status) (sym (take_none (stage_of status))) read.0

solve_said : (input : Input) (a b : ShelfState) (g : RawGraph) → IsInputRead input a b g → InputSays a input (Ok g)
solve_said (graph_file name) a b g read = read.content
solve_said (generated n pairs seed) a b g read = ap (λ (h : RawGraph). Ok h) read.1

solve_answer : (input : Input) (work : Work) (problem : Problem) (form : Form) (a b : ShelfState) (g : RawGraph) (status : Status) (text : List ℕ) → work ≡ solve problem form →
    IsInputRead input a b g → 1 ≤ stage_of status → IsSolved g problem form status text → IsAnswer (query_of input work) a b status text
solve_answer input work problem form a b g status text e read le solved =
    subst (λ w. IsAnswer (query_of input w) a b status text) (sym e) (record {
      answer = record { graph = Ok g; input = solve_said input a b g read; answer = solved };
      read = solve_read input problem form a b g status le read;
    })

pub solve_done : (input : Input) (work : Work) (problem : Problem) (form : Form) (a b : ShelfState) (g : RawGraph) (status : Status) (text : List ℕ) → work ≡ solve problem form →
    IsInputRead input a b g → IsDone g problem form status text → IsAnswer (query_of input work) a b status text
solve_done input work problem form a b g status text e read done =
    solve_answer input work problem form a b g status text e read (omega (arith, ap stage_of done.done)) (inr done)

pub solve_refused : (input : Input) (work : Work) (problem : Problem) (form : Form) (a b : ShelfState) (g : RawGraph) (status : Status) → work ≡ solve problem form →
    IsInputRead input a b g → IsUnsolved g problem status → IsRefused (query_of input work) a b status
solve_refused input work problem form a b g status e read (inr memory) = inr (inr memory)
solve_refused input work problem form a b g status e read (inl unsuited) =
    let at : stage_of status ≡ 6 = unsuited_stage g problem status unsuited in
    inl ((omega (arith, at), omega (arith, at)), solve_answer input work problem form a b g status [] e read (omega (arith, at)) (inl (unsuited, refl)))

-- ---- a witness that is judged

pub unread_refused : (a b : ShelfState) (g : RawGraph) (purpose : Purpose) (name : List ℕ) (given : Option (List ℕ)) (status : Status) → IsWitnessUnread a b name status → IsUnchecked a b g purpose name given status
unread_refused a b g purpose name given status (inr unloaded) = inr unloaded
unread_refused a b g purpose name given status (inl faulty) =
    let f = faulty.fault in
    let checked : HasChecked a b g purpose name given (WitnessFault f) [] =
    record {
      witness = Err f;
      read = faulty.read;
      judged = record { told = (refl, refl); sound = λ done. absurd (omega (arith, ap stage_of done)); accepted = λ up done. absurd (omega (arith, ap stage_of done)) };
    }
    in subst (IsUnchecked a b g purpose name given) (sym faulty.is) (inl ((omega (arith), omega (arith)), checked))

-- a witness that was read and judged
pub read_checked : (a b : ShelfState) (g : RawGraph) (purpose : Purpose) (name : List ℕ) (given : Option (List ℕ)) (w : Witness) (r : Result Reply Status) → IsRead witness_of_file a b name (Ok w) →
    IfOk r (λ reply. IsJudged g purpose given (Ok w) reply.status (text_of reply.text)) → IfOk r (λ reply. HasChecked a b g purpose name given reply.status (text_of reply.text))
read_checked a b g purpose name given w r read =
    IfOk-weaker r (λ reply. IsJudged g purpose given (Ok w) reply.status (text_of reply.text)) _ (λ reply judged. record { witness = Ok w; read = read; judged = judged })

pub read_refused : (a b : ShelfState) (g : RawGraph) (purpose : Purpose) (name : List ℕ) (given : Option (List ℕ)) (w : Witness) (status : Status) → IsRead witness_of_file a b name (Ok w) →
    IsWitnessRefused g purpose given (Ok w) status → IsUnchecked a b g purpose name given status
read_refused a b g purpose name given w status read (inl (stage, judged)) = inl (stage, record { witness = Ok w; read = read; judged = judged })
read_refused a b g purpose name given w status read (inr memory) = inr (inr memory)

-- no byte is left of a witness that was judged, unless the status says that it is too long
checked_to_end : (b c : ShelfState) (g : RawGraph) (purpose : Purpose) (name : List ℕ) (given : Option (List ℕ)) (status : Status) (text : List ℕ) → HasChecked b c g purpose name given status text →
    (IsTooLong status → ⊥) → IsAtEnd c
checked_to_end b c g purpose name given status text checked other =
    witness_to_end b c name checked.witness checked.read (λ f e long.
    let told : IsTold purpose g given (Err f) status text = subst (λ (r : Result Witness FaultOfWitness). IsTold purpose g given r status text) e checked.judged.told in
    other (subst IsTooLong (sym told.0) long))

check_said : (a b c : ShelfState) (graph : List ℕ) (g : RawGraph) (purpose : Purpose) (name : List ℕ) (given : Option (List ℕ)) (status : Status) (text : List ℕ) → IsRead graph_of_file a b graph (Ok g) →
    HasChecked b c g purpose name given status text → IsChecked a g purpose name given status text
check_said a b c graph g purpose name given status text read checked =
    let content = checked.read.content in
    record {
      witness = checked.witness;
      file = record { file = content.file; there = IsFile-before a b graph name content.file read.last content.there; is = content.is };
      judged = checked.judged;
    }

check_answer : (input : Input) (work : Work) (a b c : ShelfState) (g : RawGraph) (purpose : Purpose) (name : List ℕ) (given : Option (List ℕ)) (status : Status) (text : List ℕ) → work ≡ judge purpose name given →
    IsInputRead input a b g → 2 ≤ stage_of status → HasChecked b c g purpose name given status text → IsAnswer (query_of input work) a c status text
check_answer (graph_file graph) work a b c g purpose name given status text e read le checked =
    subst (λ w. IsAnswer (query_of (graph_file graph) w) a c status text) (sym e) (record {
      answer = record { graph = Ok g; input = read.content; answer = check_said a b c graph g purpose name given status text read checked };
      read = subst (λ names. HasRead a c names status) (sym (take_all (stage_of status) (graph ∷ name ∷ []) le))
          (IsOpenedLast-then a b c graph name read.last checked.read.last, λ other. checked_to_end b c g purpose name given status text checked other);
    })
check_answer (generated n pairs seed) work a b c g purpose name given status text e read le checked =
    let own : HasChecked a c g purpose name given status text = subst (λ s. HasChecked s c g purpose name given status text) read.0 checked in
    subst (λ w. IsAnswer (query_of (generated n pairs seed) w) a c status text) (sym e) (record {
      answer = record {
        graph = Ok g;
        input = ap (λ (h : RawGraph). Ok h) read.1;
        answer = record { witness = own.witness; file = own.read.content; judged = own.judged };
      };
      read = subst (λ names. HasRead a c names status) (sym (take_all (stage_of status) (name ∷ []) (omega (arith, le))))
          (own.read.last, λ other. checked_to_end a c g purpose name given status text own other);
    })

pub checked_done : (input : Input) (work : Work) (a b c : ShelfState) (g : RawGraph) (purpose : Purpose) (name : List ℕ) (given : Option (List ℕ)) (r : Result Reply Status) → work ≡ judge purpose name given →
    IsInputRead input a b g → IfOk r (λ reply. IsGiven reply.status) → IfOk r (λ reply. HasChecked b c g purpose name given reply.status (text_of reply.text)) →
    IfOk r (λ reply. IsAnswer (query_of input work) a c reply.status (text_of reply.text))
checked_done input work a b c g purpose name given (Err status) e read may checked = tt
checked_done input work a b c g purpose name given (Ok reply) e read may checked =
    check_answer input work a b c g purpose name given reply.status (text_of reply.text) e read (omega (arith, may)) checked

pub check_refused : (input : Input) (work : Work) (a b c : ShelfState) (g : RawGraph) (purpose : Purpose) (name : List ℕ) (given : Option (List ℕ)) (status : Status) → work ≡ judge purpose name given →
    a.faults ≤ b.faults → IsInputRead input a b g → IsUnchecked b c g purpose name given status → IsRefused (query_of input work) a c status
check_refused input work a b c g purpose name given status e le read (inl h) =
    inl ((omega (arith, h.0.0), h.0.1), check_answer input work a b c g purpose name given status [] e read h.0.0 h.1)
check_refused (graph_file graph) work a b c g purpose name given status e le read (inr (inl h)) =
    inr (inl (
      which.Witness,
      h.0,
      ((g, read.content), record { name = name; named = ap witness_name e; failed = FailedLoading-then a b c graph name le read.last h.1 }),
    ))
check_refused (generated n pairs seed) work a b c g purpose name given status e le read (inr (inl h)) =
    inr (inl (
      which.Witness,
      h.0,
      ((g, ap (λ (h : RawGraph). Ok h) read.1), record { name = name; named = ap witness_name e; failed = subst (λ s. FailedLoading s c name) read.0 h.1 }),
    ))
check_refused input work a b c g purpose name given status e le read (inr (inr memory)) = inr (inr memory)

-- ---- the statuses

-- an answer whose text was written whole
pub written_cause : (words : List (List ℕ)) (query : Asked) (a b : ShelfState) (out out' : SinkState) (status : Status) (text : List ℕ) → asked words ≡ Some query → IsGiven status →
    IsAnswer query a b status text → Appended out out' text → HasCause words a b out out' status
written_cause words query a b out out' Usage text taken may answer whole = absurd (omega (arith, may))
written_cause words query a b out out' (ReadFault file) text taken may answer whole = absurd (omega (arith, may))
written_cause words query a b out out' Memory text taken may answer whole = absurd (omega (arith, may))
written_cause words query a b out out' WriteFault text taken may answer whole = absurd (omega (arith, may))
written_cause words query a b out out' status text taken may answer whole = record { query = query; taken = taken; text = text; answer = answer; whole = whole }

-- an answer before anything is written
refused_answer : (words : List (List ℕ)) (query : Asked) (a b : ShelfState) (out : SinkState) (status : Status) → asked words ≡ Some query → IsRefusal status → IsAnswer query a b status [] →
    HasCause words a b out out status
refused_answer words query a b out Usage taken may answer = absurd (omega (arith, may.0))
refused_answer words query a b out (ReadFault file) taken may answer = absurd (omega (arith, may.0))
refused_answer words query a b out Memory taken may answer = absurd (omega (arith, may.0))
refused_answer words query a b out WriteFault taken may answer = absurd (omega (arith, may.1))
refused_answer words query a b out status taken may answer = record { query = query; taken = taken; text = []; answer = answer; whole = Appended-none out out refl }

-- a refusal has its cause
pub refused_cause : (words : List (List ℕ)) (query : Asked) (a b : ShelfState) (out : SinkState) (status : Status) → asked words ≡ Some query → IsRefused query a b status →
    HasCause words a b out out status
refused_cause words query a b out status taken (inl (may, answer)) = refused_answer words query a b out status taken may answer
refused_cause words query a b out status taken (inr (inl (file, is, failed))) = subst (HasCause words a b out out) (sym is) (query, taken, failed)
refused_cause words query a b out status taken (inr (inr is)) = subst (HasCause words a b out out) (sym is) tt

-- ---- where nothing goes wrong outside

pub cause_is_complete : (words : List (List ℕ)) (a b : ShelfState) (out out' : SinkState) (status : Status) → HasCause words a b out out' status → IsUntroubled words a b out out' → IsComplete words a b out out' status
cause_is_complete words a b out out' Usage h untroubled = inl (refl, h.0)
cause_is_complete words a b out out' (ReadFault which.Graph) h untroubled = elim h.2.failed.cause [
  | inl rose ↦ absurd (untroubled.shelf_held rose)
  | inr missing ↦ absurd (named_file (λ name. IsMissing a name → ⊥) h.0 which.Graph h.2.name h.2.named (untroubled.files_there h.0 h.1) missing)
]
cause_is_complete words a b out out' (ReadFault which.Witness) h untroubled = let file = h.2.1 in elim file.failed.cause [
  | inl rose ↦ absurd (untroubled.shelf_held rose)
  | inr missing ↦ absurd (named_file (λ name. IsMissing a name → ⊥) h.0 which.Witness file.name file.named (untroubled.files_there h.0 h.1) missing)
]
cause_is_complete words a b out out' WriteFault h untroubled = absurd (untroubled.out_held h.part.rose)
cause_is_complete words a b out out' Memory h untroubled = inr (inr refl)
cause_is_complete words a b out out' status h untroubled = inr (inl h)
