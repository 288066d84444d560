-- Adds at places, one after another in a chunk, and all chunks together.
use Rattle.std.proofs.Common.{suc, ◌≡◌, ℕ, ◌+◌, ◌*◌, ◌<◌, ◌≤◌, List, [], ◌∷◌, ◌++◌, length, map, drop, refl, ap, sym, ◌∙◌, subst, arith, All, Bool, true, false, eqb, cond, Vec, Global, if◌then◌else◌, ⊎_elim, get_or}
use Rattle.std.specs.Prelude.{Contains, sum_by, ◌&&◌, Option, None, Some, slice_get}
use Rattle.std.specs.List.{flat_map, filter, count_by, range_with_len}
use Rattle.std.proofs.lemmas.List.{get_or_default}
use Rattle.std.proofs.lemmas.Bool.{cond-true, eq-eqb}
use Rattle.std.proofs.lemmas.List.Sums.{sum_by-cons}
use Rattle.std.proofs.lemmas.List.Elements.{All-nil, All-cons, All-head, All-tail, All-map, Contains-get_or}
use Rattle.jul_base.specs.declared.graphs.RawGraph.{RawGraph}
use Rattle.jul_base.specs.Graph.{vertices, target, IsLawful}
use Rattle.jul_base.specs.Logs.{Log, Entry, ADD, followed_by}
use Rattle.jul_base.specs.Numbers.{below}
use Rattle.jul_base.proofs.SetLaws.{Contains-cons_cases}
use Rattle.jul_base.proofs.SymmetryLaws.{counted_cases}
use Rattle.jul_pool.specs.Added.{followed_by_all, first_part, entries_of}
use Rattle.jul_pool.specs.Runs.{Run, IsRun, EachRunOnce}
use Rattle.jul_pool.proofs.PartLaws.{HasOnePart, one_part}
use Rattle.jul_words.specs.Weights.{weigh, counted}
use Rattle.jul_words.proofs.Sums.{weigh-append}
use Rattle.jul_words.specs.Seats.{Seat}
use Rattle.jul_words.specs.Counts.{is_add, is_first, adds}
use Rattle.jul_rows.specs.Visits.{Step, step, Visited, VisitedInOrder, HasPushed, noted_of, push_steps}
use Rattle.jul_subset.specs.Applications.{Done, AppliedInOrder, answered_true}
use Rattle.jul_subset.specs.Chunks.{chunk_of}
use Rattle.jul_subset.proofs.ApplicationLaws.{NotesChunk, notes_hits, all_gathered, applied_from_nil}
use Rattle.jul_subset.proofs.ChunkLaws.{each_once_sum}
use Rattle.jul_subset.proofs.PickingLaws.{chunks_weigh}
use Rattle.jul_count.specs.Adds.{HasAddsFrom, add_weight, places_of, weight_from}
use Rattle.jul_count.specs.Counts.{reaching}
use Rattle.jul_count.specs.Counting.{all_wanted, add_of, AddsOne, VisitAdds, steps_of, AddedAll}
use Rattle.jul_count.proofs.SumLaws.{sum_by-same, sum_by-map, sum_by-flat_map, weigh_is_sum}
use Rattle.jul_count.proofs.ReachLaws.{reaching_by_places, reached_is_vertex, sum_by-shifted}

abbrev target_of : Step → ℕ
target_of s = s.target

abbrev Given : Done Step → Type 0
Given d = AddsOne d.to d.answer d.added

-- ---- a chunk

module _ {T : Type 0} (log : T → Log) where
  record AddedVisits (visited : List Visited) (old new : T) : Type 0 where
    pub done : List (Done Step)
    pub applied : AppliedInOrder AddsOne (map (λ (x : Visited). x.step) visited) (log old) (log new) done
    pub noted_are : noted_of visited ≡ answered_true target_of done

  added_visits : (visited : List Visited) (old new : T) → VisitedInOrder (VisitAdds log) visited old new → AddedVisits visited old new
  added_visits [] old new e = record { done = []; applied = record { by = record { each = All-nil _; log_is = ap log e }; to_is = refl }; noted_are = refl }
  added_visits (x ∷ xs) old new v =
      let mid = v.0 in
      let one = v.1 in
      let rest : AddedVisits xs mid new = added_visits xs mid new v.2 in
      let d : Done Step = record { to = x.step; answer = x.noted; added = one.added } in record {
        done = d ∷ rest.done;
        applied = record {
          by = record {
            each = All-cons Given d rest.done one.gives_out rest.applied.by.each;
            log_is = rest.applied.by.log_is ∙ ap (λ l. followed_by_all l (map (λ (d : Done Step). d.added) rest.done)) one.log_is;
          };
          to_is = ap (λ l. x.step ∷ l) rest.applied.to_is;
        };
        noted_are = ap (λ l. if x.noted then x.step.target ∷ l else l) rest.noted_are;
      }

  -- what a chunk adds, and what it notes
  pub run_adds : (steps whole : List Step) (old new : T) (before after : List ℕ) → HasPushed (VisitAdds log) whole old new before after → before ≡ [] → whole ≡ steps →
      (added : Log) × ((done : List (Done Step)) × AppliedInOrder AddsOne steps [] added done × (after ≡ answered_true target_of done)) × (log new ≡ followed_by (log old) added)
  run_adds steps whole old new before after h none same =
      let a : AddedVisits h.visited old new = added_visits h.visited old new h.has_visited.in_order in
      let all : AppliedInOrder AddsOne steps (log old) (log new) a.done = record { by = a.applied.by; to_is = a.applied.to_is ∙ h.has_visited.steps_are ∙ same } in
      let from_nil = applied_from_nil AddsOne steps (log old) (log new) a.done all in (
        followed_by_all [] (map (λ (d : Done Step). d.added) a.done),
        (a.done, from_nil.0, h.noted_are ∙ ap (λ l. l ++ noted_of h.visited) none ∙ a.noted_are),
        from_nil.1,
      )

-- ---- entries of adds

abbrev entries : List (Done Step) → List Entry
entries done = entries_of (map (λ (d : Done Step). d.added) done)

one_entry : (d : Done Step) → Given d → (ds : List (Done Step)) → entries (d ∷ ds) ≡ add_of d.to d.answer ∷ entries ds
one_entry d h ds = ap (λ l. first_part l ++ entries ds) h

weigh_entries : (f : Entry → ℕ) (h : Step → ℕ) → ((s : Step) (b : Bool) → f (add_of s b) ≡ h s) → (done : List (Done Step)) → All Given done →
    sum_by f (entries done) ≡ sum_by h (map (λ (d : Done Step). d.to) done)
weigh_entries f h same [] each = refl
weigh_entries f h same (d ∷ ds) each =
    let is = one_entry d (All-head Given d ds each) ds in
    omega (
      arith,
      ap (sum_by f) is,
      sum_by-cons f (add_of d.to d.answer) (entries ds),
      same d.to d.answer,
      sum_by-cons h d.to (map (λ (d : Done Step). d.to) ds),
      weigh_entries f h same ds (All-tail Given d ds each),
    )

all_are_adds : (done : List (Done Step)) → All Given done → All (λ (e : Entry). e.kind ≡ ADD) (entries done)
all_are_adds [] each = All-nil _
all_are_adds (d ∷ ds) each =
    let P : Entry → Type 0 = λ e. e.kind ≡ ADD in
    subst (All P) (sym (one_entry d (All-head Given d ds each) ds)) (All-cons P (add_of d.to d.answer) (entries ds) refl (all_are_adds ds (All-tail Given d ds each)))

one_part_each : (done : List (Done Step)) → All Given done → All HasOnePart (map (λ (d : Done Step). d.added) done)
one_part_each done each = All-map HasOnePart (λ (d : Done Step). d.added) done (λ k d lt. omega (arith, ap length (each k d lt)))

first_of : (v : ℕ) (s : Step) (b : Bool) → is_first v (add_of s b) ≡ cond b (cond (eqb s.target v) 1 0) 0
first_of v s b = both (eqb s.target v) b where
  both : (t b : Bool) → counted ((true && t) && (eqb (counted b) 1)) ≡ cond b (cond t 1 0) 0
  both true true = refl
  both true false = refl
  both false true = refl
  both false false = refl

count_if : (p : ℕ → Bool) (b : Bool) (x : ℕ) (xs : List ℕ) → count_by p (if b then x ∷ xs else xs) ≡ cond b (cond (p x) 1 0) 0 + count_by p xs
count_if p true x xs = sum_by-cons (λ y. cond (p y) 1 0) x xs
count_if p false x xs = omega arith

-- the vertices answered true are those of marked entries
firsts_are_hits : (v : ℕ) (done : List (Done Step)) → All Given done → weigh (is_first v) (entries done) ≡ count_by (λ x. eqb x v) (answered_true target_of done)
firsts_are_hits v [] each = refl
firsts_are_hits v (d ∷ ds) each =
    omega (
      arith,
      ap (weigh (is_first v)) (one_entry d (All-head Given d ds each) ds),
      first_of v d.to d.answer,
      count_if (λ x. eqb x v) d.answer d.to.target (answered_true target_of ds),
      firsts_are_hits v ds (All-tail Given d ds each),
    )

pub counts_held : (v : ℕ) (xs : List ℕ) → Contains xs v → 0 < count_by (λ x. eqb x v) xs
counts_held v [] (k, lt, at) = absurd (omega arith)
counts_held v (x ∷ xs) held =
    ⊎_elim
    (λ (here : x ≡ v). let one : cond {A = ℕ} (eqb x v) 1 0 ≡ 1 = cond-true _ _ _ (eq-eqb x v here) in omega (arith, sum_by-cons (λ y. cond {A = ℕ} (eqb y v) 1 0) x xs))
    (λ (later : Contains xs v). omega (arith, sum_by-cons (λ y. cond {A = ℕ} (eqb y v) 1 0) x xs, counts_held v xs later))
    (Contains-cons_cases x xs v held)

pub held_counts : (v : ℕ) (xs : List ℕ) → 0 < count_by (λ x. eqb x v) xs → Contains xs v
held_counts v xs some =
    ⊎_elim
    (λ (none : count_by (λ x. eqb x v) xs ≡ 0). absurd (omega arith))
    (λ (found : (k : ℕ) × (k < length xs) × (get_or xs k 0 ≡ v)). let (k, lt, at) = found in (k, lt, get_or_default xs k v 0 lt ∙ at))
    (counted_cases v xs)

-- ---- what chunks noted

-- logs of one part, one behind another and from nothing on, are of one part
from_none : (added : List Log) → All HasOnePart added → HasOnePart (followed_by_all [] added) × (first_part (followed_by_all [] added) ≡ entries_of added)
from_none [] each = (omega arith, refl)
from_none ([] ∷ xs) each = from_none xs (All-tail HasOnePart [] xs each)
from_none ((es ∷ []) ∷ xs) each =
    let is : followed_by_all (es ∷ []) xs ≡ (es ++ entries_of xs) ∷ [] = one_part es xs (All-tail HasOnePart (es ∷ []) xs each) in
    (omega (arith, ap length is), ap first_part is)
from_none ((es ∷ (fs ∷ parts)) ∷ xs) each = absurd (omega (arith, All-head HasOnePart (es ∷ (fs ∷ parts)) xs each))

abbrev Ran : Type 0
Ran = Run (Vec ℕ Global)

-- how often v stands in the result of a chunk
abbrev count_at : ℕ → Option (Vec ℕ Global) → ℕ
count_at v None = 0
count_at v (Some o) = count_by (λ x. eqb x v) o.items

module _ (v : ℕ) (wanted : ℕ → List Step) (outs : List (Vec ℕ Global)) where
  abbrev Did : Ran → Type 0
  Did = IsRun (NotesChunk AddsOne target_of wanted) outs

  runs_count : (runs : List Ran) → All Did runs →
      All HasOnePart (map (λ (r : Ran). r.added) runs) × (weigh (is_first v) (entries_of (map (λ (r : Ran). r.added) runs)) ≡ sum_by (λ c. count_at v (slice_get outs c)) (map (λ (r : Ran). r.chunk) runs))
  runs_count [] each = (All-nil HasOnePart, refl)
  runs_count (r ∷ runs) each =
      let one : Did r = All-head Did r runs each in
      let rest = runs_count runs (All-tail Did r runs each) in
      let (done, a, is) = one.gives_out in
      let part = from_none (map (λ (d : Done Step). d.added) done) (one_part_each done a.by.each) in
      let log : r.added ≡ followed_by_all [] (map (λ (d : Done Step). d.added) done) = a.by.log_is in
      let first : first_part r.added ≡ entries done = ap first_part log ∙ part.1 in
      let here : weigh (is_first v) (first_part r.added) ≡ count_at v (slice_get outs r.chunk) =
      ap (weigh (is_first v)) first ∙ firsts_are_hits v done a.by.each ∙ ap (count_by (λ x. eqb x v)) (sym is) ∙ sym (ap (count_at v) one.stored) in (
        All-cons HasOnePart r.added (map (λ (r : Ran). r.added) runs) (subst HasOnePart (sym log) part.0) rest.0,
        omega (
          arith,
          weigh-append (is_first v) (first_part r.added) (entries_of (map (λ (r : Ran). r.added) runs)),
          here,
          rest.1,
          sum_by-cons (λ c. count_at v (slice_get outs c)) r.chunk (map (λ (r : Ran). r.chunk) runs),
        ),
      )

outs_sum : (v : ℕ) (outs : List (Vec ℕ Global)) → sum_by (λ c. count_at v (slice_get outs c)) (below (length outs)) ≡ sum_by (λ (o : Vec ℕ Global). count_by (λ x. eqb x v) o.items) outs
outs_sum v [] = refl
outs_sum v (o ∷ os) =
    let f : ℕ → ℕ = λ c. count_at v (slice_get (o ∷ os) c) in
    omega (
      arith,
      sum_by-cons f 0 (range_with_len 1 (length os)),
      sum_by-shifted f 1 0 (length os),
      sum_by-same (λ c. f (1 + c)) (λ c. count_at v (slice_get os c)) (below (length os)) (λ c. let e : 1 + c ≡ suc c = omega arith in ap f e),
      outs_sum v os,
      sum_by-cons (λ (o : Vec ℕ Global). count_by (λ x. eqb x v) o.items) o os,
    )

-- the results of all chunks have a vertex as often as the entries that were gained mark it
outs_count : (v : ℕ) (wanted : ℕ → List Step) (chunks : ℕ) (old new gained : List Entry) (outs : List (Vec ℕ Global)) (order : List ℕ) →
    EachRunOnce (NotesChunk AddsOne target_of wanted) chunks (old ∷ []) (new ∷ []) outs order → new ≡ old ++ gained →
    count_by (λ x. eqb x v) (flat_map (λ (o : Vec ℕ Global). o.items) outs) ≡ weigh (is_first v) gained
outs_count v wanted chunks old new gained outs order ran grew =
    let runs = runs_count v wanted outs ran.runs ran.each in
    let added = entries_of (map (λ (r : Ran). r.added) ran.runs) in
    let log : new ∷ [] ≡ (old ++ added) ∷ [] = ran.log_is ∙ one_part old (map (λ (r : Ran). r.added) ran.runs) runs.0 in
    let log_is : new ≡ old ++ added = cc in
    let at : ℕ → ℕ = λ c. count_at v (slice_get outs c) in
    let all : sum_by at (map (λ (r : Ran). r.chunk) ran.runs) ≡ sum_by at (below (length outs)) =
    ap (sum_by at) ran.order_is ∙ each_once_sum at chunks order ran.once ∙ ap (λ n. sum_by at (below n)) (sym ran.count) in
    omega (
      arith,
      sum_by-flat_map (λ x. cond {A = ℕ} (eqb x v) 1 0) (λ (o : Vec ℕ Global). o.items) outs,
      outs_sum v outs,
      all,
      runs.1,
      ap (weigh (is_first v)) log_is,
      weigh-append (is_first v) old added,
      ap (weigh (is_first v)) grew,
      weigh-append (is_first v) old gained,
    )

-- ---- adds by weights

both_tests : (a b : Bool) → counted (a && b) ≡ cond a (cond {A = ℕ} b 1 0) 0
both_tests true b = refl
both_tests false b = refl

-- the adds to v, where a log has one for each place from some vertices
pub adds_reach : (g : RawGraph) → IsLawful g → (ids : List ℕ) (log : List Entry) → HasAddsFrom g ids log → (v : ℕ) → adds v log ≡ reaching g ids v
adds_reach g lawful ids log has v =
    weigh_is_sum (is_add v) log
    ∙ sum_by-same (is_add v) (add_weight (λ t p. cond (eqb t v) 1 0)) log (λ e. both_tests (eqb e.kind ADD) (eqb e.vertex v))
    ∙ has (λ t p. cond (eqb t v) 1 0)
    ∙ sym (reaching_by_places g lawful ids v)

first_is_add : (v : ℕ) (e : Entry) → is_first v e ≤ is_add v e
first_is_add v e = less (eqb e.kind ADD && eqb e.vertex v) (eqb e.mark 1) where
  less : (a b : Bool) → counted (a && b) ≤ counted a
  less true true = omega arith
  less true false = omega arith
  less false b = omega arith

firsts-le-adds : (v : ℕ) (log : List Entry) → weigh (is_first v) log ≤ weigh (is_add v) log
firsts-le-adds v [] = omega arith
firsts-le-adds v (e ∷ es) = omega (arith, first_is_add v e, firsts-le-adds v es)

-- ---- the places of rows

all_kept : (xs : List Step) → filter (λ (s : Step). all_wanted s.target) xs ≡ xs
all_kept [] = refl
all_kept (x ∷ xs) = ap (λ l. x ∷ l) (all_kept xs)

row_steps : (g : RawGraph) (h : Step → ℕ) (u : ℕ) → sum_by h (push_steps g all_wanted u) ≡ sum_by (λ p. h (step u p (target g p))) (places_of g u)
row_steps g h u =
    ap (sum_by h) (all_kept (map (λ p. step u p (target g p)) (places_of g u)))
    ∙ sum_by-map h (λ p. step u p (target g p)) (places_of g u)

drop_none : (xs : List ℕ) → drop 0 xs ≡ xs
drop_none [] = refl
drop_none (x ∷ xs) = refl

module _ (g : RawGraph) (lawful : IsLawful g) (members : List ℕ) (within : All (λ u. u < vertices g) members) (size : ℕ) where
  abbrev Wanted : ℕ → List Step
  Wanted c = steps_of g (chunk_of members size c)

  -- the places of all chunks weigh what those of all members weigh
  chunks_sum : (weight : ℕ → ℕ → ℕ) (chunks : ℕ) → length members ≤ chunks * size →
      sum_by (λ c. sum_by (λ (s : Step). weight s.target s.place) (Wanted c)) (below chunks) ≡ weight_from g (λ p. weight (target g p) p) members
  chunks_sum weight chunks enough =
      let h : Step → ℕ = λ s. weight s.target s.place in
      let row : ℕ → ℕ = λ u. sum_by (λ p. weight (target g p) p) (places_of g u) in
      let none : 0 * size ≡ 0 = omega arith in
      let zero_plus : 0 + chunks ≡ chunks = omega arith in
      let enough' : length members ≤ (0 + chunks) * size = subst (λ n. length members ≤ n * size) (sym zero_plus) enough in
      sum_by-same (λ c. sum_by h (Wanted c)) (λ c. sum_by row (chunk_of members size c)) (below chunks) (λ c.
      sum_by-flat_map h (push_steps g all_wanted) (chunk_of members size c)
      ∙ sum_by-same (λ u. sum_by h (push_steps g all_wanted u)) row (chunk_of members size c) (λ u. row_steps g h u))
      ∙ chunks_weigh row members size 0 chunks enough' ∙ ap (λ n. sum_by row (drop n members)) none ∙ ap (sum_by row) (drop_none members)

  -- the places of some vertices weigh what their rows weigh
  steps_sum : (weight : ℕ → ℕ → ℕ) (ids : List ℕ) → sum_by (λ (s : Step). weight s.target s.place) (steps_of g ids) ≡ weight_from g (λ p. weight (target g p) p) ids
  steps_sum weight ids =
      let h : Step → ℕ = λ s. weight s.target s.place in
      sum_by-flat_map h (push_steps g all_wanted) ids
      ∙ sum_by-same (λ u. sum_by h (push_steps g all_wanted u)) (λ u. sum_by (λ p. weight (target g p) p) (places_of g u)) ids (λ u. row_steps g h u)

  -- applications that together were one add for each place
  module _ (old new : Seat) (home : new.home ≡ old.home) (root : new.root ≡ old.root) (out : new.out ≡ old.out) (done : List (Done Step)) (each : All Given done)
      (is : new.log ∷ [] ≡ followed_by_all (old.log ∷ []) (map (λ (d : Done Step). d.added) done))
      (weights : (weight : ℕ → ℕ → ℕ) → sum_by (λ (s : Step). weight s.target s.place) (map (λ (d : Done Step). d.to) done) ≡ weight_from g (λ p. weight (target g p) p) members) where
    pub log_grew : new.log ≡ old.log ++ entries done
    log_grew =
        let log : new.log ∷ [] ≡ (old.log ++ entries done) ∷ [] = is ∙ one_part old.log (map (λ (d : Done Step). d.added) done) (one_part_each done each) in
        cc

    -- what is noted as often as entries are marked
    pub added_by : (noted : List ℕ) → ((v : ℕ) → count_by (λ x. eqb x v) noted ≡ weigh (is_first v) (entries done)) → AddedAll g members old new noted
    added_by noted noted_are =
        let gained = entries done in
        let has : HasAddsFrom g members gained = λ weight. weigh_entries (add_weight weight) (λ s. weight s.target s.place) (λ s b. refl) done each ∙ weights weight in
        record {
          gained = gained;
          seat_is = λ i. record { home = home i; root = root i; out = out i; log = log_grew i };
          adds = has;
          only = all_are_adds done each;
          within = λ k d lt.
              let v = get_or noted k d in
              reached_is_vertex g lawful members within v
              (omega (arith, counts_held v noted (Contains-get_or noted k d lt), noted_are v, firsts-le-adds v gained, adds_reach g lawful members gained has v));
          noted_are = noted_are;
        }

  -- all members were walked at once
  pub added_alone : {T : Type 0} (log : T → Log) (first last : T) (old new : Seat) (before after : List ℕ) → HasPushed (VisitAdds log) (steps_of g members) first last before after → before ≡ [] →
      log first ≡ old.log ∷ [] → log last ≡ new.log ∷ [] → new.home ≡ old.home → new.root ≡ old.root → new.out ≡ old.out → AddedAll g members old new after
  added_alone log first last old new before after h none first_is last_is home root out =
      let a : AddedVisits log h.visited first last = added_visits log h.visited first last h.has_visited.in_order in
      let to_is = a.applied.to_is ∙ h.has_visited.steps_are in
      let noted : after ≡ answered_true target_of a.done = h.noted_are ∙ ap (λ l. l ++ noted_of h.visited) none ∙ a.noted_are in
      added_by old new home root out a.done a.applied.by.each
      (sym last_is ∙ a.applied.by.log_is ∙ ap (λ l. followed_by_all l (map (λ (d : Done Step). d.added) a.done)) first_is)
      (λ weight. ap (sum_by (λ (s : Step). weight s.target s.place)) to_is ∙ steps_sum weight members)
      after
      (λ v. ap (count_by (λ x. eqb x v)) noted ∙ sym (firsts_are_hits v a.done a.applied.by.each))

  -- chunks of members were walked
  pub added_all : (chunks : ℕ) (old new : Seat) (outs : List (Vec ℕ Global)) (order noted : List ℕ) →
      EachRunOnce (NotesChunk AddsOne target_of Wanted) chunks (old.log ∷ []) (new.log ∷ []) outs order → length members ≤ chunks * size →
      new.home ≡ old.home → new.root ≡ old.root → new.out ≡ old.out → noted ≡ flat_map (λ (o : Vec ℕ Global). o.items) outs →
      AddedAll g members old new noted
  added_all chunks old new outs order noted ran enough home root out noted_is =
      let all = all_gathered AddsOne target_of Wanted (NotesChunk AddsOne target_of Wanted) (notes_hits AddsOne target_of Wanted) chunks _ _ outs order ran in
      let weights = λ (weight : ℕ → ℕ → ℕ). all.once (λ s. weight s.target s.place) ∙ chunks_sum weight chunks enough in
      added_by old new home root out all.done all.by.each all.by.log_is weights noted
      (λ v.
      ap (count_by (λ x. eqb x v)) noted_is
      ∙ outs_count v Wanted chunks old.log new.log (entries all.done) outs order ran (log_grew old new home root out all.done all.by.each all.by.log_is weights))
