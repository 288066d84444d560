-- How applications that were made in order in each chunk are put together.
use Rattle.std.proofs.Common.{suc, ◌≡◌, ◌↔◌, ℕ, List, [], ◌∷◌, ◌++◌, map, refl, ap, sym, ◌∙◌, subst, arith, All, Bool, true, false, Vec, Global, if◌then◌else◌, ⊎_elim, ◌≤◌, length}
use Rattle.std.specs.Prelude.{sum_by, Contains}
use Rattle.std.specs.List.{flat_map}
use Rattle.std.proofs.lemmas.List.{map-append}
use Rattle.std.proofs.lemmas.List.Sums.{sum_by-append}
use Rattle.std.proofs.lemmas.List.Elements.{All-append, All-nil, All-cons, All-head, All-tail, All-push, Contains-append_left, Contains-append_right, Contains-append_cases}
use Rattle.jul_base.specs.Logs.{Log, followed_by}
use Rattle.jul_base.specs.Numbers.{below}
use Rattle.jul_base.proofs.LogLaws.{followed_by-nil}
use Rattle.jul_pool.specs.Added.{followed_by_all}
use Rattle.jul_pool.specs.Runs.{Run, EachRunOnce}
use Rattle.jul_pool.proofs.PartLaws.{added_parts}
use Rattle.jul_pool.proofs.RunLaws.{followed_by_all-append}
use Rattle.jul_pool.proofs.GatheringLaws.{followed_by-all}
use Rattle.jul_subset.specs.Applications.{Done, answered_true, AppliedBy, AppliedInOrder, NotesHits}
use Rattle.jul_subset.proofs.ChunkLaws.{each_once_sum, outs_hold}

-- one element before an appended list, where there is one
pub if_append : {X : Type 0} (b : Bool) (x : X) (xs ys zs : List X) → zs ≡ xs ++ ys → (if b then x ∷ zs else zs) ≡ (if b then x ∷ xs else xs) ++ ys
if_append true x xs ys zs e = ap (λ l. x ∷ l) e
if_append false x xs ys zs e = e

pub answered_true-append : {X : Type 0} (vertex : X → ℕ) (ds es : List (Done X)) → answered_true vertex (ds ++ es) ≡ answered_true vertex ds ++ answered_true vertex es
answered_true-append vertex [] es = refl
answered_true-append vertex (d ∷ ds) es =
    if_append d.answer (vertex d.to) (answered_true vertex ds) (answered_true vertex es) (answered_true vertex (ds ++ es)) (answered_true-append vertex ds es)

pub All-from_map : {X Y : Type 0} (P : Y → Type 0) (f : X → Y) (xs : List X) → All P (map f xs) → All (λ x. P (f x)) xs
All-from_map P f [] h = All-nil _
All-from_map P f (x ∷ xs) h = All-cons (λ x. P (f x)) x xs (All-head P (f x) (map f xs) h) (All-from_map P f xs (All-tail P (f x) (map f xs) h))

-- no application added more parts than a log has that keeps them
pub done_parts : {X : Type 0} (parts : ℕ) (old new : Log) → length old ≡ parts → length new ≡ parts → (done : List (Done X)) → new ≡ followed_by_all old (map (λ (d : Done X). d.added) done) → All (λ (d : Done X). length d.added ≤ length old) done
done_parts parts old new size size_new done is =
    All-from_map (λ (x : Log). length x ≤ length old) (λ (d : Done _). d.added) done
    (added_parts old (map (λ (d : Done _). d.added) done) (omega (arith, ap length is, size, size_new)))

module _ {X : Type 0} (gives : X → Bool → Log → Type 0) where
  abbrev Gave : Done X → Type 0
  Gave d = gives d.to d.answer d.added

  pub applied_none : (log : Log) → AppliedInOrder gives [] log log []
  applied_none log = record { by = record { each = All-nil Gave; log_is = refl }; to_is = refl }

  -- one application more
  pub applied_more : (to : List X) (old mid new : Log) (done : List (Done X)) (d : Done X) → AppliedInOrder gives to old mid done → gives d.to d.answer d.added → new ≡ followed_by mid d.added
      → AppliedInOrder gives (to ++ d.to ∷ []) old new (done ++ d ∷ [])
  applied_more to old mid new done d a given grew = record {
    by = record {
      each = All-push Gave done d a.by.each given;
      log_is = grew ∙ ap (λ l. followed_by l d.added) a.by.log_is
          ∙ sym (ap (followed_by_all old) (map-append (λ (d : Done X). d.added) done (d ∷ [])) ∙ followed_by_all-append old (map (λ (d : Done X). d.added) done) (d.added ∷ []));
    };
    to_is = map-append (λ (d : Done X). d.to) done (d ∷ []) ∙ ap (λ l. l ++ d.to ∷ []) a.to_is;
  }

  -- what a chunk added, from an empty log on
  pub applied_from_nil : (to : List X) (old new : Log) (done : List (Done X)) → AppliedInOrder gives to old new done
      → AppliedInOrder gives to [] (followed_by_all [] (map (λ (d : Done X). d.added) done)) done × (new ≡ followed_by old (followed_by_all [] (map (λ (d : Done X). d.added) done)))
  applied_from_nil to old new done a =
      let logs = map (λ (d : Done X). d.added) done in (
        record { by = record { each = a.by.each; log_is = refl }; to_is = a.to_is },
        a.by.log_is ∙ sym (followed_by-all old [] logs ∙ ap (λ l. followed_by_all l logs) (followed_by-nil old)),
      )

-- `wanted` are those to which a chunk applies the function
module _ {X : Type 0} (gives : X → Bool → Log → Type 0) (vertex : X → ℕ) (wanted : ℕ → List X) where
  -- what the run of a chunk gives: it notes the vertices of the applications that were answered true
  abbrev pub NotesChunk : ℕ → Vec ℕ Global → Log → Type 0
  NotesChunk chunk out added = (done : List (Done X)) × AppliedInOrder gives (wanted chunk) [] added done × (out.items ≡ answered_true vertex done)

  -- then it notes hits
  pub notes_hits : (chunk : ℕ) (out : Vec ℕ Global) (added : Log) → NotesChunk chunk out added → NotesHits gives vertex (wanted chunk) added out.items
  notes_hits chunk out added (done, a, is) = record {
    done = done;
    applied = a;
    noted_are = λ v. (subst (λ l. Contains l v) is, subst (λ l. Contains l v) (sym is));
  }

  abbrev ran_items : List (Run (Vec ℕ Global)) → List ℕ
  ran_items runs = flat_map (λ (r : Run (Vec ℕ Global)). r.out.items) runs

  -- what some runs did together
  pub record Gathered (runs : List (Run (Vec ℕ Global))) : Type 0 where
    pub done : List (Done X)
    pub each : All (λ (d : Done X). gives d.to d.answer d.added) done
    pub sums : (h : X → ℕ) → sum_by h (map (λ (d : Done X). d.to) done) ≡ sum_by (λ c. sum_by h (wanted c)) (map (λ (r : Run (Vec ℕ Global)). r.chunk) runs)
    pub noted : (v : ℕ) → Contains (ran_items runs) v ↔ Contains (answered_true vertex done) v
    pub logs : (log : Log) → followed_by_all log (map (λ (r : Run (Vec ℕ Global)). r.added) runs) ≡ followed_by_all log (map (λ (d : Done X). d.added) done)

  -- `Ran` is what the run of a chunk gives
  module _ (Ran : ℕ → Vec ℕ Global → Log → Type 0) (hits : (chunk : ℕ) (out : Vec ℕ Global) (added : Log) → Ran chunk out added → NotesHits gives vertex (wanted chunk) added out.items) where
    gathered : (runs : List (Run (Vec ℕ Global))) → All (λ (r : Run (Vec ℕ Global)). Ran r.chunk r.out r.added) runs → Gathered runs
    gathered [] a = record { done = []; each = All-nil _; sums = λ h. refl; noted = λ v. ((λ x. x), (λ x. x)); logs = λ log. refl }
    gathered (r ∷ runs) a =
        let one : NotesHits gives vertex (wanted r.chunk) r.added r.out.items = hits r.chunk r.out r.added (a 0 r (omega arith)) in
        let rest : Gathered runs = gathered runs (λ k d h. a (suc k) d (omega arith)) in
        let to = λ (d : Done X). d.to in
        let added = λ (d : Done X). d.added in
        let chunks = map (λ (r : Run (Vec ℕ Global)). r.chunk) runs in
        let split = answered_true-append vertex one.done rest.done in record {
          done = one.done ++ rest.done;
          each = All-append (λ (d : Done X). gives d.to d.answer d.added) one.done rest.done one.applied.by.each rest.each;
          sums = λ h. omega (arith, ap (sum_by h) (map-append to one.done rest.done), sum_by-append h (map to one.done) (map to rest.done), rest.sums h, ap (sum_by h) one.applied.to_is, sum_by-append (λ c. sum_by h (wanted c)) (r.chunk ∷ []) chunks);
          noted = λ v. (
            (λ h.
                subst (λ l. Contains l v) (sym split)
                (⊎_elim
                (λ (here : Contains r.out.items v). Contains-append_left (answered_true vertex one.done) (answered_true vertex rest.done) v ((one.noted_are v).0 here))
                (λ (later : Contains (ran_items runs) v). Contains-append_right (answered_true vertex one.done) (answered_true vertex rest.done) v ((rest.noted v).0 later))
                (Contains-append_cases r.out.items (ran_items runs) v h))),
            (λ h.
                ⊎_elim
                (λ (here : Contains (answered_true vertex one.done) v). Contains-append_left r.out.items (ran_items runs) v ((one.noted_are v).1 here))
                (λ (later : Contains (answered_true vertex rest.done) v). Contains-append_right r.out.items (ran_items runs) v ((rest.noted v).1 later))
                (Contains-append_cases (answered_true vertex one.done) (answered_true vertex rest.done) v (subst (λ l. Contains l v) split h))),
          );
          logs = λ log.
              let step : followed_by log r.added ≡ followed_by_all log (map added one.done) = ap (followed_by log) one.applied.by.log_is ∙ followed_by-all log [] (map added one.done) ∙ ap (λ l. followed_by_all l (map added one.done)) (followed_by-nil log) in
              rest.logs (followed_by log r.added) ∙ ap (λ l. followed_by_all l (map added rest.done)) step ∙ sym (ap (followed_by_all log) (map-append added one.done rest.done) ∙ followed_by_all-append log (map added one.done) (map added rest.done));
        }

    -- what all chunks did together: each of those that they want once, and the outs have the vertices that were answered true
    pub record AllGathered (chunks : ℕ) (old new : Log) (outs : List (Vec ℕ Global)) : Type 0 where
      pub done : List (Done X)
      pub by : AppliedBy gives old new done
      pub once : (h : X → ℕ) → sum_by h (map (λ (d : Done X). d.to) done) ≡ sum_by (λ c. sum_by h (wanted c)) (below chunks)
      pub noted : (v : ℕ) → Contains (flat_map (λ (o : Vec ℕ Global). o.items) outs) v ↔ Contains (answered_true vertex done) v

    pub all_gathered : (chunks : ℕ) (old new : Log) (outs : List (Vec ℕ Global)) (order : List ℕ) → EachRunOnce Ran chunks old new outs order → AllGathered chunks old new outs
    all_gathered chunks old new outs order ran =
        let g : Gathered ran.runs = gathered ran.runs (λ k d lt. (ran.each k d lt).gives_out) in record {
          done = g.done;
          by = record { each = g.each; log_is = ran.log_is ∙ g.logs old };
          once = λ h. g.sums h ∙ ap (sum_by (λ c. sum_by h (wanted c))) ran.order_is ∙ each_once_sum (λ c. sum_by h (wanted c)) chunks order ran.once;
          noted = λ v.
              let held = outs_hold (λ (o : Vec ℕ Global). o.items) Ran chunks old new outs order ran v in
              ((λ h. (g.noted v).0 (held.0 h)), (λ h. held.1 ((g.noted v).1 h)));
        }
