-- How what the workers did is put together.
use Rattle.std.proofs.Common.{zero, suc, ◌≡◌, ℕ, ◌<◌, ◌≤◌, List, [], ◌∷◌, ◌++◌, length, map, refl, ap, sym, ◌∙◌, subst, arith, All, Some, slice_get}
use Rattle.std.proofs.lemmas.List.{map-append, append-nil}
use Rattle.std.proofs.lemmas.List.Elements.{All-append}
use Rattle.jul_base.specs.Logs.{Log, Home, followed_by, empty_log}
use Rattle.jul_base.proofs.LogLaws.{followed_by-assoc}
use Rattle.jul_pool.specs.Added.{followed_by_all}
use Rattle.jul_base.specs.Times.{times, EachOnceBelow}
use Rattle.jul_pool.specs.Runs.{Run, IsRun, EachRunOnce, Did}
use Rattle.jul_base.proofs.TimesLaws.{times-append, times_other}
use Rattle.jul_pool.proofs.RunLaws.{followed_by_all-append}

-- what was put behind one log can be put behind another that the first one follows
pub followed_by-all : (log start : Log) (xs : List Log) → followed_by log (followed_by_all start xs) ≡ followed_by_all (followed_by log start) xs
followed_by-all log start [] = refl
followed_by-all log start (x ∷ xs) = followed_by-all log (followed_by start x) xs ∙ ap (λ l. followed_by_all l xs) (sym (followed_by-assoc log start x))

followed_by-empty : (log : Log) (hs : List Home) → length log ≡ length hs → followed_by log (empty_log hs) ≡ log
followed_by-empty [] [] e = refl
followed_by-empty [] (h ∷ hs) e = absurd (omega arith)
followed_by-empty (x ∷ xs) [] e = absurd (omega arith)
followed_by-empty (x ∷ xs) (h ∷ hs) e = let r : followed_by xs (empty_log hs) ≡ xs = followed_by-empty xs hs (omega arith) in let n : x ++ [] ≡ x = append-nil x in cc

abbrev pub firsts : {Out : Type 0} → List (ℕ × Out) → List ℕ
firsts ps = map (λ p. p.0) ps

-- the root's chunks are those that were done, and so it is with one worker's more
pub chunks_more : {Out : Type 0} (old more new : List ℕ) (done theirs : List (ℕ × Out)) → new ≡ old ++ more → old ≡ firsts done → more ≡ firsts theirs → new ≡ firsts (done ++ theirs)
chunks_more old more new done theirs e was is = e ∙ (ap (λ l. l ++ more) was ∙ (ap (λ l. firsts done ++ l) is ∙ sym (map-append (λ p. p.0) done theirs)))

module _ {Out : Type 0} (gives : ℕ → Out → Log → Type 0) where
  abbrev Small : ℕ → Run Out → Type 0
  Small chunks r = (r.chunk < chunks) × gives r.chunk r.out r.added

  -- the runs of the root, and behind them those of one worker, whose log began with no entry
  pub did_append : (chunks : ℕ) (start mid new part : Log) (hs : List Home) (done theirs : List (ℕ × Out)) → Did gives chunks start mid done → Did gives chunks (empty_log hs) part theirs → new ≡ followed_by mid part → length mid ≡ length hs → Did gives chunks start new (done ++ theirs)
  did_append chunks start mid new part hs done theirs d e log len =
      let added = λ (r : Run Out). r.added in
      let one : followed_by mid part ≡ followed_by_all mid (map added e.runs) = ap (followed_by mid) e.log_is ∙ followed_by-all mid (empty_log hs) (map added e.runs) ∙ ap (λ l. followed_by_all l (map added e.runs)) (followed_by-empty mid hs len) in
      let two : followed_by_all mid (map added e.runs) ≡ followed_by_all start (map added d.runs ++ map added e.runs) = ap (λ l. followed_by_all l (map added e.runs)) d.log_is ∙ sym (followed_by_all-append start (map added d.runs) (map added e.runs)) in record {
        runs = d.runs ++ e.runs;
        each = All-append (Small chunks) d.runs e.runs d.each e.each;
        done_is = map-append (λ (r : Run Out). (r.chunk, r.out)) d.runs e.runs ∙ (ap (λ l. l ++ map (λ (r : Run Out). (r.chunk, r.out)) e.runs) d.done_is ∙ ap (λ l. done ++ l) e.done_is);
        log_is = log ∙ one ∙ two ∙ ap (followed_by_all start) (sym (map-append added d.runs e.runs));
      }

  small_times : (chunks x : ℕ) (runs : List (Run Out)) → All (Small chunks) runs → chunks ≤ x → times x (firsts (map (λ (r : Run Out). (r.chunk, r.out)) runs)) ≡ 0
  small_times chunks x [] a h = refl
  small_times chunks x (r ∷ runs) a h =
      let small : r.chunk < chunks = (a 0 r (omega arith)).0 in
      omega (arith, times-append x (r.chunk ∷ []) (firsts (map (λ (r : Run Out). (r.chunk, r.out)) runs)), times_other x r.chunk (omega arith), small_times chunks x runs (λ k d l. a (suc k) d (omega arith)) h)

  -- each chunk was done, and none twice
  pub each_once_done : (chunks : ℕ) (taken : List ℕ) (start new : Log) (done : List (ℕ × Out)) → taken ≡ firsts done → ((x : ℕ) → times x taken ≤ 1) → ((x : ℕ) → x < chunks → 0 < times x taken) → Did gives chunks start new done → EachOnceBelow chunks (firsts done)
  each_once_done chunks taken start new done same once all d = subst (EachOnceBelow chunks) same record {
    once = λ x h. omega (arith, once x, all x h);
    no_other = λ x h. ap (times x) same ∙ (ap (λ l. times x (firsts l)) (sym d.done_is) ∙ small_times chunks x d.runs d.each h);
  }

  stored_each : (chunks : ℕ) (outs : List Out) (runs : List (Run Out)) → All (Small chunks) runs → All (λ (p : ℕ × Out). slice_get outs p.0 ≡ Some p.1) (map (λ (r : Run Out). (r.chunk, r.out)) runs) → All (IsRun gives outs) runs
  stored_each chunks outs [] a b k d h = absurd (omega arith)
  stored_each chunks outs (r ∷ runs) a b zero d h = record { gives_out = (a 0 r (omega arith)).1; stored = b 0 (r.chunk, r.out) (omega arith) }
  stored_each chunks outs (r ∷ runs) a b (suc k) d h = stored_each chunks outs runs (λ j e i. a (suc j) e (omega arith)) (λ j e i. b (suc j) e (omega arith)) k d (omega arith)

  -- where each chunk was done once, and its result stands at its chunk, each chunk was run once
  pub ran_from_did : (chunks : ℕ) (start new : Log) (done : List (ℕ × Out)) (outs : List Out) (order : List ℕ) → Did gives chunks start new done → All (λ (p : ℕ × Out). slice_get outs p.0 ≡ Some p.1) done → order ≡ firsts done → length outs ≡ chunks → EachOnceBelow chunks (firsts done)
      → EachRunOnce gives chunks start new outs order
  ran_from_did chunks start new done outs order d stored o count once = record {
    runs = d.runs;
    each = stored_each chunks outs d.runs d.each (subst (All (λ (p : ℕ × Out). slice_get outs p.0 ≡ Some p.1)) (sym d.done_is) stored);
    order_is = firsts_of d.runs ∙ ap (map (λ p. p.0)) d.done_is ∙ sym o;
    once = subst (EachOnceBelow chunks) (sym o) once;
    count = count;
    log_is = d.log_is;
  }
    where
      firsts_of : (rs : List (Run Out)) → map (λ (r : Run Out). r.chunk) rs ≡ firsts (map (λ (r : Run Out). (r.chunk, r.out)) rs)
      firsts_of [] = refl
      firsts_of (r ∷ rs) = ap (λ l. r.chunk ∷ l) (firsts_of rs)
