-- What was worked, a step at a time.
use Rattle.std.proofs.Common.{◌≡◌, ◌≢◌, ℕ, ◌<◌, Bool, true, false, List, [], ◌∷◌, ◌++◌, map, refl, ap, sym, ◌∙◌, subst, arith}
use Rattle.std.proofs.lemmas.List.{map-append, append-nil, append_assoc}
use Rattle.std.proofs.lemmas.List.Elements.{All-append}
use Rattle.jul_base.specs.Logs.{Log, Home, empty_log}
use Rattle.jul_pool.specs.declared.claim_rule.View.{View}
use Rattle.jul_pool.specs.declared.rounds.Round.{Round}
use Rattle.jul_pool.specs.declared.rounds.Lent.{Lent}
use Rattle.jul_pool.specs.declared.rounds.Worked.{Worked}
use Rattle.jul_pool.specs.Added.{HasAdded, followed_by_all}
use Rattle.jul_base.specs.Times.{times}
use Rattle.jul_pool.specs.Claims.{after_take, part_view}
use Rattle.jul_pool.specs.Runs.{Run, Did}
use Rattle.jul_pool.specs.Workers.{CanWork, HasWorked, IsLent, IsWorked}
use Rattle.jul_base.proofs.TimesLaws.{times-append, times_here, times_other}
use Rattle.jul_pool.proofs.RunLaws.{followed_by_all-append, did_none, did_more}

-- a swap on the word of one chunk leaves the others where they stand
pub times_else : (v : View) (chunk : ℕ) (own : Bool) (x : ℕ) → x ≢ chunk → times x (after_take v chunk own).chunks ≡ times x v.chunks
times_else v chunk true x ne = omega (arith, times-append x v.chunks (chunk ∷ []), times_other x chunk ne)
times_else v chunk false x ne = refl

-- and no chunk is lost
pub times_own : (v : View) (chunk : ℕ) → 0 < times chunk (after_take v chunk true).chunks
times_own v chunk = omega (arith, times-append chunk v.chunks (chunk ∷ []), times_here chunk chunk refl)

module _ {Out : Type 0} (gives : ℕ → Out → Log → Type 0) where
  -- some runs, and then some others
  pub did_then : (chunks : ℕ) (start mid new : Log) (done more : List (ℕ × Out)) → Did gives chunks start mid done → Did gives chunks mid new more → Did gives chunks start new (done ++ more)
  did_then chunks start mid new done more d e =
      let added = λ (r : Run Out). r.added in
      let pair : Run Out → ℕ × Out = λ r. (r.chunk, r.out) in record {
        runs = d.runs ++ e.runs;
        each = All-append (λ (r : Run Out). (r.chunk < chunks) × gives r.chunk r.out r.added) d.runs e.runs d.each e.each;
        done_is = map-append pair d.runs e.runs ∙ (ap (λ l. l ++ map pair e.runs) d.done_is ∙ ap (λ l. done ++ l) e.done_is);
        log_is = e.log_is ∙ (ap (λ l. followed_by_all l (map added e.runs)) d.log_is ∙ (sym (followed_by_all-append start (map added d.runs) (map added e.runs)) ∙ ap (followed_by_all start) (sym (map-append added d.runs e.runs))));
      }

module _ {T Out : Type 0} (log : T → Log) (home : T → List Home) (is_root : T → Bool) (out : T → ℕ) (gives : ℕ → Out → Log → Type 0) (chunks : ℕ) where
  pub worked_none : (w : Worked T Out) → HasWorked log home is_root out gives chunks w w
  worked_none w = record {
    table_is = refl;
    seat_root = refl;
    seat_part = refl;
    seats_out = refl;
    no_slots = refl;
    home_is = refl;
    root_is = refl;
    out_is = refl;
    more = [];
    done_is = sym (append-nil w.done.items);
    chunks_are = sym (append-nil w.seat.me.0.chunks);
    did = did_none gives chunks (log w.token);
  }

  pub worked_then : (a b c : Worked T Out) → HasWorked log home is_root out gives chunks a b → HasWorked log home is_root out gives chunks b c → HasWorked log home is_root out gives chunks a c
  worked_then a b c d e = record {
    table_is = e.table_is ∙ d.table_is;
    seat_root = e.seat_root ∙ d.seat_root;
    seat_part = e.seat_part ∙ d.seat_part;
    seats_out = e.seats_out ∙ d.seats_out;
    no_slots = e.no_slots ∙ d.no_slots;
    home_is = e.home_is ∙ d.home_is;
    root_is = e.root_is ∙ d.root_is;
    out_is = e.out_is ∙ d.out_is;
    more = d.more ++ e.more;
    done_is = e.done_is ∙ (ap (λ l. l ++ e.more) d.done_is ∙ append_assoc a.done.items d.more e.more);
    chunks_are = e.chunks_are ∙ (ap (λ l. l ++ map (λ p. p.0) e.more) d.chunks_are ∙ (append_assoc a.seat.me.0.chunks (map (λ p. p.0) d.more) (map (λ p. p.0) e.more) ∙ ap (λ l. a.seat.me.0.chunks ++ l) (sym (map-append (λ p. p.0) d.more e.more))));
    did = did_then gives chunks (log a.token) (log b.token) (log c.token) d.more e.more d.did e.did;
  }

  -- a chunk was taken and run
  pub worked_one : (a b : Worked T Out) (chunk : ℕ) (answer : Out) → b.seat.table_id ≡ a.seat.table_id → b.seat.me ≡ (after_take a.seat.me.0 chunk true, a.seat.me.1) → home b.token ≡ home a.token → is_root b.token ≡ is_root a.token → out b.token ≡ out a.token → b.done.items ≡ a.done.items ++ (chunk, answer) ∷ [] → chunk < chunks → HasAdded (gives chunk) (log a.token) (log b.token) answer
      → HasWorked log home is_root out gives chunks a b
  worked_one a b chunk answer table me h r o d small gave = record {
    table_is = table;
    seat_root = ap (λ m. m.0.root) me;
    seat_part = ap (λ m. m.0.part) me;
    seats_out = ap (λ m. m.0.out) me;
    no_slots = ap (λ m. m.1) me;
    home_is = h;
    root_is = r;
    out_is = o;
    more = (chunk, answer) ∷ [];
    done_is = d;
    chunks_are = ap (λ m. m.0.chunks) me;
    did = did_more gives chunks chunk (log a.token) (log a.token) (log b.token) gave.added [] answer (did_none gives chunks (log a.token)) small gave.gives_out gave.log_is;
  }

  -- a chunk was another seat's, so nothing was run
  pub worked_not : (a b : Worked T Out) (chunk : ℕ) → b.seat.table_id ≡ a.seat.table_id → b.seat.me ≡ (after_take a.seat.me.0 chunk false, a.seat.me.1) → b.token ≡ a.token → b.done ≡ a.done → HasWorked log home is_root out gives chunks a b
  worked_not a b chunk table me t d = record {
    table_is = table;
    seat_root = ap (λ m. m.0.root) me;
    seat_part = ap (λ m. m.0.part) me;
    seats_out = ap (λ m. m.0.out) me;
    no_slots = ap (λ m. m.1) me;
    home_is = ap home t;
    root_is = ap is_root t;
    out_is = ap out t;
    more = [];
    done_is = ap (λ v. v.items) d ∙ sym (append-nil a.done.items);
    chunks_are = ap (λ m. m.0.chunks) me ∙ sym (append-nil a.seat.me.0.chunks);
    did = subst (λ l. Did gives chunks (log a.token) l []) (ap log (sym t)) (did_none gives chunks (log a.token));
  }

-- a worker that began with nothing done gives back what it took, and nothing else
module _ {T J G Out : Type 0} (log : T → Log) (home : T → List Home) (is_root : T → Bool) (out : T → ℕ) (gives : J → ℕ → Out → Log → Type 0) (round : Round J G T Out) where
  pub worked_all : (l : Lent T) (a b : Worked T Out) → IsLent log home is_root {Out = Out} round (home l.token) l → a.seat ≡ l.seat → a.token ≡ l.token → a.done.items ≡ [] → HasWorked log home is_root out (gives round.job.now) round.board.now.chunks a b → IsWorked log home is_root round (home l.token) gives b
  worked_all l a b lent seat token none w =
      let me : a.seat.me ≡ (part_view, []) = ap (λ s. s.me) seat ∙ lent.seat_is in record {
        table_is = w.table_is ∙ (ap (λ s. s.table_id) seat ∙ lent.table_is);
        seat_part = (w.seat_root ∙ ap (λ m. m.0.root) me, w.seat_part ∙ ap (λ m. m.0.part) me, w.no_slots ∙ ap (λ m. m.1) me);
        home_is = w.home_is ∙ ap home token;
        part = w.root_is ∙ (ap is_root token ∙ lent.part);
        did = subst (λ d. Did (gives round.job.now) round.board.now.chunks (empty_log (home l.token)) (log b.token) d) (sym (w.done_is ∙ ap (λ d. d ++ w.more) none))
            (subst (λ s. Did (gives round.job.now) round.board.now.chunks s (log b.token) w.more) (ap log token ∙ lent.log_is) w.did);
        chunks_are = w.chunks_are ∙ (ap (λ m. m.0.chunks ++ map (λ p. p.0) w.more) me ∙ sym (ap (map (λ p. p.0)) (w.done_is ∙ ap (λ d. d ++ w.more) none)));
      }

  -- who was lent a seat and a token may work
  pub lent_can_work : (can_run : J → ℕ → List Home → Type 0) (l : Lent T) (a : Worked T Out) → IsLent log home is_root {Out = Out} round (home l.token) l → a.seat ≡ l.seat → a.token ≡ l.token → ((chunk : ℕ) → chunk < round.board.now.chunks → can_run round.job.now chunk (home l.token)) → CanWork home can_run round a
  lent_can_work can_run l a lent seat token condition =
      let part : a.seat.me.0.part ≡ 1 = ap (λ s. s.me.0.part) seat ∙ ap (λ m. m.0.part) lent.seat_is in record {
        table_is = ap (λ s. s.table_id) seat ∙ lent.table_is;
        live = omega arith;
        condition = λ chunk h. subst (λ t. can_run round.job.now chunk (home t)) (sym token) (condition chunk h);
      }

-- what was run before, and then what was worked
module _ {T Out : Type 0} (log : T → Log) (home : T → List Home) (is_root : T → Bool) (out : T → ℕ) (gives : ℕ → Out → Log → Type 0) (chunks : ℕ) where
  pub did_worked : (start : Log) (a b : Worked T Out) → HasWorked log home is_root out gives chunks a b → Did gives chunks start (log a.token) a.done.items → Did gives chunks start (log b.token) b.done.items
  did_worked start a b w d = subst (Did gives chunks start (log b.token)) (sym w.done_is) (did_then gives chunks start (log a.token) (log b.token) a.done.items w.more d w.did)

  pub listed_worked : (a b : Worked T Out) → HasWorked log home is_root out gives chunks a b → a.seat.me.0.chunks ≡ map (λ p. p.0) a.done.items → b.seat.me.0.chunks ≡ map (λ p. p.0) b.done.items
  listed_worked a b w same = w.chunks_are ∙ (ap (λ l. l ++ map (λ p. p.0) w.more) same ∙ (sym (map-append (λ p. p.0) a.done.items w.more) ∙ sym (ap (map (λ p. p.0)) w.done_is)))

-- who may work may go on working
pub can_still_work : {T J G Out : Type 0} (log : T → Log) (home : T → List Home) (is_root : T → Bool) (out : T → ℕ) (gives : ℕ → Out → Log → Type 0) (can_run : J → ℕ → List Home → Type 0) (round : Round J G T Out) (a b : Worked T Out) → CanWork home can_run round a → HasWorked log home is_root out gives round.board.now.chunks a b
    → CanWork home can_run round b
can_still_work log home is_root out gives can_run round a b can w = record {
  table_is = w.table_is ∙ can.table_is;
  live = omega (arith, w.seat_root, w.seat_part, can.live);
  condition = λ chunk h. subst (can_run round.job.now chunk) (sym w.home_is) (can.condition chunk h);
}
