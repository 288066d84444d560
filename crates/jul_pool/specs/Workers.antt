-- What a worker is lent, what it does, and what it gives back.
use Rattle.std.specs.Prelude.{ℕ, ◌+◌, ◌<◌, List, [], ◌++◌, ◌≡◌, Bool, false, map}
use Rattle.jul_base.specs.Logs.{Log, Home, empty_log}
use Rattle.crossbeam_deque.specs.Handles.{worker_view}
use Rattle.jul_pool.specs.Claims.{part_view}
use Rattle.jul_pool.specs.Deques.{MayPush}
use Rattle.jul_pool.specs.Runs.{Did}
use Rattle.jul_pool.specs.declared.rounds.Lent.{Lent}
use Rattle.jul_pool.specs.declared.rounds.Round.{Round}
use Rattle.jul_pool.specs.declared.rounds.Worked.{Worked}

-- a live seat of the table of this round, and a token with which the job may run each chunk
pub record CanWork {T J G Out : Type 0} (home : T → List Home) (can_run : J → ℕ → List Home → Type 0) (round : Round J G T Out) (w : Worked T Out) : Type 0 where
  pub table_is : w.seat.table_id ≡ round.board.now.table.shared.table_id
  pub live : 0 < w.seat.me.0.root + w.seat.me.0.part
  pub condition : (chunk : ℕ) → chunk < round.board.now.chunks → can_run round.job.now chunk (home w.token)

module _ {T : Type 0} (log : T → Log) (home : T → List Home) (is_root : T → Bool) where
  -- chunks were taken and run, and stand in the seat's list, among the results and in the log in one order
  pub record HasWorked {Out : Type 0} (out : T → ℕ) (gives : ℕ → Out → Log → Type 0) (chunks : ℕ) (old new : Worked T Out) : Type 0 where
    pub table_is : new.seat.table_id ≡ old.seat.table_id
    pub seat_root : new.seat.me.0.root ≡ old.seat.me.0.root
    pub seat_part : new.seat.me.0.part ≡ old.seat.me.0.part
    pub seats_out : new.seat.me.0.out ≡ old.seat.me.0.out
    pub no_slots : new.seat.me.1 ≡ old.seat.me.1
    pub home_is : home new.token ≡ home old.token
    pub root_is : is_root new.token ≡ is_root old.token
    pub out_is : out new.token ≡ out old.token
    pub more : List (ℕ × Out)
    pub done_is : new.done.items ≡ old.done.items ++ more
    pub chunks_are : new.seat.me.0.chunks ≡ old.seat.me.0.chunks ++ map (λ p. p.0) more
    pub did : Did gives chunks (log old.token) (log new.token) more

  -- `at` is the home of the root that the tokens were split off
  module _ {J G Out : Type 0} (round : Round J G T Out) (at : List Home) where
    -- a seat and a token that were split off and did nothing yet, and a deque for the chunks of a range
    pub record IsLent (l : Lent T) : Type 0 where
      pub table_is : l.seat.table_id ≡ round.board.now.table.shared.table_id
      pub seat_is : l.seat.me ≡ (part_view, [])
      pub log_is : log l.token ≡ empty_log (home l.token)
      pub home_is : home l.token ≡ at
      pub part : is_root l.token ≡ false
      pub rest : MayPush l.hand.next (worker_view l.hand.deque)

    -- the seat and the token of a worker that ran all that it took
    pub record IsWorked (gives : J → ℕ → Out → Log → Type 0) (w : Worked T Out) : Type 0 where
      pub table_is : w.seat.table_id ≡ round.board.now.table.shared.table_id
      pub seat_part : (w.seat.me.0.root ≡ 0) × (w.seat.me.0.part ≡ 1) × (w.seat.me.1 ≡ [])
      pub home_is : home w.token ≡ at
      pub part : is_root w.token ≡ false
      pub did : Did (gives round.job.now) round.board.now.chunks (empty_log at) (log w.token) w.done.items
      pub chunks_are : w.seat.me.0.chunks ≡ map (λ p. p.0) w.done.items
