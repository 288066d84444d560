-- A head is put into an empty block, a rest behind it, and what the block still holds is written at the end.
use Rattle.std.proofs.Common.{◌≡◌, ℕ, ◌≤◌, List, [], ◌++◌, subst, arith}
use Rattle.jul_base.specs.Sinks.{SinkState, Appended, FailedWriting, IsSent}
use Rattle.jul_base.proofs.SinkLaws.{IsSent-then, IsSent-end, FailedWriting-then, FailedWriting-longer}
use Rattle.jul_base.proofs.SendingLaws.{failed_at_end}

-- a failure in the head
pub failed_head : (s0 s1 : SinkState) (empty head rest : List ℕ) → empty ≡ [] → FailedWriting s0 s1 (empty ++ head) → FailedWriting s0 s1 (head ++ rest)
failed_head s0 s1 empty head rest is failed = FailedWriting-longer s0 s1 head rest (subst (λ (old : List ℕ). FailedWriting s0 s1 (old ++ head)) is failed)

module _ (s0 s1 s2 : SinkState) (empty block head rest : List ℕ) (is : empty ≡ []) (rose : s0.faults ≤ s1.faults) (sent : IsSent s0 s1 block (empty ++ head)) where
  head_sent : IsSent s0 s1 block head
  head_sent = subst (λ (old : List ℕ). IsSent s0 s1 block (old ++ head)) is sent

  -- a failure in the rest
  pub failed_rest : FailedWriting s1 s2 (block ++ rest) → FailedWriting s0 s2 (head ++ rest)
  failed_rest failed = FailedWriting-then s0 s1 s2 block head rest rose head_sent failed

  -- all is written
  pub written_all : (s3 : SinkState) (block' : List ℕ) → IsSent s1 s2 block' (block ++ rest) → Appended s2 s3 block' → Appended s0 s3 (head ++ rest)
  written_all s3 block' whole last = IsSent-end s0 s2 s3 block' (head ++ rest) (IsSent-then s0 s1 s2 block block' head rest head_sent whole) last

  -- a failure in writing what the block still holds
  pub failed_last : (s3 : SinkState) (block' : List ℕ) → s1.faults ≤ s2.faults → IsSent s1 s2 block' (block ++ rest) → FailedWriting s2 s3 block' →
      FailedWriting s0 s3 (head ++ rest)
  failed_last s3 block' more whole failed =
      failed_at_end s0 s2 s3 block' (head ++ rest) (omega arith) (IsSent-then s0 s1 s2 block block' head rest head_sent whole) failed
