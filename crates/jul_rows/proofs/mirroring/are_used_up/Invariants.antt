use Rattle.jul_rows.specs.Mirrors.{AreUsedUp}
use Rattle.jul_rows.proofs.mirroring.are_used_up.Given as goal

abbrev pub invariant-loop-k : goal.invariant-loop-k
invariant-loop-k l = AreUsedUp l.rows l.from l.mirror l.next l.k
