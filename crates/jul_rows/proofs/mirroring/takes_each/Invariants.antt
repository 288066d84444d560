use Rattle.jul_rows.specs.Mirrors.{HaveTaken}
use Rattle.jul_rows.proofs.mirroring.takes_each.Given as goal

abbrev pub invariant-loop-u : goal.invariant-loop-u
invariant-loop-u l = HaveTaken l.rows l.from l.to l.mirror l.u l.next.items
