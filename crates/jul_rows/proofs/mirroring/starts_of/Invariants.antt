use Rattle.jul_rows.specs.Mirrors.{AreStarts}
use Rattle.jul_rows.proofs.mirroring.starts_of.Given as goal

abbrev pub invariant-loop-v : goal.invariant-loop-v
invariant-loop-v l = AreStarts l.rows l.from l.v l.starts.items
