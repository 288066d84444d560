use Rattle.jul_rows.specs.Gathering.{HasGathered}
use Rattle.jul_rows.proofs.distinct.gather_all.Given as goal

abbrev pub invariant-loop-s : goal.invariant-loop-s
invariant-loop-s l = HasGathered l.rows l.s l.gathering
