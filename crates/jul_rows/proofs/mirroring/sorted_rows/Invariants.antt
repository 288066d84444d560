use Rattle.jul_rows.specs.Mirrors.{IsRearranged}
use Rattle.jul_rows.proofs.mirroring.sorted_rows.Given as goal

abbrev pub invariant-loop-v : goal.invariant-loop-v
invariant-loop-v l = IsRearranged l.rows l.from l.v l.sorted.items
