use Rattle.jul_core.specs.Peels.{AreCoredBy, draws_before}
use Rattle.jul_core.proofs.columns.write_draws.Given as goal

abbrev pub invariant-loop-number : goal.invariant-loop-number
invariant-loop-number l = AreCoredBy l.rows (draws_before l.rows l.number) (record { core = l.core; level = l.level })
