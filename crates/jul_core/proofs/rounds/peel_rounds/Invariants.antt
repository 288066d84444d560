use Rattle.std.proofs.Common.{◌-◌, length}
use Rattle.jul_base.specs.Graph.{vertices}
use Rattle.jul_core.specs.PeelWork.{IsPeeling}
use Rattle.jul_core.proofs.rounds.peel_rounds.Given as goal

abbrev pub invariant-rounds : goal.invariant-rounds
invariant-rounds g l = IsPeeling l.rows l.counts l.fn.seat.home l.seat l.buckets

abbrev pub decreases-rounds : goal.decreases-rounds
decreases-rounds g l = vertices l.rows - length l.buckets.draws
