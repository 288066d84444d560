use Rattle.std.proofs.Common.{subst}
use Rattle.jul_core.specs.Peels.{AreCoredBy}
use Rattle.jul_core.proofs.TurnLaws.{start_at, peeled_out}
use Rattle.jul_core.proofs.engine.peel.Goals as goal

pub peel_rounds-requires-clause-peeling : goal.peel_rounds-requires-clause-peeling
peel_rounds-requires-clause-peeling g c κs within =
    start_at c.args.rows.now c.n.ensures.lawful c.args.counts.now c.args.seat c.args.buckets.now c.requires.words c.requires.order c.requires.degrees c.requires.no_draws

pub returns-clause-cores : goal.returns-clause-cores
returns-clause-cores g c =
    (peeled_out c.args.rows.now c.n.ensures.lawful c.args.counts.now c.args.seat.home c.in_ok-seat.seat c.peel_rounds.new.buckets c.in_ok-seat.ensures.peeling c.in_ok-seat.ensures.none_left).columns
    c.in_ok-cores.cores (subst (λ l. AreCoredBy c.args.rows.now l c.in_ok-cores.cores) c.drawn.ensures c.in_ok-cores.ensures)

pub returns-clause-once : goal.returns-clause-once
returns-clause-once g c = (peeled_out c.args.rows.now c.n.ensures.lawful c.args.counts.now c.args.seat.home c.in_ok-seat.seat c.peel_rounds.new.buckets c.in_ok-seat.ensures.peeling c.in_ok-seat.ensures.none_left).once

pub returns-clause-adds : goal.returns-clause-adds
returns-clause-adds g c = (peeled_out c.args.rows.now c.n.ensures.lawful c.args.counts.now c.args.seat.home c.in_ok-seat.seat c.peel_rounds.new.buckets c.in_ok-seat.ensures.peeling c.in_ok-seat.ensures.none_left).adds
