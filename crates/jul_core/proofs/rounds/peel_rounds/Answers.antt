use Rattle.std.proofs.Common.{sym, subst}
use Rattle.jul_core.specs.PeelWork.{CanRound, HasRound}
use Rattle.jul_core.proofs.TurnLaws.{drawn_at, can_round, fewer, still_peeling}
use Rattle.jul_core.proofs.rounds.peel_rounds.Goals as goal

pub lower_reached-requires-clause-can : goal.lower_reached-requires-clause-can
lower_reached-requires-clause-can g c κs within =
    subst (λ l. CanRound c.args.rows.now c.args.counts.now c.in-Some.bucket l c.rounds.seat c.next_bucket.new.self) (sym c.as_slice.ensures.value)
    (can_round c.args.rows.now c.n.ensures.lawful c.args.counts.now c.args.seat.home c.rounds.seat c.rounds.buckets c.rounds.invariant
    c.in-Some.bucket c.in-Some.ids.items c.next_bucket.new.self (drawn_at c.rounds.buckets c.next_bucket.new.self c.in_ok-bucket.field-0 c.in-Some.bucket c.in-Some.ids c.in-Some.is c.in_ok-bucket.ensures.drawn))

pub rounds-smaller : goal.rounds-smaller
rounds-smaller g c =
    fewer c.args.rows.now c.n.ensures.lawful c.args.counts.now c.args.seat.home c.rounds.seat c.rounds.buckets c.rounds.invariant
    c.in-Some.bucket c.in-Some.ids.items c.next_bucket.new.self (drawn_at c.rounds.buckets c.next_bucket.new.self c.in_ok-bucket.field-0 c.in-Some.bucket c.in-Some.ids c.in-Some.is c.in_ok-bucket.ensures.drawn)
    c.in_ok-seat.seat c.lower_reached.new.buckets
    (subst (λ l. HasRound c.args.rows.now c.in-Some.bucket l c.rounds.seat c.in_ok-seat.seat c.next_bucket.new.self c.lower_reached.new.buckets) c.as_slice.ensures.value c.in_ok-seat.ensures)

pub rounds-preserved : goal.rounds-preserved
rounds-preserved g c =
    still_peeling c.args.rows.now c.n.ensures.lawful c.args.counts.now c.args.seat.home c.rounds.seat c.rounds.buckets c.rounds.invariant
    c.in-Some.bucket c.in-Some.ids.items c.next_bucket.new.self (drawn_at c.rounds.buckets c.next_bucket.new.self c.in_ok-bucket.field-0 c.in-Some.bucket c.in-Some.ids c.in-Some.is c.in_ok-bucket.ensures.drawn)
    c.requires.symmetric c.in_ok-seat.seat c.lower_reached.new.buckets
    (subst (λ l. HasRound c.args.rows.now c.in-Some.bucket l c.rounds.seat c.in_ok-seat.seat c.next_bucket.new.self c.lower_reached.new.buckets) c.as_slice.ensures.value c.in_ok-seat.ensures)
