use Rattle.std.proofs.Common.{sym, subst}
use Rattle.jul_count.specs.Adds.{HasCounted, AreZero}
use Rattle.jul_count.proofs.CountedLaws.{noted_out, noted_counts}
use Rattle.jul_count.proofs.noted_counts.edge_counts_noted.Goals as goal

pub drain_each-requires-clause-apart : goal.drain_each-requires-clause-apart
drain_each-requires-clause-apart g c =
    (noted_out c.args.rows.now c.n.ensures.lawful c.args.members.now c.requires.members c.args.counts.now c.args.seat c.in_ok-seat.seat c.add_round.new.noted.items c.requires.words c.in_ok-seat.ensures.added
    c.as_slice.result.now c.as_slice.ensures.value).apart

pub drain_each-requires-clause-few : goal.drain_each-requires-clause-few
drain_each-requires-clause-few g c =
    (noted_out c.args.rows.now c.n.ensures.lawful c.args.members.now c.requires.members c.args.counts.now c.args.seat c.in_ok-seat.seat c.add_round.new.noted.items c.requires.words c.in_ok-seat.ensures.added
    c.as_slice.result.now c.as_slice.ensures.value).few

pub returns-clause-counts : goal.returns-clause-counts
returns-clause-counts g c =
    noted_counts c.args.rows.now c.args.members.now c.args.seat c.in_ok-seat.seat c.as_slice.result.now c.drain_each.new.list.items
    (noted_out c.args.rows.now c.n.ensures.lawful c.args.members.now c.requires.members c.args.counts.now c.args.seat c.in_ok-seat.seat c.add_round.new.noted.items c.requires.words c.in_ok-seat.ensures.added
    c.as_slice.result.now c.as_slice.ensures.value)
    c.in_ok-drain_each.ensures.drains

pub returns-clause-counted : goal.returns-clause-counted
returns-clause-counted g c =
    subst (HasCounted c.args.rows.now c.args.members.now c.args.seat) (sym c.in_ok-drain_each.ensures.seat)
    (noted_out c.args.rows.now c.n.ensures.lawful c.args.members.now c.requires.members c.args.counts.now c.args.seat c.in_ok-seat.seat c.add_round.new.noted.items c.requires.words c.in_ok-seat.ensures.added
    c.as_slice.result.now c.as_slice.ensures.value).counted_is

pub returns-clause-zero : goal.returns-clause-zero
returns-clause-zero g c =
    subst AreZero (sym c.in_ok-drain_each.ensures.seat)
    (noted_out c.args.rows.now c.n.ensures.lawful c.args.members.now c.requires.members c.args.counts.now c.args.seat c.in_ok-seat.seat c.add_round.new.noted.items c.requires.words c.in_ok-seat.ensures.added
    c.as_slice.result.now c.as_slice.ensures.value).zero_is
