use Rattle.std.proofs.Common.{sym, subst}
use Rattle.std.specs.List.Sorted.{IsStrictlyIncreasing}
use Rattle.jul_count.specs.Adds.{HasCounted, AreZero}
use Rattle.jul_count.proofs.CountedLaws.{counted_out, rising_counts}
use Rattle.jul_count.proofs.edge_counts.count_list.Goals as goal

pub drain_each-requires-clause-apart : goal.drain_each-requires-clause-apart
drain_each-requires-clause-apart g c =
    (counted_out c.args.rows.now c.requires.lawful c.args.members.now c.requires.members c.args.counts.now c.args.seat c.in_ok-seat.seat c.add_round.new.noted.items c.requires.words c.in_ok-seat.ensures.added
    c.in_ok-touched.touched c.in-Some.ids.now c.in_ok-touched.ensures.subset c.in_ok-touched.ensures.members c.in-Some.ensures.1).apart

pub drain_each-requires-clause-few : goal.drain_each-requires-clause-few
drain_each-requires-clause-few g c =
    (counted_out c.args.rows.now c.requires.lawful c.args.members.now c.requires.members c.args.counts.now c.args.seat c.in_ok-seat.seat c.add_round.new.noted.items c.requires.words c.in_ok-seat.ensures.added
    c.in_ok-touched.touched c.in-Some.ids.now c.in_ok-touched.ensures.subset c.in_ok-touched.ensures.members c.in-Some.ensures.1).few

pub returns-clause-counts : goal.returns-clause-counts
returns-clause-counts g c =
    rising_counts c.args.rows.now c.args.members.now c.args.seat c.in_ok-seat.seat c.in-Some.ids.now c.drain_each.new.list.items
    (counted_out c.args.rows.now c.requires.lawful c.args.members.now c.requires.members c.args.counts.now c.args.seat c.in_ok-seat.seat c.add_round.new.noted.items c.requires.words c.in_ok-seat.ensures.added
    c.in_ok-touched.touched c.in-Some.ids.now c.in_ok-touched.ensures.subset c.in_ok-touched.ensures.members c.in-Some.ensures.1)
    c.in_ok-drain_each.ensures.drains
    (subst IsStrictlyIncreasing (sym c.in-Some.ensures.1) c.in_ok-touched.ensures.subset.increasing)

pub returns-clause-counted : goal.returns-clause-counted
returns-clause-counted g c =
    subst (HasCounted c.args.rows.now c.args.members.now c.args.seat) (sym c.in_ok-drain_each.ensures.seat)
    (counted_out c.args.rows.now c.requires.lawful c.args.members.now c.requires.members c.args.counts.now c.args.seat c.in_ok-seat.seat c.add_round.new.noted.items c.requires.words c.in_ok-seat.ensures.added
    c.in_ok-touched.touched c.in-Some.ids.now c.in_ok-touched.ensures.subset c.in_ok-touched.ensures.members c.in-Some.ensures.1).counted_is

pub returns-clause-zero : goal.returns-clause-zero
returns-clause-zero g c =
    subst AreZero (sym c.in_ok-drain_each.ensures.seat)
    (counted_out c.args.rows.now c.requires.lawful c.args.members.now c.requires.members c.args.counts.now c.args.seat c.in_ok-seat.seat c.add_round.new.noted.items c.requires.words c.in_ok-seat.ensures.added
    c.in_ok-touched.touched c.in-Some.ids.now c.in_ok-touched.ensures.subset c.in_ok-touched.ensures.members c.in-Some.ensures.1).zero_is
