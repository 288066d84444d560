use Rattle.std.proofs.Common.{◌∙◌, ap, arith}
use Rattle.jul_subset.specs.Subsets.{Subset}
use Rattle.jul_tree.proofs.SearchLaws.{members_within, none_at, next_at}
use Rattle.jul_tree.proofs.growing.grow.Goals as goal

pub reach_of-reach-requires-clause-vertices : goal.reach_of-reach-requires-clause-vertices
reach_of-reach-requires-clause-vertices g c =
    rw c.as_slice.ensures.value (members_within c.args.rows.now c.n-n.ensures.lawful c.args.sources.now c.requires.sources c.args.dist.now c.requires.dist c.args.words.now c.args.stamps.now c.args.seat.home c.args.stamp_seat.home
    c.rounds.hops c.rounds.members.items c.rounds.seat c.rounds.stamp_seat c.rounds.hop c.rounds.invariant)

pub from_increasing-frontier-requires-clause-within : goal.from_increasing-frontier-requires-clause-within
from_increasing-frontier-requires-clause-within g c =
    rw c.n-n.ensures.count (members_within c.args.rows.now c.n-n.ensures.lawful c.args.sources.now c.requires.sources c.args.dist.now c.requires.dist c.args.words.now c.args.stamps.now c.args.seat.home c.args.stamp_seat.home
    c.rounds.hops c.rounds.members.items c.rounds.seat c.rounds.stamp_seat c.rounds.hop c.rounds.invariant)

pub set_hops-requires-clause-none : goal.set_hops-requires-clause-none
set_hops-requires-clause-none g c =
    none_at c.args.rows.now c.n-n.ensures.lawful c.args.sources.now c.requires.sources c.args.dist.now c.requires.dist c.args.words.now c.args.stamps.now c.args.seat.home c.args.stamp_seat.home
    c.rounds.hops c.rounds.members.items c.rounds.seat c.rounds.stamp_seat c.rounds.hop c.rounds.invariant (omega (arith, c.rounds-test.true, c.len.ensures))
    c.from_increasing-frontier.result (ap (λ (s : Subset). s.members) c.from_increasing-frontier.ensures.subset)
    c.in_ok-out.out.seat c.in_ok-out.out.hit c.in_ok-out.ensures.hooked c.as_slice-in-rounds.result.now (c.as_slice-in-rounds.ensures.value ∙ c.in_ok-members.ensures)

pub rounds-preserved-in_ok-members : goal.rounds-preserved-in_ok-members
rounds-preserved-in_ok-members g c =
    next_at c.args.rows.now c.n-n.ensures.lawful c.args.sources.now c.requires.sources c.args.dist.now c.requires.dist c.args.words.now c.args.stamps.now c.args.seat.home c.args.stamp_seat.home
    c.rounds.hops c.rounds.members.items c.rounds.seat c.rounds.stamp_seat c.rounds.hop c.rounds.invariant (omega (arith, c.rounds-test.true, c.len.ensures))
    c.from_increasing-frontier.result (ap (λ (s : Subset). s.members) c.from_increasing-frontier.ensures.subset)
    c.in_ok-out.out.seat c.in_ok-out.out.hit c.in_ok-out.ensures.hooked c.in_ok-members.members.items c.in_ok-members.ensures
    c.set_hops.new.hops (rw c.as_slice-in-rounds.ensures.value at c.set_hops.ensures) c.n.ensures.subset c.in_ok-out.out.direction c.in_ok-out.out.stamp_seat c.in_ok-out.ensures.stamped
