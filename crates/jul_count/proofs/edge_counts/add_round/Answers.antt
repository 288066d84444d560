use Rattle.jul_count.proofs.CountedLaws.{few_members, once_learnt}
use Rattle.jul_count.proofs.edge_counts.add_round.Goals as goal

pub add_places-requires-clause-few : goal.add_places-requires-clause-few
add_places-requires-clause-few g c κs within = few_members c.args.rows.now c.args.members.now c.requires.members

pub returns : goal.returns
returns g c = record {
  added = once_learnt c.args.rows.now c.args.members.now c.args.seat c.learn.new.seat c.in_ok-hand.hand.seat c.learn-2.new.seat c.add_places.new.noted.items
      c.learn.ensures.same c.learn-2.ensures.same c.learn.ensures.settled c.in_ok-hand.ensures.added c.learn-2.ensures.settled;
}
