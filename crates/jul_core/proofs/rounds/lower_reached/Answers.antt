use Rattle.std.proofs.Common.{◌∙◌, arith, length, ◌≤◌}
use Rattle.jul_base.specs.Graph.{vertices}
use Rattle.jul_subset.proofs.IncreasingLaws.{length_below}
use Rattle.jul_core.proofs.TurnLaws.{can_lower, counts_few}
use Rattle.jul_core.proofs.MovingLaws.{moves_in, moves_ahead}
use Rattle.jul_core.proofs.rounds.lower_reached.Goals as goal

pub work_to_share-work-requires-clause-few : goal.work_to_share-work-requires-clause-few
work_to_share-work-requires-clause-few g c =
    let most : length c.args.drawn.now ≤ vertices c.args.rows.now = length_below c.args.drawn.now (vertices c.args.rows.now) c.requires.can.increasing c.requires.can.within in
    omega (arith, most, c.n.ensures.lawful.few_vertices)

pub moves_down-requires-clause-few : goal.moves_down-requires-clause-few
moves_down-requires-clause-few g c κs within =
    counts_few c.args.rows.now c.args.drawn.now c.edge_counts_noted.new.list.items c.as_slice.result.now c.n.ensures.lawful c.in_ok-seat.ensures.counts c.as_slice.ensures.value

pub update_buckets-requires-clause-ids : goal.update_buckets-requires-clause-ids
update_buckets-requires-clause-ids g c =
    moves_in c.args.buckets.now c.args.bucket c.as_slice.result.now c.as_slice-2.result.now
    (can_lower c.args.rows.now c.args.counts.now c.args.bucket c.args.drawn.now c.args.seat c.args.buckets.now c.edge_counts_noted.new.list.items c.as_slice.result.now
    c.requires.can c.in_ok-seat.ensures.counts c.as_slice.ensures.value)
    (c.as_slice-2.ensures.value ∙ c.in_ok-moves_down.ensures)

pub update_buckets-requires-clause-not_behind : goal.update_buckets-requires-clause-not_behind
update_buckets-requires-clause-not_behind g c =
    moves_ahead c.args.buckets.now c.args.bucket c.as_slice.result.now c.as_slice-2.result.now
    (can_lower c.args.rows.now c.args.counts.now c.args.bucket c.args.drawn.now c.args.seat c.args.buckets.now c.edge_counts_noted.new.list.items c.as_slice.result.now
    c.requires.can c.in_ok-seat.ensures.counts c.as_slice.ensures.value)
    (c.as_slice-2.ensures.value ∙ c.in_ok-moves_down.ensures)
