use Rattle.std.proofs.Common.{◌∙◌}
use Rattle.jul_dist.proofs.GroupLaws.{group_can_go, group_moved, moves_in, moves_ahead}
use Rattle.jul_dist.proofs.moving.move_all.Goals as goal

pub moves_to-requires-clause-can_go : goal.moves_to-requires-clause-can_go
moves_to-requires-clause-can_go c =
    group_can_go c.args.delta c.args.values.now c.args.ids.now c.groups.rest.now c.args.buckets.now c.groups.buckets c.groups.invariant c.split_at.result.0.now c.split_at.result.1.now c.split_at.ensures.by_index.0 c.requires.can_go

pub update_buckets-requires-clause-ids : goal.update_buckets-requires-clause-ids
update_buckets-requires-clause-ids c =
    moves_in c.args.delta c.args.values.now c.groups.buckets c.split_at.result.0.now
    (group_can_go c.args.delta c.args.values.now c.args.ids.now c.groups.rest.now c.args.buckets.now c.groups.buckets c.groups.invariant c.split_at.result.0.now c.split_at.result.1.now c.split_at.ensures.by_index.0 c.requires.can_go)
    c.as_slice.result.now (c.as_slice.ensures.value ∙ c.in_ok-moves_to.ensures)

pub update_buckets-requires-clause-not_behind : goal.update_buckets-requires-clause-not_behind
update_buckets-requires-clause-not_behind c =
    moves_ahead c.args.delta c.args.values.now c.groups.buckets c.split_at.result.0.now
    (group_can_go c.args.delta c.args.values.now c.args.ids.now c.groups.rest.now c.args.buckets.now c.groups.buckets c.groups.invariant c.split_at.result.0.now c.split_at.result.1.now c.split_at.ensures.by_index.0 c.requires.can_go)
    c.as_slice.result.now (c.as_slice.ensures.value ∙ c.in_ok-moves_to.ensures)

pub groups-preserved : goal.groups-preserved
groups-preserved c =
    group_moved c.args.delta c.args.values.now c.args.ids.now c.groups.rest.now c.args.buckets.now c.groups.buckets c.groups.invariant c.split_at.result.0.now c.split_at.result.1.now c.split_at.ensures.by_index.0
    c.update_buckets.new.self c.requires.can_go c.as_slice.result.now (c.as_slice.ensures.value ∙ c.in_ok-moves_to.ensures) c.in_ok-update_buckets.ensures.ok
