use Rattle.std.proofs.Common.{◌∙◌, arith}
use Rattle.jul_base.proofs.ListLaws.{written}
use Rattle.jul_tree.proofs.StartLaws.{start_at}
use Rattle.jul_tree.proofs.SearchLaws.{tree_at, key_at}
use Rattle.jul_tree.proofs.engine.grow_tree.Goals as goal

pub grow-requires-clause-searching : goal.grow-requires-clause-searching
grow-requires-clause-searching g c κs within =
    start_at c.args.rows.now c.n-n.ensures.lawful c.args.sources.now c.requires.sources c.args.dist.now c.requires.dist c.as_mut_slice.result.now c.in_ok-hops.hops.items c.n-n.result c.as_mut_slice.ensures.value c.n-n.ensures.count c.in_ok-hops.ensures
    c.args.keys.now c.args.stamps.now c.args.key_seat c.args.stamp_seat c.in_ok-first.first.items c.requires.keys c.in_ok-first.ensures.items c.requires.stamps

pub returns-clause-tree : goal.returns-clause-tree
returns-clause-tree g c =
    tree_at c.args.rows.now c.n-n.ensures.lawful c.args.sources.now c.requires.sources c.args.dist.now c.requires.dist c.args.keys.now c.args.stamps.now c.args.key_seat.home c.args.stamp_seat.home
    c.grow.new.hops c.in_ok-grown.grown.members.items c.in_ok-grown.grown.seat c.in_ok-grown.grown.stamp_seat c.in_ok-grown.grown.hop c.in_ok-grown.ensures.searching c.in_ok-grown.ensures.empty
    c.in_ok-parent.parent.items c.from_vec.result c.from_vec-2.result (c.from_vec.ensures ∙ written c.grow.new.hops c.in_ok-hops.hops.items c.in_ok-hops.hops.len (omega (arith, c.grow.auto.hops, c.as_mut_slice.ensures.len)))
    c.from_vec-2.ensures (c.in_ok-parent.ensures.size ∙ c.n-n.ensures.count) (λ v lt. c.in_ok-parent.ensures.parents v (omega (arith, lt, c.n-n.ensures.count)))

pub returns-clause-keys : goal.returns-clause-keys
returns-clause-keys g c =
    key_at c.args.rows.now c.n-n.ensures.lawful c.args.sources.now c.requires.sources c.args.dist.now c.requires.dist c.args.keys.now c.args.stamps.now c.args.key_seat.home c.args.stamp_seat.home
    c.grow.new.hops c.in_ok-grown.grown.members.items c.in_ok-grown.grown.seat c.in_ok-grown.grown.stamp_seat c.in_ok-grown.grown.hop c.in_ok-grown.ensures.searching c.in_ok-grown.ensures.empty
    c.parents_of.new.seat c.in_ok-parent.parent.items c.from_vec.result c.from_vec-2.result (c.from_vec.ensures ∙ written c.grow.new.hops c.in_ok-hops.hops.items c.in_ok-hops.hops.len (omega (arith, c.grow.auto.hops, c.as_mut_slice.ensures.len)))
    c.from_vec-2.ensures c.in_ok-parent.ensures.same (λ v lt. c.in_ok-parent.ensures.parents v (omega (arith, lt, c.n-n.ensures.count)))
