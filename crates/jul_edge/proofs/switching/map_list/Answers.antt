use Rattle.std.proofs.Common.{◌≤◌, length, arith}
use Rattle.jul_base.specs.Graph.{vertices}
use Rattle.jul_subset.proofs.IncreasingLaws.{length_below}
use Rattle.jul_edge.proofs.switching.map_list.Goals as goal

pub reaches_far-requires-clause-few : goal.reaches_far-requires-clause-few
reaches_far-requires-clause-few g c =
    let s = c.requires.subset in
    let most : length c.args.members.now ≤ vertices c.args.rows.now = length_below c.args.members.now (vertices c.args.rows.now) s.increasing s.within in
    omega (arith, most, s.few)
