use Rattle.std.proofs.Common.{◌≤◌, arith, length}
use Rattle.jul_base.specs.Graph.{vertices}
use Rattle.jul_subset.proofs.IncreasingLaws.{length_below}
use Rattle.jul_edge.proofs.noting.edge_push_noted.Goals as goal

pub chunk_count-chunks-requires-clause-few : goal.chunk_count-chunks-requires-clause-few
chunk_count-chunks-requires-clause-few g c =
    let m = c.requires.members in
    let most : length c.args.members.now ≤ vertices c.args.rows.now = length_below c.args.members.now (vertices c.args.rows.now) m.increasing m.within in
    omega (arith, most, m.few)
