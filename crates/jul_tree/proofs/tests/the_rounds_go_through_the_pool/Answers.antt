use Rattle.jul_tree.proofs.DrawnGraphs.{from_top}
use Rattle.jul_tree.proofs.tests.the_rounds_go_through_the_pool.Goals as goal

pub drawn-requires-clause-dist : goal.drawn-requires-clause-dist
drawn-requires-clause-dist g c κs =
    from_top c.in_ok-rows.rows c.in_ok-rows.ensures.graph c.in_ok-rows.ensures.lawful c.as_slice.result.now c.as_slice-2.result.now c.as_slice.ensures c.as_slice-2.ensures
