use Rattle.jul_tree.proofs.DrawnGraphs.{from_two}
use Rattle.jul_tree.proofs.tests.the_least_of_the_tight_parents_with_the_fewest_hops.Goals as goal

pub expect-requires-clause-dist : goal.expect-requires-clause-dist
expect-requires-clause-dist g c κs =
    from_two c.in_ok-rows.rows c.in_ok-rows.ensures.graph c.in_ok-rows.ensures.lawful c.as_slice.result.now c.as_slice-2.result.now c.as_slice.ensures c.as_slice-2.ensures
