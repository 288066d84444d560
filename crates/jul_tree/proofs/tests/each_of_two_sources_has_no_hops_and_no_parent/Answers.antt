use Rattle.jul_tree.proofs.DrawnGraphs.{from_both}
use Rattle.jul_tree.proofs.tests.each_of_two_sources_has_no_hops_and_no_parent.Goals as goal

pub expect-requires-clause-dist : goal.expect-requires-clause-dist
expect-requires-clause-dist g c κs =
    from_both c.in_ok-rows.rows c.in_ok-rows.ensures.graph c.in_ok-rows.ensures.lawful c.as_slice.result.now c.as_slice-2.result.now c.as_slice.ensures c.as_slice-2.ensures
