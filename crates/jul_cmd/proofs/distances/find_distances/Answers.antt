use Rattle.jul_cmd.proofs.SourceLaws.{named_inside}
use Rattle.jul_cmd.proofs.distances.find_distances.Goals as goal

pub least_distances-requires-clause-sources : goal.least_distances-requires-clause-sources
least_distances-requires-clause-sources g c κs within =
    (named_inside _ _ c.args.sources.now c.n.ensures.count c.requires.sources c.in_ok-check_sources.ensures.inside).within

pub returns-clause-sources : goal.returns-clause-sources
returns-clause-sources g c = named_inside _ _ c.args.sources.now c.n.ensures.count c.requires.sources c.in_ok-check_sources.ensures.inside
