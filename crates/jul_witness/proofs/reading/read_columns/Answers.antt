use Rattle.jul_text.specs.Tokens.{tokens}
use Rattle.jul_witness.proofs.LawfulLaws.{lawful_cores, lawful_distances, lawful_cover, cores_said, distances_said, cover_said}
use Rattle.jul_witness.proofs.reading.read_columns.Goals as goal

pub returns-in_ok-core-in-Cores-clause-value : goal.returns-in_ok-core-in-Cores-clause-value
returns-in_ok-core-in-Cores-clause-value c =
    cores_said c.args.heading (tokens c.args.bytes.now) c.args.n c.requires.n _ _ c.in-Cores.is c.in_ok-core-in-Cores.ensures.first c.in_ok-core-in-Cores.ensures.second

pub returns-in_ok-core-in-Cores-clause-lawful : goal.returns-in_ok-core-in-Cores-clause-lawful
returns-in_ok-core-in-Cores-clause-lawful c =
    lawful_cores c.args.heading (tokens c.args.bytes.now) c.args.n c.requires.n _ _ c.in-Cores.is c.in_ok-core-in-Cores.ensures.first c.in_ok-core-in-Cores.ensures.second

pub returns-in_ok-dist-in-Distances-clause-value : goal.returns-in_ok-dist-in-Distances-clause-value
returns-in_ok-dist-in-Distances-clause-value c =
    distances_said c.args.heading (tokens c.args.bytes.now) c.args.n c.requires.n _ _ _ c.in-Distances.is
    c.in_ok-dist-in-Distances.ensures.first c.in_ok-dist-in-Distances.ensures.second c.in_ok-dist-in-Distances.ensures.third

pub returns-in_ok-dist-in-Distances-clause-lawful : goal.returns-in_ok-dist-in-Distances-clause-lawful
returns-in_ok-dist-in-Distances-clause-lawful c =
    lawful_distances c.args.heading (tokens c.args.bytes.now) c.args.n c.requires.n _ _ _
    c.in_ok-dist-in-Distances.ensures.first c.in_ok-dist-in-Distances.ensures.second c.in_ok-dist-in-Distances.ensures.third

pub returns-in_ok-round-in-Cover-clause-value : goal.returns-in_ok-round-in-Cover-clause-value
returns-in_ok-round-in-Cover-clause-value c =
    cover_said c.args.heading (tokens c.args.bytes.now) c.args.n c.requires.n _ _ c.in-Cover.is c.in_ok-round-in-Cover.ensures.first c.in_ok-round-in-Cover.ensures.second

pub returns-in_ok-round-in-Cover-clause-lawful : goal.returns-in_ok-round-in-Cover-clause-lawful
returns-in_ok-round-in-Cover-clause-lawful c =
    lawful_cover c.args.heading (tokens c.args.bytes.now) c.args.n c.requires.n _ _ c.in_ok-round-in-Cover.ensures.first c.in_ok-round-in-Cover.ensures.second
