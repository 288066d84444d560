use Rattle.jul_cmd.proofs.ResultLaws.{none_asymmetric, symmetric_suited}
use Rattle.jul_cmd.proofs.cores.check_symmetry.Goals as goal

pub returns-in-None-clause-suited : goal.returns-in-None-clause-suited
returns-in-None-clause-suited g c =
    let symmetric = none_asymmetric c.args.rows.now _ c.in-None.is c.in_ok-first_asymmetry.ensures in
    (symmetric, symmetric_suited c.args.rows.now c.n.ensures.lawful symmetric)
