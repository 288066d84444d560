use Rattle.jul_cmd.proofs.ResultLaws.{cores_result, cores_lawful}
use Rattle.jul_cmd.proofs.cores.find_cores.Goals as goal

pub returns-clause-lawful : goal.returns-clause-lawful
returns-clause-lawful g c =
    cores_lawful c.args.rows.now c.n.ensures.lawful c.in_ok-found.found (cores_result c.args.rows.now c.in_ok-found.found c.in_ok-found.ensures)
