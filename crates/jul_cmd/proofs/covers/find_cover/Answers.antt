use Rattle.jul_cmd.proofs.ResultLaws.{cover_lawful}
use Rattle.jul_cmd.proofs.covers.find_cover.Goals as goal

pub returns-clause-lawful : goal.returns-clause-lawful
returns-clause-lawful g c = cover_lawful c.args.rows c.n.ensures.lawful c.in_ok-found.found c.in_ok-found.ensures.cover
