use Rattle.std.proofs.Common.{length}
use Rattle.jul_witness.proofs.ScanningLaws.{trailing_is, whole_is}
use Rattle.jul_witness.proofs.scanning.expect_end.Goals as goal

pub returns-in-Some-clause-err : goal.returns-in-Some-clause-err
returns-in-Some-clause-err c =
    trailing_is c.args.heading c.args.bytes.now c.args.place.at c.args.place.token (length c.args.bytes.now) c.in-Some.token c.fault.result
    c.requires.clean c.requires.last c.in-Some.ensures.first c.fault.ensures

pub returns-in-None-clause-ok : goal.returns-in-None-clause-ok
returns-in-None-clause-ok c =
    whole_is c.args.heading c.args.bytes.now c.args.place.at c.args.place.token (length c.args.bytes.now) c.requires.clean c.requires.last c.in-None.ensures.no_more
