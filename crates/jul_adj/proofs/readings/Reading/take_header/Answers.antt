use Rattle.std.proofs.Common.{refl}
use Rattle.jul_text.specs.Scanning.{text_at}
use Rattle.jul_adj.specs.declared.faults.FaultKind.TheVariants.{Header}
use Rattle.jul_adj.proofs.StepLaws.{clear_at, clear_now, refused, shape_here, header_read}
use Rattle.jul_adj.proofs.readings.Reading.take_header.Goals as goal

pub returns-in-Some : goal.returns-in-Some
returns-in-Some c ws h are =
    let clear = clear_at ws 0 c.args.self.now c.requires.clear h in
    let here = shape_here ws 0 c.args.mark are in
    clear_now ws 1 1 _ _ c.args.self.now.fault c.requires.clear refl
    (header_read ws c.args.self.now.sizes c.args.self.now.lists c.args.mark c.in-Some.weighted clear.1 are (c.in-Some.ensures.word (text_at ws 0) here.1) (c.in-Some.ensures.weighted (text_at ws 0) here.1))

pub returns-in-None : goal.returns-in-None
returns-in-None c ws h are =
    let clear = clear_at ws 0 c.args.self.now c.requires.clear h in
    let here = shape_here ws 0 c.args.mark are in
    refused ws 0 1 c.args.self.now.token c.args.self.now.sizes c.args.self.now.lists c.refuse.new.self Header c.args.mark clear.1 here.2 (c.in-None.ensures.none (text_at ws 0) here.1) here.0 c.requires.token c.refuse.ensures
