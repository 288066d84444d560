use Rattle.std.proofs.Common.{refl}
use Rattle.jul_adj.proofs.StepLaws.{clear_at, clear_now, refused, shape_here, places_read, places_fault}
use Rattle.jul_adj.proofs.readings.Reading.take_places.Goals as goal

pub returns-in-Ok : goal.returns-in-Ok
returns-in-Ok c ws h are =
    let clear = clear_at ws 2 c.args.self.now c.requires.clear h in
    clear_now ws 3 3 _ _ c.args.self.now.fault c.requires.clear refl
    (places_read ws c.args.self.now.sizes c.args.self.now.lists c.args.mark c.in-Ok.places clear.1 are c.in-Ok.ensures.digits c.in-Ok.ensures.within c.in-Ok.ensures.none)

pub returns-in-Err : goal.returns-in-Err
returns-in-Err c ws h are =
    let clear = clear_at ws 2 c.args.self.now c.requires.clear h in
    let here = shape_here ws 2 c.args.mark are in
    refused ws 2 3 c.args.self.now.token c.args.self.now.sizes c.args.self.now.lists c.refuse.new.self c.in-Err.kind c.args.mark clear.1 here.2 (places_fault ws c.args.mark c.in-Err.kind are c.in-Err.ensures.fault) here.0 c.requires.token c.refuse.ensures
