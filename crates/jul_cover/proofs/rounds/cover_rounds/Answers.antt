use Rattle.std.proofs.Common.{sym}
use Rattle.jul_cover.specs.CoverWork.{At}
use Rattle.jul_cover.proofs.KeptTurnLaws.{at_home}
use Rattle.jul_cover.proofs.rounds.cover_rounds.Goals as goal

pub finish_rounds-requires-clause-covering : goal.finish_rounds-requires-clause-covering
finish_rounds-requires-clause-covering g c κs within =
    let at : At = record { round = c.in_ok-first.first.at.round; bids = c.in_ok-first.first.at.bids; owners = c.in_ok-first.first.at.owners } in
    at_home c.args.sets.now c.args.tables.now.bids.now c.args.tables.now.owners.now c.args.at.bids.home c.args.at.owners.home c.in_ok-first.first.at.bids.home c.in_ok-first.first.at.owners.home c.bid_rounds.new.packs c.bid_rounds.new.columns.round.items c.bid_rounds.new.columns.by.items at c.bid_rounds.new.buckets
    (sym c.in_ok-first.ensures.covering.bid_home_is) (sym c.in_ok-first.ensures.covering.owner_home_is) c.in_ok-first.ensures.covering

pub returns-clause-covering : goal.returns-clause-covering
returns-clause-covering g c =
    let at : At = record { round = c.in_ok-end.end.round; bids = c.in_ok-end.end.bids; owners = c.in_ok-end.end.owners } in
    at_home c.args.sets.now c.args.tables.now.bids.now c.args.tables.now.owners.now c.in_ok-first.first.at.bids.home c.in_ok-first.first.at.owners.home c.args.at.bids.home c.args.at.owners.home c.finish_rounds.new.packs c.finish_rounds.new.columns.round.items c.finish_rounds.new.columns.by.items at c.finish_rounds.new.buckets
    c.in_ok-first.ensures.covering.bid_home_is c.in_ok-first.ensures.covering.owner_home_is c.in_ok-end.ensures.covering
