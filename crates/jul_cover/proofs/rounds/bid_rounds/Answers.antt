use Rattle.std.proofs.Common.{◌≤◌, length, arith}
use Rattle.jul_base.specs.declared.limits.TheConstants.{MAX_N}
use Rattle.jul_cover.specs.CoverWork.{At}
use Rattle.jul_cover.proofs.BiddingTurnLaws.{turned_covering, turned_fewer}
use Rattle.jul_cover.proofs.TurnLaws.{drawn_at, can_turn}
use Rattle.jul_cover.proofs.rounds.bid_rounds.Goals as goal

pub take_turn-requires-clause-can : goal.take_turn-requires-clause-can
take_turn-requires-clause-can g c κs within =
    let few : length c.args.sets.now ≤ MAX_N = omega (arith, c.n.ensures.count, c.n.ensures.few) in
    let at : At = record { round = c.rounds.at.round; bids = c.rounds.at.bids; owners = c.rounds.at.owners } in
    can_turn c.args.sets.now c.n.ensures.sets few c.args.tables.now.bids.now c.args.tables.now.owners.now c.args.at.bids.home c.args.at.owners.home c.rounds.packs c.rounds.columns.round.items c.rounds.columns.by.items at c.rounds.buckets c.rounds.invariant.0
    c.in-Some.bucket c.in-Some.drawn.items c.next_bucket.new.self (drawn_at c.rounds.buckets c.next_bucket.new.self c.in_ok-bucket.field-0 c.in-Some.bucket c.in-Some.drawn c.in-Some.is c.in_ok-bucket.ensures.drawn)

pub rounds-smaller : goal.rounds-smaller
rounds-smaller g c =
    let few : length c.args.sets.now ≤ MAX_N = omega (arith, c.n.ensures.count, c.n.ensures.few) in
    let at : At = record { round = c.rounds.at.round; bids = c.rounds.at.bids; owners = c.rounds.at.owners } in
    let after : At = record { round = c.in_ok-at.at.round; bids = c.in_ok-at.at.bids; owners = c.in_ok-at.at.owners } in
    turned_fewer c.args.sets.now c.n.ensures.sets few c.args.tables.now.bids.now c.args.tables.now.owners.now c.args.at.bids.home c.args.at.owners.home c.rounds.packs c.rounds.columns.round.items c.rounds.columns.by.items at c.rounds.buckets c.rounds.invariant.0
    c.in-Some.bucket c.in-Some.drawn.items c.next_bucket.new.self (drawn_at c.rounds.buckets c.next_bucket.new.self c.in_ok-bucket.field-0 c.in-Some.bucket c.in-Some.drawn c.in-Some.is c.in_ok-bucket.ensures.drawn)
    c.take_turn.new.packs c.take_turn.new.columns.round.items c.take_turn.new.columns.by.items after c.take_turn.new.buckets c.in_ok-at.ensures.turned

pub rounds-preserved : goal.rounds-preserved
rounds-preserved g c =
    let few : length c.args.sets.now ≤ MAX_N = omega (arith, c.n.ensures.count, c.n.ensures.few) in
    let at : At = record { round = c.rounds.at.round; bids = c.rounds.at.bids; owners = c.rounds.at.owners } in
    let after : At = record { round = c.in_ok-at.at.round; bids = c.in_ok-at.at.bids; owners = c.in_ok-at.at.owners } in (
      turned_covering c.args.sets.now c.n.ensures.sets few c.args.tables.now.bids.now c.args.tables.now.owners.now c.args.at.bids.home c.args.at.owners.home c.rounds.packs c.rounds.columns.round.items c.rounds.columns.by.items at c.rounds.buckets c.rounds.invariant.0
          c.in-Some.bucket c.in-Some.drawn.items c.next_bucket.new.self (drawn_at c.rounds.buckets c.next_bucket.new.self c.in_ok-bucket.field-0 c.in-Some.bucket c.in-Some.drawn c.in-Some.is c.in_ok-bucket.ensures.drawn)
          c.take_turn.new.packs c.take_turn.new.columns.round.items c.take_turn.new.columns.by.items after c.take_turn.new.buckets c.in_ok-at.ensures.turned,
      c.in_ok-at.ensures.marks,
      omega arith,
    )

pub returns-then-again-limit-clause-limited : goal.returns-then-again-limit-clause-limited
returns-then-again-limit-clause-limited g c = λ _. omega (arith, c.rounds.invariant.2)
