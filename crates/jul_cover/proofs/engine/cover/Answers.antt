use Rattle.std.proofs.Common.{rules, ◌≡◌, ◌≤◌, ◌∙◌, length, replicate, ap, arith}
use Rattle.jul_base.specs.declared.limits.TheConstants.{NONE, MAX_N}
use Rattle.jul_base.specs.declared.results.Cover.{Cover}
use Rattle.jul_cover.specs.CoverWork.{At}
use Rattle.jul_cover.proofs.EngineLaws.{starts, is_cover, is_small, last_bids, all_draws, owner_words}
use Rattle.jul_cover.proofs.engine.cover.Goals as goal

pub cover_rounds-requires-clause-covering : goal.cover_rounds-requires-clause-covering
cover_rounds-requires-clause-covering g c κs within =
    let few : length c.args.sets.now ≤ MAX_N = omega (arith, c.n-n.ensures.count, c.n-n.ensures.few) in
    let rounds : c.in_ok-round.round.items ≡ replicate c.n-n.result NONE = search rules in
    let bys : c.in_ok-by.by.items ≡ replicate c.n-n.result NONE = search rules in
    let round : c.in_ok-round.round.items ≡ replicate (length c.args.sets.now) NONE = rounds ∙ ap (λ k. replicate k NONE) c.n-n.ensures.count in
    let by : c.in_ok-by.by.items ≡ replicate (length c.args.sets.now) NONE = bys ∙ ap (λ k. replicate k NONE) c.n-n.ensures.count in
    starts c.args.sets.now c.n-n.ensures.sets few c.args.bids.now c.args.owners.now c.in_ok-packs.packs c.in_ok-round.round.items c.in_ok-by.by.items c.args.bid_seat c.args.owner_seat c.args.buckets.now
    c.requires.bids c.requires.owners c.requires.order c.requires.sizes c.in_ok-packs.ensures.n c.in_ok-packs.ensures.packed c.in_ok-packs.ensures.sets round by

pub returns-clause-cover : goal.returns-clause-cover
returns-clause-cover g c =
    let few : length c.args.sets.now ≤ MAX_N = omega (arith, c.n-n.ensures.count, c.n-n.ensures.few) in
    let at : At = record { round = c.in_ok-end.end.round; bids = c.in_ok-end.end.bids; owners = c.in_ok-end.end.owners } in
    let cover : Cover = record { round = c.from_vec.result; by = c.from_vec-2.result } in
    is_cover c.args.sets.now c.n-n.ensures.sets few c.args.bids.now c.args.owners.now c.args.bid_seat.home c.args.owner_seat.home c.cover_rounds.new.packs c.cover_rounds.new.columns.round.items c.cover_rounds.new.columns.by.items at c.cover_rounds.new.buckets
    c.in_ok-end.ensures.covering c.in_ok-end.ensures.none_left cover
    c.from_vec.ensures
    c.from_vec-2.ensures

pub returns-clause-small : goal.returns-clause-small
returns-clause-small g c =
    let few : length c.args.sets.now ≤ MAX_N = omega (arith, c.n-n.ensures.count, c.n-n.ensures.few) in
    let at : At = record { round = c.in_ok-end.end.round; bids = c.in_ok-end.end.bids; owners = c.in_ok-end.end.owners } in
    let cover : Cover = record { round = c.from_vec.result; by = c.from_vec-2.result } in
    is_small c.args.sets.now c.n-n.ensures.sets few c.args.bids.now c.args.owners.now c.args.bid_seat.home c.args.owner_seat.home c.cover_rounds.new.packs c.cover_rounds.new.columns.round.items c.cover_rounds.new.columns.by.items at c.cover_rounds.new.buckets
    c.in_ok-end.ensures.covering c.in_ok-end.ensures.none_left cover
    c.from_vec.ensures
    c.from_vec-2.ensures

pub returns-clause-owners : goal.returns-clause-owners
returns-clause-owners g c =
    let few : length c.args.sets.now ≤ MAX_N = omega (arith, c.n-n.ensures.count, c.n-n.ensures.few) in
    let at : At = record { round = c.in_ok-end.end.round; bids = c.in_ok-end.end.bids; owners = c.in_ok-end.end.owners } in
    owner_words c.args.sets.now c.n-n.ensures.sets few c.args.bids.now c.args.owners.now c.args.bid_seat.home c.args.owner_seat.home c.cover_rounds.new.packs c.cover_rounds.new.columns.round.items c.cover_rounds.new.columns.by.items at c.cover_rounds.new.buckets
    c.in_ok-end.ensures.covering c.in_ok-end.ensures.none_left c.from_vec-2.result
    c.from_vec-2.ensures

pub returns-clause-bids : goal.returns-clause-bids
returns-clause-bids g c =
    let few : length c.args.sets.now ≤ MAX_N = omega (arith, c.n-n.ensures.count, c.n-n.ensures.few) in
    let at : At = record { round = c.in_ok-end.end.round; bids = c.in_ok-end.end.bids; owners = c.in_ok-end.end.owners } in
    last_bids c.args.sets.now c.n-n.ensures.sets few c.args.bids.now c.args.owners.now c.args.bid_seat.home c.args.owner_seat.home c.cover_rounds.new.packs c.cover_rounds.new.columns.round.items c.cover_rounds.new.columns.by.items at c.cover_rounds.new.buckets
    c.in_ok-end.ensures.covering c.in_ok-end.ensures.none_left

pub returns-clause-draws : goal.returns-clause-draws
returns-clause-draws g c =
    let few : length c.args.sets.now ≤ MAX_N = omega (arith, c.n-n.ensures.count, c.n-n.ensures.few) in
    let at : At = record { round = c.in_ok-end.end.round; bids = c.in_ok-end.end.bids; owners = c.in_ok-end.end.owners } in
    all_draws c.args.sets.now c.n-n.ensures.sets few c.args.bids.now c.args.owners.now c.args.bid_seat.home c.args.owner_seat.home c.cover_rounds.new.packs c.cover_rounds.new.columns.round.items c.cover_rounds.new.columns.by.items at c.cover_rounds.new.buckets
    c.in_ok-end.ensures.covering c.in_ok-end.ensures.none_left
