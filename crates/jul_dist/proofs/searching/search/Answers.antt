use Rattle.std.proofs.Common.{◌*◌, ◌≤◌, arith}
use Rattle.jul_dist.specs.declared.limits.TheConstants.{MAX_SUM}
use Rattle.jul_dist.proofs.SearchLaws.{small, drawn_at, from_in, from_few, ahead_at, floors_at, can_go_at, fewer_at, next_at}
use Rattle.jul_dist.proofs.searching.search.Goals as goal

pub reach_of-reach-requires-clause-few : goal.reach_of-reach-requires-clause-few
reach_of-reach-requires-clause-few g c =
    from_few c.args.rows.now c.n.ensures.lawful c.args.sources.now c.requires.sources c.args.delta c.requires.delta c.args.words.now c.args.seat.home
    c.rounds.values c.rounds.seat c.rounds.buckets c.rounds.invariant c.in-Some.bucket c.in-Some.ids.items c.next_bucket.new.self
    (drawn_at c.rounds.buckets c.next_bucket.new.self c.in_ok-bucket.field-0 c.in-Some.bucket c.in-Some.ids c.in-Some.is c.in_ok-bucket.ensures.drawn)
    c.as_slice-from.result.now c.as_slice-from.ensures.value

pub reach_of-reach-requires-clause-vertices : goal.reach_of-reach-requires-clause-vertices
reach_of-reach-requires-clause-vertices g c =
    (from_in c.args.rows.now c.n.ensures.lawful c.args.sources.now c.requires.sources c.args.delta c.requires.delta c.args.words.now c.args.seat.home
    c.rounds.values c.rounds.seat c.rounds.buckets c.rounds.invariant c.in-Some.bucket c.in-Some.ids.items c.next_bucket.new.self
    (drawn_at c.rounds.buckets c.next_bucket.new.self c.in_ok-bucket.field-0 c.in-Some.bucket c.in-Some.ids c.in-Some.is c.in_ok-bucket.ensures.drawn)
    c.as_slice-from.result.now c.as_slice-from.ensures.value).within

pub overflow_mul-bucket : goal.overflow_mul-bucket
overflow_mul-bucket g c =
    let most : c.in-Some.bucket * c.args.delta ≤ MAX_SUM =
    small c.args.rows.now c.n.ensures.lawful c.args.sources.now c.requires.sources c.args.delta c.requires.delta c.args.words.now c.args.seat.home
    c.rounds.values c.rounds.seat c.rounds.buckets c.rounds.invariant c.in-Some.bucket c.in-Some.ids.items c.next_bucket.new.self
    (drawn_at c.rounds.buckets c.next_bucket.new.self c.in_ok-bucket.field-0 c.in-Some.bucket c.in-Some.ids c.in-Some.is c.in_ok-bucket.ensures.drawn) in
    omega (arith, most)

pub relax_round-requires-clause-from : goal.relax_round-requires-clause-from
relax_round-requires-clause-from g c κs within =
    from_in c.args.rows.now c.n.ensures.lawful c.args.sources.now c.requires.sources c.args.delta c.requires.delta c.args.words.now c.args.seat.home
    c.rounds.values c.rounds.seat c.rounds.buckets c.rounds.invariant c.in-Some.bucket c.in-Some.ids.items c.next_bucket.new.self
    (drawn_at c.rounds.buckets c.next_bucket.new.self c.in_ok-bucket.field-0 c.in-Some.bucket c.in-Some.ids c.in-Some.is c.in_ok-bucket.ensures.drawn)
    c.as_slice-from.result.now c.as_slice-from.ensures.value

pub relax_round-requires-clause-least : goal.relax_round-requires-clause-least
relax_round-requires-clause-least g c κs within =
    ahead_at c.args.rows.now c.n.ensures.lawful c.args.sources.now c.requires.sources c.args.delta c.requires.delta c.args.words.now c.args.seat.home
    c.rounds.values c.rounds.seat c.rounds.buckets c.rounds.invariant c.in-Some.bucket c.in-Some.ids.items c.next_bucket.new.self
    (drawn_at c.rounds.buckets c.next_bucket.new.self c.in_ok-bucket.field-0 c.in-Some.bucket c.in-Some.ids c.in-Some.is c.in_ok-bucket.ensures.drawn)
    c.as_slice-from.result.now c.as_slice-from.ensures.value

pub relax_round-requires-clause-floors : goal.relax_round-requires-clause-floors
relax_round-requires-clause-floors g c κs within =
    floors_at c.args.rows.now c.n.ensures.lawful c.args.sources.now c.requires.sources c.args.delta c.requires.delta c.args.words.now c.args.seat.home
    c.rounds.values c.rounds.seat c.rounds.buckets c.rounds.invariant c.in-Some.bucket c.in-Some.ids.items c.next_bucket.new.self
    (drawn_at c.rounds.buckets c.next_bucket.new.self c.in_ok-bucket.field-0 c.in-Some.bucket c.in-Some.ids c.in-Some.is c.in_ok-bucket.ensures.drawn)
    c.as_slice-from.result.now c.as_slice-from.ensures.value

pub move_all-requires-clause-can_go : goal.move_all-requires-clause-can_go
move_all-requires-clause-can_go g c =
    can_go_at c.args.rows.now c.n.ensures.lawful c.args.sources.now c.requires.sources c.args.delta c.requires.delta c.args.words.now c.args.seat.home
    c.rounds.values c.rounds.seat c.rounds.buckets c.rounds.invariant c.in-Some.bucket c.in-Some.ids.items c.next_bucket.new.self
    (drawn_at c.rounds.buckets c.next_bucket.new.self c.in_ok-bucket.field-0 c.in-Some.bucket c.in-Some.ids c.in-Some.is c.in_ok-bucket.ensures.drawn)
    c.as_slice-from.result.now c.as_slice-from.ensures.value
    c.in_ok-seat.seat c.take_words.new.seat c.relax_round.new.lowered.items c.in_ok-seat.ensures.relaxed c.in_ok-take_words.ensures.same
    c.as_slice.result.now c.take_words.new.values c.take_words.new.fell.items c.as_slice-in-rounds.result.now c.as_slice.ensures.value c.in_ok-take_words.ensures.taken c.as_slice-in-rounds.ensures.value

pub rounds-smaller : goal.rounds-smaller
rounds-smaller g c =
    fewer_at c.args.rows.now c.n.ensures.lawful c.args.sources.now c.requires.sources c.args.delta c.requires.delta c.args.words.now c.args.seat.home
    c.rounds.values c.rounds.seat c.rounds.buckets c.rounds.invariant c.in-Some.bucket c.in-Some.ids.items c.next_bucket.new.self
    (drawn_at c.rounds.buckets c.next_bucket.new.self c.in_ok-bucket.field-0 c.in-Some.bucket c.in-Some.ids c.in-Some.is c.in_ok-bucket.ensures.drawn)
    c.as_slice-from.result.now c.as_slice-from.ensures.value
    c.in_ok-seat.seat c.take_words.new.seat c.relax_round.new.lowered.items c.in_ok-seat.ensures.relaxed c.in_ok-take_words.ensures.same
    c.as_slice.result.now c.take_words.new.values c.take_words.new.fell.items c.as_slice-in-rounds.result.now c.as_slice.ensures.value c.in_ok-take_words.ensures.taken c.as_slice-in-rounds.ensures.value
    c.move_all.new.buckets c.in_ok-move_all.ensures

pub rounds-preserved : goal.rounds-preserved
rounds-preserved g c =
    next_at c.args.rows.now c.n.ensures.lawful c.args.sources.now c.requires.sources c.args.delta c.requires.delta c.args.words.now c.args.seat.home
    c.rounds.values c.rounds.seat c.rounds.buckets c.rounds.invariant c.in-Some.bucket c.in-Some.ids.items c.next_bucket.new.self
    (drawn_at c.rounds.buckets c.next_bucket.new.self c.in_ok-bucket.field-0 c.in-Some.bucket c.in-Some.ids c.in-Some.is c.in_ok-bucket.ensures.drawn)
    c.as_slice-from.result.now c.as_slice-from.ensures.value
    c.in_ok-seat.seat c.take_words.new.seat c.relax_round.new.lowered.items c.in_ok-seat.ensures.relaxed c.in_ok-take_words.ensures.same
    c.as_slice.result.now c.take_words.new.values c.take_words.new.fell.items c.as_slice-in-rounds.result.now c.as_slice.ensures.value c.in_ok-take_words.ensures.taken c.as_slice-in-rounds.ensures.value
    c.move_all.new.buckets c.in_ok-move_all.ensures
