use Rattle.std.proofs.Common.{◌≡◌, refl, ◌∙◌, ap, arith, length}
use Rattle.jul_base.specs.Graph.{vertices}
use Rattle.jul_base.specs.Sources.{first_numbers}
use Rattle.jul_base.specs.DistanceList.{distance_list}
use Rattle.jul_words.specs.Seats.{home}
use Rattle.jul_base.proofs.ListLaws.{written}
use Rattle.jul_dist.proofs.StartLaws.{begun, found, found_drawn, stamps_any}
use Rattle.jul_dist.proofs.engine.distances.Goals as goal

pub search-requires-clause-searching : goal.search-requires-clause-searching
search-requires-clause-searching g c κs within =
    begun c.args.rows.now c.n.ensures.lawful c.args.sources.now c.requires.sources c.args.delta c.requires.delta c.args.words.now c.as_mut_slice.result.now c.args.seat c.args.buckets.now
    (home c.args.words.now (first_numbers (vertices c.args.rows.now) c.args.sources.now) (distance_list c.args.rows.now c.args.sources.now))
    c.requires.order
    (c.as_mut_slice.ensures.value ∙ c.in_ok-values.ensures ∙ ap (λ n. first_numbers n c.args.sources.now) c.n.ensures.count) refl refl refl c.requires.words c.requires.places c.requires.no_draws

pub returns-clause-dist : goal.returns-clause-dist
returns-clause-dist g c =
    let is : c.from_vec.result ≡ c.search.new.values =
    c.from_vec.ensures ∙ written c.search.new.values c.in_ok-values.values.items c.in_ok-values.values.len (omega (arith, c.search.auto.values, c.as_mut_slice.ensures.len)) in
    found c.args.rows.now c.n.ensures.lawful c.args.sources.now c.requires.sources c.args.delta c.requires.delta c.args.words.now c.args.seat.home c.search.new.values c.from_vec.result
    c.in_ok-seat.seat c.search.new.buckets c.in_ok-seat.ensures.searching c.in_ok-seat.ensures.none_left is

pub returns-clause-drawn : goal.returns-clause-drawn
returns-clause-drawn g c =
    let is : c.from_vec.result ≡ c.search.new.values =
    c.from_vec.ensures ∙ written c.search.new.values c.in_ok-values.values.items c.in_ok-values.values.len (omega (arith, c.search.auto.values, c.as_mut_slice.ensures.len)) in
    found_drawn c.args.rows.now c.args.sources.now c.args.delta c.args.words.now c.args.seat.home c.search.new.values c.from_vec.result
    c.in_ok-seat.seat c.search.new.buckets c.in_ok-seat.ensures.searching c.in_ok-seat.ensures.none_left is

pub returns-clause-stamps : goal.returns-clause-stamps
returns-clause-stamps g c = λ round later. stamps_any (vertices c.args.rows.now) c.args.stamps.now c.args.stamp_seat (length c.search.new.buckets.draws) round c.requires.stamps later
