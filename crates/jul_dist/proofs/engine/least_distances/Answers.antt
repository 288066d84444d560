use Rattle.std.proofs.Common.{◌≡◌, refl, ◌∙◌, ap, arith}
use Rattle.jul_base.specs.declared.limits.TheConstants.{MAX_N}
use Rattle.jul_base.specs.Graph.{vertices}
use Rattle.jul_base.specs.Sources.{first_numbers}
use Rattle.jul_base.specs.DistanceList.{distance_list}
use Rattle.jul_base.proofs.ListLaws.{written}
use Rattle.jul_words.specs.Seats.{home}
use Rattle.jul_bucket.specs.States.{State}
use Rattle.jul_dist.proofs.StartLaws.{first_few, first_above, begun, found}
use Rattle.jul_dist.proofs.engine.least_distances.Goals as goal

pub open-requires-clause-count : goal.open-requires-clause-count
open-requires-clause-count g c = first_few c.n.result MAX_N c.args.sources.now c.as_slice.result.now (c.as_slice.ensures.value ∙ c.in_ok-start.ensures) c.n.ensures.few

pub open-requires-clause-floors : goal.open-requires-clause-floors
open-requires-clause-floors g c =
    first_above c.args.rows.now c.n.ensures.lawful c.args.sources.now c.requires.sources c.n.result c.as_slice.result.now (c.as_slice.ensures.value ∙ c.in_ok-start.ensures) c.n.ensures.count

pub make-requires-clause-few : goal.make-requires-clause-few
make-requires-clause-few g c = first_few c.n.result MAX_N c.args.sources.now c.as_slice-2.result.now (c.as_slice-2.ensures.value ∙ c.in_ok-start.ensures) c.n.ensures.few

pub search-requires-clause-searching : goal.search-requires-clause-searching
search-requires-clause-searching g c κs within =
    let first : c.in_ok-start.start.items ≡ first_numbers (vertices c.args.rows.now) c.args.sources.now = c.in_ok-start.ensures ∙ ap (λ n. first_numbers n c.args.sources.now) c.n.ensures.count in
    begun c.args.rows.now c.n.ensures.lawful c.args.sources.now c.requires.sources c.args.delta c.requires.delta c.in_ok-words.words c.as_mut_slice.result.now
    c.in_ok-words.seat c.in_ok-buckets.buckets
    (home c.in_ok-words.words c.as_slice.result.now (distance_list c.args.rows.now c.args.sources.now))
    (ap (λ (s : State). s.order) c.in_ok-buckets.ensures.made.is)
    (c.as_mut_slice.ensures.value ∙ first) refl (c.as_slice.ensures.value ∙ first) refl c.in_ok-words.ensures.root
    (ap (λ (s : State). s.places) c.in_ok-buckets.ensures.made.is ∙ c.as_slice-2.ensures.value ∙ first)
    (ap (λ (s : State). s.draws) c.in_ok-buckets.ensures.made.is)

pub returns : goal.returns
returns g c =
    let is : c.from_vec.result ≡ c.search.new.values =
    c.from_vec.ensures ∙ written c.search.new.values c.in_ok-start.start.items c.in_ok-start.start.len (omega (arith, c.search.auto.values, c.as_mut_slice.ensures.len)) in
    found c.args.rows.now c.n.ensures.lawful c.args.sources.now c.requires.sources c.args.delta c.requires.delta c.in_ok-words.words c.in_ok-words.seat.home
    c.search.new.values c.from_vec.result
    c.in_ok-search.field-0 c.search.new.buckets c.in_ok-search.ensures.searching c.in_ok-search.ensures.none_left is
