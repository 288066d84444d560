use Rattle.std.proofs.Common.{◌≡◌, ◌≤◌, ◌∙◌, length, arith, ap, sym, subst}
use Rattle.jul_base.specs.declared.limits.TheConstants.{MAX_N}
use Rattle.jul_base.specs.Numbers.{below}
use Rattle.jul_bucket.specs.States.{IsDrawnInPlace}
use Rattle.jul_cover.specs.PackedSets.{pack_at}
use Rattle.jul_cover.specs.CoverWork.{At}
use Rattle.jul_cover.specs.Keeping.{AreWithin}
use Rattle.jul_cover.specs.KeptTurns.{IsKeeping}
use Rattle.jul_cover.proofs.KeptDrawLaws.{held_can, held_rises, held_in, held_right, held_covering, held_fewer, held_keeping}
use Rattle.jul_cover.proofs.KeptTurnLaws.{all_open, repacked_covering, keeping_first, every_in, every_rises}
use Rattle.jul_cover.proofs.LeavingLaws.{all_right, held_at}
use Rattle.jul_cover.proofs.kept_rounds.kept_rounds.Goals as goal

pub pack_each-requires-clause-in_range : goal.pack_each-requires-clause-in_range
pack_each-requires-clause-in_range g c =
    every_in c.n-2.result c.args.packs.now.n c.as_slice.result.now (c.as_slice.ensures.value ∙ c.in_ok-every.ensures) (omega (arith, c.requires.covering.n, c.n-2.ensures.count))

pub rounds-init : goal.rounds-init
rounds-init g c =
    let few : length c.args.sets.now ≤ MAX_N = omega (arith, c.n.ensures.count, c.n.ensures.few) in
    let at : At = record { round = c.args.at.round; bids = c.args.at.bids; owners = c.args.at.owners } in
    let count : c.pack_each.new.p.n ≡ c.n-2.result = omega (arith, c.pack_each.ensures.n, c.requires.covering.n, c.n-2.ensures.count) in (
      repacked_covering c.args.sets.now c.n.ensures.sets few c.args.tables.now.bids.now c.args.tables.now.owners.now c.args.at.bids.home c.args.at.owners.home c.args.packs.now c.args.columns.now.round.items c.args.columns.now.by.items at c.args.buckets.now
          c.requires.covering c.as_slice.result.now c.pack_each.new.p c.pack_each.ensures,
      c.requires.marks,
      subst (IsKeeping c.args.sets.now c.args.at.round 0 c.pack_each.new.p) (c.as_slice.ensures.value ∙ sym c.in_ok-watched.ensures.candidates)
          (keeping_first c.args.sets.now c.n.ensures.sets few c.args.tables.now.bids.now c.args.tables.now.owners.now c.args.at.bids.home c.args.at.owners.home c.args.packs.now c.args.columns.now.round.items c.args.columns.now.by.items at c.args.buckets.now
          c.requires.covering 0 c.as_slice.result.now (c.as_slice.ensures.value ∙ c.in_ok-every.ensures ∙ ap below c.n-2.ensures.count) c.pack_each.new.p c.pack_each.ensures),
      every_in c.n-2.result c.pack_each.new.p.n c.in_ok-watched.watched.candidates.items (c.in_ok-watched.ensures.candidates ∙ c.in_ok-every.ensures) count,
      every_rises c.n-2.result c.in_ok-watched.watched.candidates.items (c.in_ok-watched.ensures.candidates ∙ c.in_ok-every.ensures),
      all_right (pack_at c.pack_each.new.p) c.args.columns.now.round.items c.args.buckets.now.places 0 c.in_ok-watched.watched.changed.items (c.in_ok-watched.ensures.changed ∙ c.in_ok-every.ensures ∙ ap below (c.n-2.ensures.count ∙ sym c.requires.covering.places_size)),
      every_in c.n-2.result c.pack_each.new.p.n c.in_ok-watched.watched.changed.items (c.in_ok-watched.ensures.changed ∙ c.in_ok-every.ensures) count,
    )

pub take_kept_turn-requires-clause-can : goal.take_kept_turn-requires-clause-can
take_kept_turn-requires-clause-can g c κs within =
    let few : length c.args.sets.now ≤ MAX_N = omega (arith, c.n.ensures.count, c.n.ensures.few) in
    let at : At = record { round = c.rounds.at.round; bids = c.rounds.at.bids; owners = c.rounds.at.owners } in
    let held : IsDrawnInPlace c.rounds.buckets c.in-Some.bucket c.next_bucket_in_place.new.self =
    held_at c.rounds.buckets c.next_bucket_in_place.new.self c.in_ok-bucket.field-0 c.in-Some.bucket c.in-Some.is c.in_ok-bucket.ensures.drawn in
    held_can c.args.sets.now c.n.ensures.sets few c.args.tables.now.bids.now c.args.tables.now.owners.now c.args.at.bids.home c.args.at.owners.home c.rounds.packs c.rounds.columns.round.items c.rounds.columns.by.items at c.rounds.buckets c.rounds.invariant.0
    c.in-Some.bucket c.next_bucket_in_place.new.self held

pub take_kept_turn-requires-clause-open_sets : goal.take_kept_turn-requires-clause-open_sets
take_kept_turn-requires-clause-open_sets g c κs within =
    let few : length c.args.sets.now ≤ MAX_N = omega (arith, c.n.ensures.count, c.n.ensures.few) in
    let at : At = record { round = c.rounds.at.round; bids = c.rounds.at.bids; owners = c.rounds.at.owners } in
    all_open c.args.sets.now c.n.ensures.sets few c.args.tables.now.bids.now c.args.tables.now.owners.now c.args.at.bids.home c.args.at.owners.home c.rounds.packs c.rounds.columns.round.items c.rounds.columns.by.items at c.rounds.buckets c.rounds.invariant.0
    c.args.holders.now c.requires.holders c.rounds.last c.rounds.watched.candidates.items c.rounds.invariant.2

pub take_kept_turn-requires-clause-within : goal.take_kept_turn-requires-clause-within
take_kept_turn-requires-clause-within g c κs within =
    subst (λ k. AreWithin k c.args.holders.now) (sym c.rounds.invariant.0.n) c.requires.holders.within

pub take_kept_turn-requires-clause-increasing : goal.take_kept_turn-requires-clause-increasing
take_kept_turn-requires-clause-increasing g c κs within =
    let few : length c.args.sets.now ≤ MAX_N = omega (arith, c.n.ensures.count, c.n.ensures.few) in
    let at : At = record { round = c.rounds.at.round; bids = c.rounds.at.bids; owners = c.rounds.at.owners } in
    let held : IsDrawnInPlace c.rounds.buckets c.in-Some.bucket c.next_bucket_in_place.new.self =
    held_at c.rounds.buckets c.next_bucket_in_place.new.self c.in_ok-bucket.field-0 c.in-Some.bucket c.in-Some.is c.in_ok-bucket.ensures.drawn in
    held_rises c.args.sets.now c.n.ensures.sets few c.args.tables.now.bids.now c.args.tables.now.owners.now c.args.at.bids.home c.args.at.owners.home c.rounds.packs c.rounds.columns.round.items c.rounds.columns.by.items at c.rounds.buckets c.rounds.invariant.0
    c.in-Some.bucket c.next_bucket_in_place.new.self held c.rounds.last c.rounds.watched.candidates.items c.in_ok-now.now.candidates.items c.in_ok-now.ensures.candidates c.rounds.invariant.4

pub take_kept_turn-requires-clause-in_range : goal.take_kept_turn-requires-clause-in_range
take_kept_turn-requires-clause-in_range g c κs within =
    let few : length c.args.sets.now ≤ MAX_N = omega (arith, c.n.ensures.count, c.n.ensures.few) in
    let at : At = record { round = c.rounds.at.round; bids = c.rounds.at.bids; owners = c.rounds.at.owners } in
    let held : IsDrawnInPlace c.rounds.buckets c.in-Some.bucket c.next_bucket_in_place.new.self =
    held_at c.rounds.buckets c.next_bucket_in_place.new.self c.in_ok-bucket.field-0 c.in-Some.bucket c.in-Some.is c.in_ok-bucket.ensures.drawn in
    held_in c.args.sets.now c.n.ensures.sets few c.args.tables.now.bids.now c.args.tables.now.owners.now c.args.at.bids.home c.args.at.owners.home c.rounds.packs c.rounds.columns.round.items c.rounds.columns.by.items at c.rounds.buckets c.rounds.invariant.0
    c.in-Some.bucket c.next_bucket_in_place.new.self held c.rounds.last c.rounds.watched.candidates.items c.in_ok-now.now.candidates.items c.in_ok-now.ensures.candidates c.rounds.invariant.3

pub take_kept_turn-requires-clause-changed_in : goal.take_kept_turn-requires-clause-changed_in
take_kept_turn-requires-clause-changed_in g c κs within =
    let few : length c.args.sets.now ≤ MAX_N = omega (arith, c.n.ensures.count, c.n.ensures.few) in
    let at : At = record { round = c.rounds.at.round; bids = c.rounds.at.bids; owners = c.rounds.at.owners } in
    let held : IsDrawnInPlace c.rounds.buckets c.in-Some.bucket c.next_bucket_in_place.new.self =
    held_at c.rounds.buckets c.next_bucket_in_place.new.self c.in_ok-bucket.field-0 c.in-Some.bucket c.in-Some.is c.in_ok-bucket.ensures.drawn in
    held_in c.args.sets.now c.n.ensures.sets few c.args.tables.now.bids.now c.args.tables.now.owners.now c.args.at.bids.home c.args.at.owners.home c.rounds.packs c.rounds.columns.round.items c.rounds.columns.by.items at c.rounds.buckets c.rounds.invariant.0
    c.in-Some.bucket c.next_bucket_in_place.new.self held c.rounds.last c.rounds.watched.changed.items c.in_ok-now.now.changed.items c.in_ok-now.ensures.changed c.rounds.invariant.6

pub take_kept_turn-requires-clause-right : goal.take_kept_turn-requires-clause-right
take_kept_turn-requires-clause-right g c κs within =
    let few : length c.args.sets.now ≤ MAX_N = omega (arith, c.n.ensures.count, c.n.ensures.few) in
    let at : At = record { round = c.rounds.at.round; bids = c.rounds.at.bids; owners = c.rounds.at.owners } in
    let held : IsDrawnInPlace c.rounds.buckets c.in-Some.bucket c.next_bucket_in_place.new.self =
    held_at c.rounds.buckets c.next_bucket_in_place.new.self c.in_ok-bucket.field-0 c.in-Some.bucket c.in-Some.is c.in_ok-bucket.ensures.drawn in
    held_right c.args.sets.now c.n.ensures.sets few c.args.tables.now.bids.now c.args.tables.now.owners.now c.args.at.bids.home c.args.at.owners.home c.rounds.packs c.rounds.columns.round.items c.rounds.columns.by.items at c.rounds.buckets c.rounds.invariant.0
    c.in-Some.bucket c.next_bucket_in_place.new.self held c.rounds.last c.rounds.watched.changed.items c.in_ok-now.now.changed.items c.in_ok-now.ensures.changed c.rounds.invariant.5

pub rounds-smaller : goal.rounds-smaller
rounds-smaller g c =
    let few : length c.args.sets.now ≤ MAX_N = omega (arith, c.n.ensures.count, c.n.ensures.few) in
    let at : At = record { round = c.rounds.at.round; bids = c.rounds.at.bids; owners = c.rounds.at.owners } in
    let held : IsDrawnInPlace c.rounds.buckets c.in-Some.bucket c.next_bucket_in_place.new.self =
    held_at c.rounds.buckets c.next_bucket_in_place.new.self c.in_ok-bucket.field-0 c.in-Some.bucket c.in-Some.is c.in_ok-bucket.ensures.drawn in
    let after : At = record { round = c.in_ok-kept.kept.at.round; bids = c.in_ok-kept.kept.at.bids; owners = c.in_ok-kept.kept.at.owners } in
    held_fewer c.args.sets.now c.n.ensures.sets few c.args.tables.now.bids.now c.args.tables.now.owners.now c.args.at.bids.home c.args.at.owners.home c.rounds.packs c.rounds.columns.round.items c.rounds.columns.by.items at c.rounds.buckets c.rounds.invariant.0
    c.in-Some.bucket c.next_bucket_in_place.new.self held c.rounds.last c.rounds.watched.candidates.items c.in_ok-now.now.candidates.items c.in_ok-now.ensures.candidates
    c.rounds.invariant.3 c.args.holders.now c.requires.holders c.rounds.invariant.2
    c.take_kept_turn.new.packs c.take_kept_turn.new.columns.round.items c.take_kept_turn.new.columns.by.items after c.take_kept_turn.new.buckets c.in_ok-kept.kept.watched.candidates.items c.in_ok-kept.ensures.kept

pub rounds-preserved : goal.rounds-preserved
rounds-preserved g c =
    let few : length c.args.sets.now ≤ MAX_N = omega (arith, c.n.ensures.count, c.n.ensures.few) in
    let at : At = record { round = c.rounds.at.round; bids = c.rounds.at.bids; owners = c.rounds.at.owners } in
    let held : IsDrawnInPlace c.rounds.buckets c.in-Some.bucket c.next_bucket_in_place.new.self =
    held_at c.rounds.buckets c.next_bucket_in_place.new.self c.in_ok-bucket.field-0 c.in-Some.bucket c.in-Some.is c.in_ok-bucket.ensures.drawn in
    let after : At = record { round = c.in_ok-kept.kept.at.round; bids = c.in_ok-kept.kept.at.bids; owners = c.in_ok-kept.kept.at.owners } in (
      held_covering c.args.sets.now c.n.ensures.sets few c.args.tables.now.bids.now c.args.tables.now.owners.now c.args.at.bids.home c.args.at.owners.home c.rounds.packs c.rounds.columns.round.items c.rounds.columns.by.items at c.rounds.buckets c.rounds.invariant.0
          c.in-Some.bucket c.next_bucket_in_place.new.self held c.rounds.last c.rounds.watched.candidates.items c.in_ok-now.now.candidates.items c.in_ok-now.ensures.candidates
          c.rounds.invariant.3 c.args.holders.now c.requires.holders c.rounds.invariant.2
          c.take_kept_turn.new.packs c.take_kept_turn.new.columns.round.items c.take_kept_turn.new.columns.by.items after c.take_kept_turn.new.buckets c.in_ok-kept.kept.watched.candidates.items c.in_ok-kept.ensures.kept,
      c.in_ok-kept.ensures.marks,
      held_keeping c.args.sets.now c.n.ensures.sets few c.args.tables.now.bids.now c.args.tables.now.owners.now c.args.at.bids.home c.args.at.owners.home c.rounds.packs c.rounds.columns.round.items c.rounds.columns.by.items at c.rounds.buckets c.rounds.invariant.0
          c.in-Some.bucket c.next_bucket_in_place.new.self held c.rounds.last c.rounds.watched.candidates.items c.in_ok-now.now.candidates.items c.in_ok-now.ensures.candidates
          c.rounds.invariant.3 c.args.holders.now c.requires.holders c.rounds.invariant.2
          c.take_kept_turn.new.packs c.take_kept_turn.new.columns.round.items c.take_kept_turn.new.columns.by.items after c.take_kept_turn.new.buckets c.in_ok-kept.kept.watched.candidates.items c.in_ok-kept.ensures.kept,
      c.in_ok-kept.ensures.in_range,
      c.in_ok-kept.ensures.increasing,
      c.in_ok-kept.ensures.right,
      c.in_ok-kept.ensures.changed_in,
    )
