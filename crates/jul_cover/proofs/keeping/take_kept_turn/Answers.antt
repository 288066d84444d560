use Rattle.std.proofs.Common.{◌≡◌, ◌≢◌, ℕ, ◌<◌, ◌++◌, List, length, arith, refl, subst, sym, ap, ◌∙◌}
use Rattle.std.specs.Prelude.{◌↔◌}
use Rattle.std.specs.List.{All, Contains}
use Rattle.std.proofs.lemmas.List.Elements.{All-append, All-contains}
use Rattle.jul_base.specs.declared.limits.TheConstants.{NONE}
use Rattle.jul_bucket.specs.Orders.{IsNotBehind}
use Rattle.jul_bucket.specs.Places.{ids_at, set_places}
use Rattle.jul_bucket.specs.States.{State, with_emptied}
use Rattle.jul_bucket.proofs.IdLaws.{Contains-ids_at, length-emptied}
use Rattle.jul_cover.specs.PackedSets.{pack_at, HasPacked}
use Rattle.jul_cover.specs.CoverBids.{bid_base}
use Rattle.jul_cover.specs.Choosing.{active_of}
use Rattle.jul_cover.specs.CoverWork.{At, next_round}
use Rattle.jul_cover.specs.Keeping.{is_winning, winning_of, holders_of, winners_of}
use Rattle.jul_cover.specs.KeptTurns.{AreRight, HasBid}
use Rattle.jul_cover.proofs.KeepingLaws.{same_members, packed_already, holders_in}
use Rattle.jul_cover.proofs.LeavingLaws.{leaving_all, same_places, right_written, still_right}
use Rattle.jul_cover.proofs.MoveTurnLaws.{kept_rises, kept_in, not_behind}
use Rattle.jul_cover.proofs.keeping.take_kept_turn.Goals as goal

pub touched_by-requires-clause-in_range : goal.touched_by-requires-clause-in_range
touched_by-requires-clause-in_range g c =
    kept_in (is_winning (pack_at c.args.packs.now) c.args.holders.now c.args.bucket) c.args.packs.now.n c.args.packs.now.n c.args.watched.candidates.items c.as_slice.result.now c.as_slice-3.result.now
    c.requires.in_range c.as_slice.ensures.value (c.as_slice-3.ensures.value ∙ c.in_ok-chosen.ensures) refl

pub ordered-requires-clause-in_range : goal.ordered-requires-clause-in_range
ordered-requires-clause-in_range g c =
    subst (All (λ s. s < c.args.packs.now.n)) (sym c.in_ok-holding.ensures)
    (holders_in c.args.packs.now c.requires.can.packed_well c.args.holders.now c.requires.within c.as_slice-3.result.now
    (kept_in (is_winning (pack_at c.args.packs.now) c.args.holders.now c.args.bucket) c.args.packs.now.n c.args.packs.now.n c.args.watched.candidates.items c.as_slice.result.now c.as_slice-3.result.now
    c.requires.in_range c.as_slice.ensures.value (c.as_slice-3.ensures.value ∙ c.in_ok-chosen.ensures) refl))

pub bid_for-requires-clause-in_range : goal.bid_for-requires-clause-in_range
bid_for-requires-clause-in_range g c κs within =
    kept_in (is_winning (pack_at c.args.packs.now) c.args.holders.now c.args.bucket) c.args.packs.now.n c.args.packs.now.n c.args.watched.candidates.items c.as_slice.result.now c.as_slice-4.result.now
    c.requires.in_range c.as_slice.ensures.value (c.as_slice-4.ensures.value ∙ c.in_ok-chosen.ensures) refl

pub give-requires-clause-increasing : goal.give-requires-clause-increasing
give-requires-clause-increasing g c κs within =
    kept_rises (is_winning (pack_at c.args.packs.now) c.args.holders.now c.args.bucket) c.args.watched.candidates.items c.as_slice.result.now c.in_ok-chosen.chosen.items
    c.requires.increasing c.as_slice.ensures.value c.in_ok-chosen.ensures

pub give-requires-clause-in_range : goal.give-requires-clause-in_range
give-requires-clause-in_range g c κs within =
    kept_in (is_winning (pack_at c.args.packs.now) c.args.holders.now c.args.bucket) c.args.packs.now.n c.args.packs.now.n c.args.watched.candidates.items c.as_slice.result.now c.in_ok-chosen.chosen.items
    c.requires.in_range c.as_slice.ensures.value c.in_ok-chosen.ensures refl

pub moves_from-requires-clause-in_range : goal.moves_from-requires-clause-in_range
moves_from-requires-clause-in_range g c =
    subst (All (λ s. s < c.args.packs.now.n)) (sym (c.as_slice-6.ensures.value ∙ c.in_ok-extend_from_slice.ensures.items ∙ ap (λ l. c.args.watched.changed.items ++ l) c.as_slice-5.ensures.value))
    (All-append (λ s. s < c.args.packs.now.n) c.args.watched.changed.items c.in_ok-chosen.chosen.items c.requires.changed_in
    (kept_in (is_winning (pack_at c.args.packs.now) c.args.holders.now c.args.bucket) c.args.packs.now.n c.args.packs.now.n c.args.watched.candidates.items c.as_slice.result.now c.in_ok-chosen.chosen.items
    c.requires.in_range c.as_slice.ensures.value c.in_ok-chosen.ensures refl))

pub update_buckets-requires-clause-ids : goal.update_buckets-requires-clause-ids
update_buckets-requires-clause-ids g c =
    let size : length c.args.buckets.now.places ≡ c.args.packs.now.n = sym (length-emptied c.args.buckets.now.places c.args.bucket) ∙ c.requires.can.places_size in
    let within : All (λ s. s < c.args.packs.now.n) c.as_slice-6.result.now =
    subst (All (λ s. s < c.args.packs.now.n)) (sym (c.as_slice-6.ensures.value ∙ c.in_ok-extend_from_slice.ensures.items ∙ ap (λ l. c.args.watched.changed.items ++ l) c.as_slice-5.ensures.value))
    (All-append (λ s. s < c.args.packs.now.n) c.args.watched.changed.items c.in_ok-chosen.chosen.items c.requires.changed_in
    (kept_in (is_winning (pack_at c.args.packs.now) c.args.holders.now c.args.bucket) c.args.packs.now.n c.args.packs.now.n c.args.watched.candidates.items c.as_slice.result.now c.in_ok-chosen.chosen.items
    c.requires.in_range c.as_slice.ensures.value c.in_ok-chosen.ensures refl)) in
    leaving_all (pack_at c.args.packs.now) c.give.new.columns.round.items c.args.buckets.now.places c.args.bucket (λ m. m.0 < length c.args.buckets.now.places) c.as_slice-6.result.now c.as_slice-7.result.now (c.as_slice-7.ensures.value ∙ c.in_ok-moves.ensures)
    (λ m there here goes. omega (arith, size, All-contains (λ s. s < c.args.packs.now.n) c.as_slice-6.result.now m.0 within there))

pub update_buckets-requires-clause-not_behind : goal.update_buckets-requires-clause-not_behind
update_buckets-requires-clause-not_behind g c =
    let size : length c.args.buckets.now.places ≡ c.args.packs.now.n = sym (length-emptied c.args.buckets.now.places c.args.bucket) ∙ c.requires.can.places_size in
    let within : All (λ s. s < c.args.packs.now.n) c.as_slice-6.result.now =
    subst (All (λ s. s < c.args.packs.now.n)) (sym (c.as_slice-6.ensures.value ∙ c.in_ok-extend_from_slice.ensures.items ∙ ap (λ l. c.args.watched.changed.items ++ l) c.as_slice-5.ensures.value))
    (All-append (λ s. s < c.args.packs.now.n) c.args.watched.changed.items c.in_ok-chosen.chosen.items c.requires.changed_in
    (kept_in (is_winning (pack_at c.args.packs.now) c.args.holders.now c.args.bucket) c.args.packs.now.n c.args.packs.now.n c.args.watched.candidates.items c.as_slice.result.now c.in_ok-chosen.chosen.items
    c.requires.in_range c.as_slice.ensures.value c.in_ok-chosen.ensures refl)) in
    let drawn = ids_at c.args.buckets.now.places c.args.bucket in
    leaving_all (pack_at c.args.packs.now) c.give.new.columns.round.items c.args.buckets.now.places c.args.bucket (λ m. m.1 ≢ NONE → IsNotBehind c.args.buckets.now.order m.1 c.args.buckets.now.front) c.as_slice-6.result.now c.as_slice-7.result.now (c.as_slice-7.ensures.value ∙ c.in_ok-moves.ensures)
    (λ m there here goes some.
    let lt : m.0 < length c.args.buckets.now.places = omega (arith, size, All-contains (λ s. s < c.args.packs.now.n) c.as_slice-6.result.now m.0 within there) in
    subst (λ y. IsNotBehind c.args.buckets.now.order y c.args.buckets.now.front) (sym goes)
    (not_behind c.args.tables.now.bids.now c.args.tables.now.owners.now c.args.bucket drawn c.args.packs.now c.args.columns.now.round.items c.args.columns.now.by.items (let at : At = record { round = c.args.at.round; bids = c.args.at.bids; owners = c.args.at.owners } in at) (with_emptied c.args.buckets.now c.args.bucket)
    c.requires.can drawn refl c.args.packs.now (packed_already c.args.columns.now.by.items c.args.packs.now c.requires.can.packed_well c.requires.open_sets drawn) c.give.new.columns.round.items
    m.0 (Contains-ids_at c.args.buckets.now.places c.args.bucket m.0 lt here) (λ none. some (goes ∙ none))))

pub returns-clause-kept : goal.returns-clause-kept
returns-clause-kept g c =
    let right : AreRight c.args.buckets.now.places c.args.bucket (pack_at c.args.packs.now) c.give.new.columns.round.items c.as_slice-6.result.now =
    right_written (pack_at c.args.packs.now) c.args.columns.now.round.items c.give.new.columns.round.items c.args.buckets.now.places c.args.bucket c.args.watched.changed.items c.in_ok-chosen.chosen.items c.as_slice-6.result.now (λ _. c.args.at.round)
    c.requires.right c.in_ok-owner_seat.ensures.round (c.as_slice-6.ensures.value ∙ c.in_ok-extend_from_slice.ensures.items ∙ ap (λ l. c.args.watched.changed.items ++ l) c.as_slice-5.ensures.value) in record {
      chosen = c.in_ok-chosen.chosen.items;
      chosen_are = c.in_ok-chosen.ensures ∙ ap (winning_of (pack_at c.args.packs.now) c.args.holders.now c.args.bucket) c.as_slice.ensures.value;
      bid =
          subst (λ (l : List ℕ). HasBid (pack_at c.args.packs.now) c.args.holders.now c.args.bucket l (bid_base c.args.at.round) c.args.at.bids c.in_ok-bid_seat.bid_seat) c.as_slice-4.ensures.value
          c.in_ok-bid_seat.ensures;
      given = record {
        owned = c.in_ok-owner_seat.ensures.offered;
        rounds = c.in_ok-owner_seat.ensures.round;
        by_are = c.in_ok-owner_seat.ensures.by;
        moved =
            let s : State = c.args.buckets.now in
            c.in_ok-update_buckets.ensures.ok
            ∙ ap (λ (l : List ℕ). let v : State = record s { places = l } in v)
            (ap (set_places c.args.buckets.now.places) (c.as_slice-7.ensures.value ∙ c.in_ok-moves.ensures) ∙ same_places (pack_at c.args.packs.now) c.give.new.columns.round.items c.args.buckets.now.places c.args.bucket c.as_slice-6.result.now right);
      };
      round_is = c.round_after-next.ensures ∙ ap (next_round c.args.at.round) c.as_slice-2.ensures.value;
      touched = c.in_ok-touched.touched.items;
      touched_are =
          same_members c.in_ok-touched.touched.items c.in_ok-holding.holding.items (holders_of (pack_at c.args.packs.now) c.args.holders.now c.in_ok-chosen.chosen.items) c.in_ok-touched.ensures.same
          (c.in_ok-holding.ensures ∙ ap (holders_of (pack_at c.args.packs.now) c.args.holders.now) c.as_slice-3.ensures.value);
      packed = subst (λ (l : List ℕ). HasPacked c.give.new.columns.by.items l c.args.packs.now c.renewed.new.packs) c.as_slice-8.ensures.value c.in_ok-candidates.ensures.packed;
      next_are =
          subst (λ (l : List ℕ). (x : ℕ) → Contains c.in_ok-candidates.candidates.items x
          ↔ Contains (winners_of (pack_at c.renewed.new.packs) c.args.holders.now c.args.bucket (active_of (pack_at c.args.packs.now) c.args.bucket l)) x) c.as_slice-8.ensures.value c.in_ok-candidates.ensures.winners;
    }

pub returns-clause-right : goal.returns-clause-right
returns-clause-right g c =
    let right : AreRight c.args.buckets.now.places c.args.bucket (pack_at c.args.packs.now) c.give.new.columns.round.items c.as_slice-6.result.now =
    right_written (pack_at c.args.packs.now) c.args.columns.now.round.items c.give.new.columns.round.items c.args.buckets.now.places c.args.bucket c.args.watched.changed.items c.in_ok-chosen.chosen.items c.as_slice-6.result.now (λ _. c.args.at.round)
    c.requires.right c.in_ok-owner_seat.ensures.round (c.as_slice-6.ensures.value ∙ c.in_ok-extend_from_slice.ensures.items ∙ ap (λ l. c.args.watched.changed.items ++ l) c.as_slice-5.ensures.value) in
    still_right c.args.packs.now c.renewed.new.packs c.give.new.columns.by.items c.give.new.columns.round.items c.args.buckets.now.places c.update_buckets.new.self.places c.in_ok-touched.touched.items c.args.bucket
    (ap (λ (s : State). s.places) c.in_ok-update_buckets.ensures.ok ∙ ap (set_places c.args.buckets.now.places) (c.as_slice-7.ensures.value ∙ c.in_ok-moves.ensures) ∙ same_places (pack_at c.args.packs.now) c.give.new.columns.round.items c.args.buckets.now.places c.args.bucket c.as_slice-6.result.now right)
    (sym (length-emptied c.args.buckets.now.places c.args.bucket) ∙ c.requires.can.places_size)
    (subst (λ (l : List ℕ). HasPacked c.give.new.columns.by.items l c.args.packs.now c.renewed.new.packs) c.as_slice-8.ensures.value c.in_ok-candidates.ensures.packed)
