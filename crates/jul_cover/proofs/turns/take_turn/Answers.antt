use Rattle.std.proofs.Common.{◌*◌, ◌+◌, ◌^◌, leb, length, refl, subst}
use Rattle.jul_words.specs.Least.{word_of}
use Rattle.jul_cover.specs.PackedSets.{pack_at, HasPacked}
use Rattle.jul_cover.specs.CoverBids.{bid_base}
use Rattle.jul_cover.specs.Choosing.{held_by}
use Rattle.jul_cover.specs.CoverWork.{At}
use Rattle.jul_cover.proofs.MoveTurnLaws.{kept_rises, kept_in, drawn_few, can_move, moves_in, moves_ahead}
use Rattle.jul_cover.proofs.turns.take_turn.Goals as goal

pub choose-requires-clause-increasing : goal.choose-requires-clause-increasing
choose-requires-clause-increasing g c κs within =
    kept_rises (λ s. leb (2 ^ c.args.bucket) (length (pack_at c.pack_each.new.p s))) c.args.drawn.items c.as_slice-2.result.now c.in_ok-active.active.items
    c.requires.can.increasing c.as_slice-2.ensures.value c.in_ok-active.ensures

pub choose-requires-clause-in_range : goal.choose-requires-clause-in_range
choose-requires-clause-in_range g c κs within =
    kept_in (λ s. leb (2 ^ c.args.bucket) (length (pack_at c.pack_each.new.p s))) c.args.packs.now.n c.pack_each.new.p.n c.args.drawn.items c.as_slice-2.result.now c.in_ok-active.active.items
    c.requires.can.in_range c.as_slice-2.ensures.value c.in_ok-active.ensures c.pack_each.ensures.n

pub give-requires-clause-increasing : goal.give-requires-clause-increasing
give-requires-clause-increasing g c κs within =
    kept_rises (λ s. leb (2 ^ c.args.bucket) (2 * held_by (word_of c.in_ok-chosen.chosen.seat) (bid_base c.args.at.round + s) (pack_at c.pack_each.new.p s))) c.in_ok-active.active.items c.in_ok-active.active.items c.in_ok-chosen.chosen.sets.items
    (kept_rises (λ s. leb (2 ^ c.args.bucket) (length (pack_at c.pack_each.new.p s))) c.args.drawn.items c.as_slice-2.result.now c.in_ok-active.active.items
    c.requires.can.increasing c.as_slice-2.ensures.value c.in_ok-active.ensures) refl c.in_ok-chosen.ensures.chosen

pub give-requires-clause-in_range : goal.give-requires-clause-in_range
give-requires-clause-in_range g c κs within =
    kept_in (λ s. leb (2 ^ c.args.bucket) (2 * held_by (word_of c.in_ok-chosen.chosen.seat) (bid_base c.args.at.round + s) (pack_at c.pack_each.new.p s))) c.pack_each.new.p.n c.pack_each.new.p.n c.in_ok-active.active.items c.in_ok-active.active.items c.in_ok-chosen.chosen.sets.items
    (kept_in (λ s. leb (2 ^ c.args.bucket) (length (pack_at c.pack_each.new.p s))) c.args.packs.now.n c.pack_each.new.p.n c.args.drawn.items c.as_slice-2.result.now c.in_ok-active.active.items
    c.requires.can.in_range c.as_slice-2.ensures.value c.in_ok-active.ensures c.pack_each.ensures.n) refl c.in_ok-chosen.ensures.chosen refl

pub moves_after-requires-clause-few : goal.moves_after-requires-clause-few
moves_after-requires-clause-few g c κs within =
    drawn_few c.args.tables.now.bids.now c.args.tables.now.owners.now c.args.bucket c.args.drawn.items c.args.packs.now c.args.columns.now.round.items c.args.columns.now.by.items (let at : At = record { round = c.args.at.round; bids = c.args.at.bids; owners = c.args.at.owners } in at) c.args.buckets.now
    c.requires.can c.as_slice-4.result.now c.as_slice-4.ensures.value

pub moves_after-requires-clause-can : goal.moves_after-requires-clause-can
moves_after-requires-clause-can g c κs within =
    can_move c.args.tables.now.bids.now c.args.tables.now.owners.now c.args.bucket c.args.drawn.items c.args.packs.now c.args.columns.now.round.items c.args.columns.now.by.items (let at : At = record { round = c.args.at.round; bids = c.args.at.bids; owners = c.args.at.owners } in at) c.args.buckets.now
    c.requires.can c.as_slice-4.result.now c.as_slice-4.ensures.value c.pack_each.new.p (subst (λ l. HasPacked c.args.columns.now.by.items l c.args.packs.now c.pack_each.new.p) c.as_slice.ensures.value c.pack_each.ensures) c.give.new.columns.round.items

pub update_buckets-requires-clause-ids : goal.update_buckets-requires-clause-ids
update_buckets-requires-clause-ids g c =
    moves_in c.args.tables.now.bids.now c.args.tables.now.owners.now c.args.bucket c.args.drawn.items c.args.packs.now c.args.columns.now.round.items c.args.columns.now.by.items (let at : At = record { round = c.args.at.round; bids = c.args.at.bids; owners = c.args.at.owners } in at) c.args.buckets.now
    c.requires.can c.as_slice-4.result.now c.as_slice-4.ensures.value c.pack_each.new.p (subst (λ l. HasPacked c.args.columns.now.by.items l c.args.packs.now c.pack_each.new.p) c.as_slice.ensures.value c.pack_each.ensures) c.give.new.columns.round.items
    c.in_ok-moves.moves.items c.as_slice-5.result.now c.in_ok-moves.ensures c.as_slice-5.ensures.value

pub update_buckets-requires-clause-not_behind : goal.update_buckets-requires-clause-not_behind
update_buckets-requires-clause-not_behind g c =
    moves_ahead c.args.tables.now.bids.now c.args.tables.now.owners.now c.args.bucket c.args.drawn.items c.args.packs.now c.args.columns.now.round.items c.args.columns.now.by.items (let at : At = record { round = c.args.at.round; bids = c.args.at.bids; owners = c.args.at.owners } in at) c.args.buckets.now
    c.requires.can c.as_slice-4.result.now c.as_slice-4.ensures.value c.pack_each.new.p (subst (λ l. HasPacked c.args.columns.now.by.items l c.args.packs.now c.pack_each.new.p) c.as_slice.ensures.value c.pack_each.ensures) c.give.new.columns.round.items
    c.in_ok-moves.moves.items c.as_slice-5.result.now c.in_ok-moves.ensures c.as_slice-5.ensures.value
