use Rattle.std.proofs.Common.{ℕ, ◌+◌, ◌<◌, ◌∙◌, List, take, get_or, refl, sym, subst, arith, length}
use Rattle.jul_words.specs.Least.{word_of}
use Rattle.jul_words.specs.Seats.{Seat}
use Rattle.jul_cover.specs.Columns.{AreWritten}
use Rattle.jul_cover.specs.PackedSets.{pack_at}
use Rattle.jul_cover.proofs.ColumnLaws.{written_more, written_list}
use Rattle.jul_cover.proofs.taking.take_chosen.Goals as goal

pub loop-s-preserved : goal.loop-s-preserved
loop-s-preserved c =
    let in_range : get_or c.args.chosen.now c.loop-s.s-index 0 < length c.args.columns.now.round.items = omega (arith, c.requires.in_range c.loop-s.s-index 0 c.loop-s-test.true, c.requires.round) in (
      c.take_words.ensures.same ∙ c.loop-s.invariant.0,
      subst (λ (l : List ℕ). AreWritten (take (c.loop-s.s-index + 1) c.args.chosen.now) (λ (x : ℕ). c.args.t) c.args.columns.now.round.items l) (sym c.take_words.ensures.round)
          (written_more (λ (x : ℕ). c.args.t) c.args.chosen.now c.args.columns.now.round.items c.loop-s.columns.round.items c.loop-s.s-index c.args.t c.loop-s-test.true in_range refl c.loop-s.invariant.1),
      written_list (word_of c.args.seat.now) (pack_at c.args.packs.now) c.args.chosen.now c.pack_of.result.now c.args.columns.now.by.items c.loop-s.columns.by.items c.take_words.new.columns.by.items c.loop-s.s-index c.loop-s-test.true
          c.pack_of.ensures.pack c.loop-s.invariant.2 (subst (λ (s : Seat). AreWritten c.pack_of.result.now (word_of s) c.loop-s.columns.by.items c.take_words.new.columns.by.items) c.loop-s.invariant.0 c.take_words.ensures.by),
      c.take_words.ensures.marks,
    )
