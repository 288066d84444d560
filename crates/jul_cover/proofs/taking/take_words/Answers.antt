use Rattle.std.proofs.Common.{◌∙◌, get_or, arith}
use Rattle.jul_words.specs.Least.{word_of}
use Rattle.jul_cover.proofs.ColumnLaws.{written_more, load_is, open_written}
use Rattle.jul_cover.proofs.taking.take_words.Goals as goal

pub loop-e-preserved : goal.loop-e-preserved
loop-e-preserved c =
    let word_is = load_is c.loop-e.seat c.args.seat.now (get_or c.args.elements.now c.loop-e.e-index 0) c.load-word.result c.loop-e.invariant.0 c.requires.alone c.load-word.ensures.exact in (
      c.load-word.ensures.same ∙ c.loop-e.invariant.0,
      written_more (word_of c.args.seat.now) c.args.elements.now c.args.columns.now.by.items c.loop-e.columns.by.items c.loop-e.e-index c.load-word.result c.loop-e-test.true
          (c.requires.by c.loop-e.e-index 0 c.loop-e-test.true) word_is c.loop-e.invariant.1,
      open_written c.loop-e.columns.marks.items c.loop-e.columns.by.items (get_or c.args.elements.now c.loop-e.e-index 0) c.load-word.result (omega (arith, c.requires.by c.loop-e.e-index 0 c.loop-e-test.true, c.loop-e.invariant.1.size)) c.loop-e.invariant.2,
      c.loop-e.invariant.3,
    )
