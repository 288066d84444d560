use Rattle.std.proofs.Common.{◌≡◌, ℕ, ◌+◌, ◌++◌, length, slice_index, arith, take, sym, ◌∙◌, ap, subst, refl}
use Rattle.std.proofs.lemmas.Option.{slice_get_read}
use Rattle.std.proofs.lemmas.List.{take_all}
use Rattle.jul_text.specs.Cuts.{EndsWhite}
use Rattle.jul_text.proofs.CutPointLaws.{points_rise, point_within, behind_white, cut_ends_white}
use Rattle.jul_adj.specs.Cutting.{IsReadAs}
use Rattle.jul_adj.specs.Intakes.{HasTaken}
use Rattle.jul_adj.proofs.CuttingLaws.{measured}
use Rattle.jul_adj.proofs.IntakeLaws.{front_white, cut_taken}
use Rattle.jul_adj.proofs.intakes.Intake.feed_cuts.Goals as goal

pub part-cut-requires-clause-rising : goal.part-cut-requires-clause-rising
part-cut-requires-clause-rising c = points_rise c.args.text.now (length c.args.cuts.now) c.args.points.now c.requires.some c.requires.points c.requires.white c.loop-number.number c.loop-number-test.true

pub part-cut-requires-clause-within : goal.part-cut-requires-clause-within
part-cut-requires-clause-within c = point_within c.args.text.now (length c.args.cuts.now) c.args.points.now c.requires.some c.requires.points c.requires.white (c.loop-number.number + 1) (omega (arith, c.loop-number-test.true))

pub feed_read-requires-clause-white : goal.feed_read-requires-clause-white
feed_read-requires-clause-white c =
    subst EndsWhite (sym c.part-cut.ensures) (cut_ends_white c.args.text.now (length c.args.cuts.now) c.args.points.now c.requires.some c.requires.points c.requires.white c.loop-number.number c.loop-number-test.true)

pub feed_read-requires-clause-read : goal.feed_read-requires-clause-read
feed_read-requires-clause-read c =
    subst (λ cut. IsReadAs cut c.args.bound c.index-cuts-number.result) (sym c.part-cut.ensures) (c.requires.read.each c.loop-number.number c.index-cuts-number.result
    (slice_get_read c.args.cuts.now (length c.args.cuts.now) c.loop-number.number c.index-cuts-number.result refl c.loop-number-test.true c.index-cuts-number.is))

pub feed_read-requires-clause-count : goal.feed_read-requires-clause-count
feed_read-requires-clause-count c =
    let m = measured c.args.text.now c.args.points.now (length c.args.cuts.now) c.requires.some c.requires.points c.requires.white c.loop-number.number c.part-cut.result.now c.loop-number-test.true c.part-cut.ensures in
    omega (arith, c.requires.count, c.loop-number.invariant.count, m.size, m.rising, m.within)

pub loop-number-preserved : goal.loop-number-preserved
loop-number-preserved c =
    let m = measured c.args.text.now c.args.points.now (length c.args.cuts.now) c.requires.some c.requires.points c.requires.white c.loop-number.number c.part-cut.result.now c.loop-number-test.true c.part-cut.ensures in
    let n : ℕ = c.loop-number.number in
    let text = c.args.text.now in
    let from : ℕ = slice_index c.args.points.now n in
    let to : ℕ = slice_index c.args.points.now (n + 1) in
    record {
      count = omega (arith, c.in_ok-feed_read.ensures.count, c.loop-number.invariant.count, m.size, m.rising);
      taken = λ b h white.
          let front : EndsWhite (b ++ take from text) =
          front_white b text from white (omega (arith, m.rising, m.within)) (behind_white text (length c.args.cuts.now) c.args.points.now c.requires.some c.requires.points c.requires.white n (omega (arith, c.loop-number-test.true))) in
          subst (λ xs. HasTaken xs c.feed_read.new.self) (ap (λ xs. (b ++ take from text) ++ xs) c.part-cut.ensures ∙ cut_taken b text from to m.rising)
          (c.in_ok-feed_read.ensures.taken (b ++ take from text) (c.loop-number.invariant.taken b h white) front);
    }

pub returns-clause-taken : goal.returns-clause-taken
returns-clause-taken c b h white =
    let at : slice_index c.args.points.now c.loop-number.number ≡ length c.args.text.now =
    ap (slice_index c.args.points.now) {x = c.loop-number.number} {y = length c.args.cuts.now} (omega (arith, c.loop-number-test.false, c.loop-number.auto.number-end)) ∙ c.requires.points.last in
    subst (λ xs. HasTaken (b ++ xs) c.loop-number.self) (take_all (slice_index c.args.points.now c.loop-number.number) c.args.text.now (omega (arith, at))) (c.loop-number.invariant.taken b h white)
