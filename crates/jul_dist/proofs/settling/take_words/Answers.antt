use Rattle.std.proofs.Common.{◌∙◌, ap, get_or}
use Rattle.jul_words.specs.Least.{word_of}
use Rattle.jul_dist.proofs.SettlingLaws.{turn_lower, turn_same, load_is}
use Rattle.jul_dist.proofs.settling.take_words.Goals as goal
use Rattle.jul_dist.proofs.settling.take_words.Goals.{then-word-values+in_ok-push, else-word-values}

pub loop-id-preserved : goal.loop-id-preserved
loop-id-preserved c =
    let word_is = load_is c.loop-id.seat c.args.seat.now (get_or c.args.ids.now c.loop-id.id-index 0) c.load-word.result c.loop-id.invariant.0 c.requires.alone c.load-word.ensures.exact in
    elim c.if-word-values.branch [
      | then-word-values+in_ok-push w ↦ (
        c.load-word.ensures.same ∙ c.loop-id.invariant.0,
        turn_lower (word_of c.args.seat.now) c.args.values.now c.loop-id.values c.args.ids.now c.loop-id.id-index c.loop-id.fell.items c.loop-id-test.true
            c.requires.within c.load-word.result word_is c.loop-id.invariant.1 c.if-word-values.values c.if-word-values.fell.items w.if-word-values.true w.values-is
            (ap (λ v. v.items) w.fell-is ∙ w.in_ok-push.ensures.items),
      )
      | else-word-values w ↦ (
        c.load-word.ensures.same ∙ c.loop-id.invariant.0,
        turn_same (word_of c.args.seat.now) c.args.values.now c.loop-id.values c.args.ids.now c.loop-id.id-index c.loop-id.fell.items c.loop-id-test.true
            c.requires.within c.load-word.result word_is c.loop-id.invariant.1 c.if-word-values.values c.if-word-values.fell.items w.if-word-values.false w.values-is
            (ap (λ v. v.items) w.fell-is),
      )
    ]
