use Rattle.std.proofs.Common.{◌∙◌, sym, ap, [], ◌∷◌, ◌++◌}
use Rattle.jul_subset.proofs.MarkLaws.{marked_more, unmarked_more}
use Rattle.jul_subset.proofs.marks.listed.Goals as goal
use Rattle.jul_subset.proofs.marks.listed.Goals.{then-mark+in_ok-push, else-mark}

pub loop-v-preserved : goal.loop-v-preserved
loop-v-preserved c =
    elim c.if-mark.branch [
      | then-mark+in_ok-push w ↦
          ap (λ ids. ids.items) w.ids-is ∙ w.in_ok-push.ensures.items ∙ ap (λ l. l ++ c.loop-v.v ∷ []) c.loop-v.invariant ∙ sym (marked_more c.args.marks.now c.loop-v.v w.if-mark.true)
      | else-mark w ↦ ap (λ ids. ids.items) w.ids-is ∙ c.loop-v.invariant ∙ sym (unmarked_more c.args.marks.now c.loop-v.v w.if-mark.false)
    ]
