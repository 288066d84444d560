use Rattle.std.proofs.Common.{[], ◌∷◌, ◌++◌, ◌∙◌, ap, sym}
use Rattle.jul_base.proofs.PartLaws.{below-more}
use Rattle.jul_cover.proofs.kept_rounds.every_set.Goals as goal

pub loop-s-preserved : goal.loop-s-preserved
loop-s-preserved c = c.in_ok-push.ensures.items ∙ ap (λ l. l ++ c.loop-s.s ∷ []) c.loop-s.invariant ∙ sym (below-more c.loop-s.s)
