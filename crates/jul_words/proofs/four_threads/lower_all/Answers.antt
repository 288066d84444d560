use Rattle.std.proofs.Common.{subst, sym, ap}
use Rattle.std.proofs.lemmas.List.{take_more}
use Rattle.jul_words.specs.Lowerings.{HasLowered}
use Rattle.jul_words.proofs.Appending.{one_more, can_still}
use Rattle.jul_words.proofs.four_threads.lower_all.Goals as goal

pub loop-c-preserved : goal.loop-c-preserved
loop-c-preserved c = let i = c.loop-c.invariant in let step = c.lower.ensures in
    (can_still _ _ _ (ap (λ s. s.home) step.logged) i.0, subst (HasLowered c.args.seat c.lower.new.seat) (sym (take_more _ _ 0 c.loop-c-test.true)) (one_more _ _ _ _ _ _ i.1 step.logged))
