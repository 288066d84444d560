use Rattle.std.proofs.Common.{subst, refl}
use Rattle.jul_words.specs.Seats.{AtMoment}
use Rattle.jul_words.specs.Least.{MinWordsRule}
use Rattle.jul_words.proofs.Names.{meets}
use Rattle.jul_words.proofs.Lowering.{loads}
use Rattle.jul_words.proofs.min_words.Words+Least.load.Goals as goal

pub load-requires : goal.load-requires
load-requires c =
    let i = c.seat.invariant in let at = meets c.seat.inside.seat.me.0.seat _ _ _ _ c.seat.view_is i.2 c.self.view_is c.requires.seat in
    (at.same, at.in_table _ c.requires.word, loads _ _ _ _ i.1 _ (at.near _ c.requires.word))

pub returns-clause-moment : goal.returns-clause-moment
returns-clause-moment c = let told = c.load.ensures.2.tells _ refl in subst (λ s. AtMoment MinWordsRule s c.args.v c.load.result) c.seat.view_is (told.moment _)
