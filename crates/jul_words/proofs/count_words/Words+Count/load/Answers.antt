use Rattle.std.proofs.Common.{◌≡◌, subst, refl}
use Rattle.jul_words.specs.Seats.{IsAlone, AtMoment}
use Rattle.jul_words.specs.Counts.{IsFew, tally, CountWordsRule}
use Rattle.jul_words.proofs.Names.{meets}
use Rattle.jul_words.proofs.Counting.{loads}
use Rattle.jul_words.proofs.count_words.Words+Count.load.Goals as goal

pub load-requires : goal.load-requires
load-requires c =
    let i = c.seat.invariant in let at = meets c.seat.inside.seat.me.0.seat _ _ _ _ c.seat.view_is i.2 c.self.view_is c.requires.seat in
    (at.same, at.in_table _ c.requires.word, loads _ _ _ _ i.1 _ (at.near _ c.requires.word))

pub returns-clause-moment : goal.returns-clause-moment
returns-clause-moment c = let told = c.load.ensures.2.tells _ refl in subst (λ s. AtMoment CountWordsRule s c.args.v c.load.result) c.seat.view_is (told.moment _)

pub returns-clause-exact : goal.returns-clause-exact
returns-clause-exact c = let told = c.load.ensures.2.tells _ refl in subst (λ s. IsAlone s → IsFew c.args.v s.log → c.load.result ≡ tally c.args.v s.log) c.seat.view_is told.exact
