use Rattle.std.proofs.Common.{◌≡◌, ap, sym, subst, refl, ◌∙◌, ◌+◌, length}
use Rattle.jul_words.specs.Seats.{IsAlone, AtMoment}
use Rattle.jul_words.specs.Counts.{IsFew, tally, CountWordsRule}
use Rattle.jul_words.proofs.Names.{meets}
use Rattle.jul_words.proofs.Counting.{drains}
use Rattle.jul_words.proofs.count_words.Words+Count.drain.Goals as goal

pub swap-requires : goal.swap-requires
swap-requires c =
    let i = c.seat.invariant in let at = meets c.seat.inside.seat.me.0.seat _ _ _ _ c.seat.view_is i.2 c.self.view_is c.requires.seat in
    (at.same, at.in_table _ c.requires.word, drains _ _ _ _ i.1 _ (at.near _ c.requires.word))

pub invariant_of-seat : goal.invariant_of-seat
invariant_of-seat c =
    let i = c.seat.invariant in let step = c.swap.ensures in let is = step.2.logged _ refl in
    (ap (λ m. m.1) is ∙ i.0, ap (λ m. m.0.live) is, ap (λ z. z.words) step.0 ∙ i.2 ∙ ap (λ m. length m.0.seat.home.starts + 1) (sym is))

pub returns-clause-moment : goal.returns-clause-moment
returns-clause-moment c = let told = c.swap.ensures.2.tells _ refl in subst (λ s. AtMoment CountWordsRule s c.args.v c.swap.result) c.seat.view_is (told.moment _)

pub returns-clause-exact : goal.returns-clause-exact
returns-clause-exact c = let told = c.swap.ensures.2.tells _ refl in subst (λ s. IsAlone s → IsFew c.args.v s.log → c.swap.result ≡ tally c.args.v s.log) c.seat.view_is told.exact
