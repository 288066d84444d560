use Rattle.std.proofs.Common.{ap, sym, subst, refl, ◌∙◌, ◌+◌, ◌≤◌, length}
use Rattle.jul_words.specs.Seats.{Seat, AtMoment, floor_of}
use Rattle.jul_words.specs.Least.{MinWordsRule}
use Rattle.jul_words.proofs.Names.{meets}
use Rattle.jul_words.proofs.Lowering.{lowers}
use Rattle.jul_words.proofs.min_words.Words+Least.lower.Goals as goal

pub fetch_min-requires : goal.fetch_min-requires
fetch_min-requires c =
    let i = c.seat.invariant in let is = c.seat.view_is in let at = meets c.seat.inside.seat.me.0.seat _ _ _ _ is i.2 c.self.view_is c.requires.seat in
    (at.same, at.in_table _ c.requires.word, lowers _ _ _ _ i.1 _ (at.near _ c.requires.word) _ (subst (λ (s : Seat). floor_of s.home c.args.v ≤ c.args.c) (sym is) c.requires.not_below))

pub invariant_of-seat : goal.invariant_of-seat
invariant_of-seat c =
    let i = c.seat.invariant in let step = c.fetch_min.ensures in let is = step.2.logged _ refl in
    (ap (λ m. m.1) is ∙ i.0, ap (λ m. m.0.live) is, ap (λ z. z.words) step.0 ∙ i.2 ∙ ap (λ m. length m.0.seat.home.starts + 1) (sym is))

pub returns-clause-moment : goal.returns-clause-moment
returns-clause-moment c = let told = c.fetch_min.ensures.2.tells _ refl in subst (λ s. AtMoment MinWordsRule s c.args.v c.fetch_min.result) c.seat.view_is (told.moment _)
