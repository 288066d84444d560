use Rattle.std.proofs.Common.{ap, sym, subst, refl, ◌∙◌, ◌+◌, length}
use Rattle.std.specs.Prelude.{nat_lt}
use Rattle.jul_words.specs.Stamps.{Met}
use Rattle.jul_words.proofs.Names.{meets}
use Rattle.jul_words.proofs.Stamping.{stamps}
use Rattle.jul_words.proofs.stamp_words.Words+Greatest.stamp.Goals as goal

pub fetch_max-requires : goal.fetch_max-requires
fetch_max-requires c =
    let i = c.seat.invariant in let at = meets c.seat.inside.seat.me.0.seat _ _ _ _ c.seat.view_is i.2 c.self.view_is c.requires.seat in
    (at.same, at.in_table _ c.requires.word, stamps _ _ _ _ i.1 _ (at.near _ c.requires.word) _)

pub invariant_of-seat : goal.invariant_of-seat
invariant_of-seat c =
    let i = c.seat.invariant in let step = c.fetch_max.ensures in let is = step.2.logged _ refl in
    (ap (λ m. m.1) is ∙ i.0, ap (λ m. m.0.live) is, ap (λ z. z.words) step.0 ∙ i.2 ∙ ap (λ m. length m.0.seat.home.starts + 1) (sym is))

pub returns-clause-met : goal.returns-clause-met
returns-clause-met c = let told = c.fetch_max.ensures.2.tells _ refl in subst (λ s. Met s c.args.v c.args.round (nat_lt c.fetch_max.result c.args.round)) c.seat.view_is (c.fetch_max.result, told.moment _, told.least, refl)
