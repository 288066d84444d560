use Rattle.std.proofs.Common.{ap, sym, subst, ◌∙◌}
use Rattle.jul_words.specs.Seats.{Seat, IsAlone}
use Rattle.jul_words.specs.Ruled.{Sat, IsNothing, InAnyTable}
use Rattle.jul_words.proofs.Names.{meets}
use Rattle.jul_words.proofs.Ruling.{looks_on}
use Rattle.jul_words.proofs.tables.Words.join.Goals as goal

pub load-requires : goal.load-requires
load-requires g c =
    let i = c.seat.invariant in let of_it = ap (λ (s : Seat). s.home.table) c.take_in.ensures ∙ c.requires.seat in let at = meets c.seat.inside.seat.me.0.seat _ _ _ _ c.seat.view_is i.2 c.self.view_is of_it in
    (at.same, at.some_word, looks_on g.P.Meaning.holds _ _ _ _ i.1 IsNothing (InAnyTable g.P.Meaning.is_settled) (c.settle.ensures _))

pub returns-clause-settled : goal.returns-clause-settled
returns-clause-settled g c alone =
    let step = c.load.ensures.2 in subst (λ (m : Sat). IsAlone m.0.seat → InAnyTable g.P.Meaning.is_settled m.0.seat.home m.0.seat.log) (sym step.same) step.settled alone _
