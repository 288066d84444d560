use Rattle.std.proofs.Common.{ap, sym, subst, ◌∙◌, ◌<◌}
use Rattle.jul_base.specs.Logs.{Home}
use Rattle.jul_words.specs.Seats.{Seat}
use Rattle.jul_words.proofs.Names.{meets}
use Rattle.jul_words.proofs.Ruling.{joins}
use Rattle.jul_words.proofs.tables.Words.take_in.Goals as goal

pub join_seat-requires : goal.join_seat-requires
join_seat-requires g c =
    let i = c.seat.invariant in let j = c.other.invariant in let is = c.seat.view_is in let other = c.other.view_is in
    let at = meets c.seat.inside.seat.me.0.seat _ _ _ _ is i.2 c.self.view_is c.requires.seat in
    let beside = meets c.other.inside.seat.me.0.seat _ _ _ _ other j.2 c.self.view_is (ap (λ (h : Home). h.table) c.requires.kin ∙ c.requires.seat) in (
      at.same,
      beside.same,
      j.0,
      at.some_word,
      joins _ _ _ _ _ _ i.1 (ap (λ (t : Seat). t.root) is ∙ c.requires.root) (subst (λ (t : Seat). 0 < t.out) (sym is) c.requires.some_out) j.1 (ap (λ (t : Seat). t.root) other ∙ c.requires.part),
    )
