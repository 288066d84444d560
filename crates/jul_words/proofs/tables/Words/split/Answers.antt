use Rattle.std.proofs.Common.{ap, ◌∙◌}
use Rattle.jul_words.specs.Seats.{Seat}
use Rattle.jul_words.proofs.Names.{meets}
use Rattle.jul_words.proofs.Ruling.{splits}
use Rattle.jul_words.proofs.tables.Words.split.Goals as goal

pub split_seat-other-requires : goal.split_seat-other-requires
split_seat-other-requires g c =
    let i = c.seat.invariant in let is = c.seat.view_is in let at = meets c.seat.inside.seat.me.0.seat _ _ _ _ is i.2 c.self.view_is c.requires.seat in
    (at.same, at.some_word, splits _ _ _ _ i.1 (ap (λ (t : Seat). t.root) is ∙ c.requires.root))
