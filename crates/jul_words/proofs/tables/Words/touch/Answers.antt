use Rattle.jul_words.proofs.Names.{meets}
use Rattle.jul_words.proofs.tables.Words.touch.Goals as goal

pub peek-requires : goal.peek-requires
peek-requires g c =
    let at = meets c.seat.inside.seat.me.0.seat _ _ _ _ c.seat.view_is c.seat.invariant.2 c.self.view_is c.requires.seat in at.in_table _ c.requires.word
