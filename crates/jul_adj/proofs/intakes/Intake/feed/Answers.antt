use Rattle.std.proofs.Common.{◌≡◌, ◌+◌, ◌++◌, length, [], sym, subst}
use Rattle.std.specs.Prelude.{OnOk}
use Rattle.jul_text.specs.Feeding.{GrowAlike, ended_marks}
use Rattle.jul_adj.specs.Storing.{AreMarks}
use Rattle.jul_adj.specs.Readings.{HasRead}
use Rattle.jul_adj.proofs.IntakeLaws.{more_taken, grown_from_none}
use Rattle.jul_adj.proofs.intakes.Intake.feed.Goals as goal

pub returns-clause-taken : goal.returns-clause-taken
returns-clause-taken c b h =
    let piece = c.args.piece.now in
    let items : c.deref.result.now ≡ c.feed.new.marks.items = c.deref.ensures.value in
    let grown : GrowAlike [] c.feed.new.marks.items (ended_marks b) (ended_marks (b ++ piece)) =
    subst (λ ms. GrowAlike ms c.feed.new.marks.items (ended_marks b) (ended_marks (b ++ piece))) c.clear.ensures.items (c.in_ok-feed.ensures.marks b h.fed) in
    more_taken c.take.result b piece c.args.self.now.reading _ c.feed.new.marks.items (c.in_ok-feed.ensures.fed b h.fed) (grown_from_none c.feed.new.marks.items (ended_marks b) (ended_marks (b ++ piece)) grown) h.read
    (λ ws token r are.
    subst (λ ms. OnOk c.take.result (HasRead ws (token + length ms) c.take.new.self)) items (c.take.ensures ws token r (subst (AreMarks ws token) (sym items) are)))
