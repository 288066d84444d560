use Rattle.std.proofs.Common.{◌≡◌, take}
use Rattle.jul_words.specs.Least.{word_of}
use Rattle.jul_cover.specs.Columns.{AreWritten}
use Rattle.jul_cover.specs.PackedSets.{AreOpen}
use Rattle.jul_cover.proofs.taking.take_words.Given as goal

abbrev pub invariant-loop-e : goal.invariant-loop-e
invariant-loop-e l =
    (l.seat ≡ l.fn.seat)
    × AreWritten (take l.e-index l.elements) (word_of l.fn.seat) l.fn.columns.by.items l.columns.by.items
    × AreOpen l.columns.marks.items l.columns.by.items
    × (l.columns.round.items ≡ l.fn.columns.round.items)
