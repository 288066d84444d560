use Rattle.std.proofs.Common.{◌≡◌, take}
use Rattle.std.specs.List.{flat_map}
use Rattle.jul_words.specs.Least.{word_of}
use Rattle.jul_cover.specs.PackedSets.{pack_at, AreOpen}
use Rattle.jul_cover.specs.Columns.{AreWritten}
use Rattle.jul_cover.proofs.taking.take_chosen.Given as goal

abbrev pub invariant-loop-s : goal.invariant-loop-s
invariant-loop-s l =
    (l.seat ≡ l.fn.seat)
    × AreWritten (take l.s-index l.chosen) (λ _. l.t) l.fn.columns.round.items l.columns.round.items
    × AreWritten (flat_map (pack_at l.packs) (take l.s-index l.chosen)) (word_of l.fn.seat) l.fn.columns.by.items l.columns.by.items
    × AreOpen l.columns.marks.items l.columns.by.items
