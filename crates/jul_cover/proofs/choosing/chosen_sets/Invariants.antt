use Rattle.std.proofs.Common.{◌≡◌, take}
use Rattle.jul_words.specs.Least.{word_of}
use Rattle.jul_cover.specs.PackedSets.{pack_at}
use Rattle.jul_cover.specs.Choosing.{chosen_of}
use Rattle.jul_cover.proofs.choosing.chosen_sets.Given as goal

abbrev pub invariant-loop-s : goal.invariant-loop-s
invariant-loop-s l = (l.seat ≡ l.fn.seat) × (l.chosen.items ≡ chosen_of (pack_at l.packs) (word_of l.fn.seat) l.base l.bucket (take l.s-index l.active))
