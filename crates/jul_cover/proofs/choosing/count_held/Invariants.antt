use Rattle.std.proofs.Common.{◌≡◌, ◌≤◌, take}
use Rattle.jul_words.specs.Least.{word_of}
use Rattle.jul_cover.specs.Choosing.{held_by}
use Rattle.jul_cover.proofs.choosing.count_held.Given as goal

abbrev pub invariant-loop-e : goal.invariant-loop-e
invariant-loop-e l = (l.seat ≡ l.fn.seat) × (l.held ≡ held_by (word_of l.fn.seat) l.bid (take l.e-index l.elements)) × (l.held ≤ l.e-index)
