use Rattle.std.proofs.Common.{◌≡◌, take}
use Rattle.jul_words.specs.Least.{word_of}
use Rattle.jul_dist.specs.Moving.{HasTaken}
use Rattle.jul_dist.proofs.settling.take_words.Given as goal

abbrev pub invariant-loop-id : goal.invariant-loop-id
invariant-loop-id l = (l.seat ≡ l.fn.seat) × HasTaken (word_of l.fn.seat) l.fn.values l.values (take l.id-index l.ids) l.fell.items
