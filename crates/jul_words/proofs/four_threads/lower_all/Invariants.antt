use Rattle.std.proofs.Common.{take}
use Rattle.jul_words.specs.Lowerings.{CanLower, HasLowered}
use Rattle.jul_words.proofs.four_threads.lower_all.Given as goal

abbrev pub invariant-loop-c : goal.invariant-loop-c
invariant-loop-c l = CanLower l.fn.words l.seat × HasLowered l.fn.seat l.seat (take l.c-index l.numbers)
