use Rattle.std.proofs.Common.{◌≡◌, ℕ, ◌<◌, length, get_or}
use Rattle.jul_words.specs.Least.{word_of}
use Rattle.jul_reach.proofs.words.numbers_of.Given as goal

abbrev pub invariant-loop-v : goal.invariant-loop-v
invariant-loop-v l = (l.seat ≡ l.fn.seat) × (length l.numbers.items ≡ l.v) × ((k : ℕ) → k < l.v → get_or l.numbers.items k 0 ≡ word_of l.fn.seat k)
