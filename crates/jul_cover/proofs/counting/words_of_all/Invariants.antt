use Rattle.std.proofs.Common.{◌≡◌, ℕ, ◌<◌, length, get_or}
use Rattle.jul_words.specs.Least.{word_of}
use Rattle.jul_cover.proofs.counting.words_of_all.Given as goal

abbrev pub invariant-loop-e : goal.invariant-loop-e
invariant-loop-e l = (l.seat ≡ l.fn.seat) × (length l.all.items ≡ l.e) × ((k : ℕ) → k < l.e → get_or l.all.items k 0 ≡ word_of l.fn.seat k)
