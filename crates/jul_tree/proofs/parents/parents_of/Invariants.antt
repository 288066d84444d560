use Rattle.std.proofs.Common.{◌≡◌, ℕ, ◌<◌, length, get_or}
use Rattle.jul_words.specs.Least.{word_of}
use Rattle.jul_tree.specs.Hooking.{parent_of}
use Rattle.jul_tree.proofs.parents.parents_of.Given as goal

abbrev pub invariant-loop-v : goal.invariant-loop-v
invariant-loop-v l = (l.seat ≡ l.fn.seat) × (length l.parents.items ≡ l.v) × ((k : ℕ) → k < l.v → get_or l.parents.items k 0 ≡ parent_of (word_of l.fn.seat k))
