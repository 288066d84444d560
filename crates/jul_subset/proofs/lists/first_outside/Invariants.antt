use Rattle.std.proofs.Common.{ℕ, ◌<◌, slice_index}
use Rattle.jul_subset.proofs.lists.first_outside.Given as goal

abbrev pub invariant-loop-at : goal.invariant-loop-at
invariant-loop-at l = (i : ℕ) → i < l.at → slice_index l.ids i < l.n
