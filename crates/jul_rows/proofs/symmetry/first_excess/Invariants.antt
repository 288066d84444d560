use Rattle.std.proofs.Common.{ℕ, ◌<◌, ◌≤◌, get_or}
use Rattle.jul_rows.proofs.symmetry.first_excess.Given as goal

abbrev pub invariant-loop-k : goal.invariant-loop-k
invariant-loop-k l = (i : ℕ) → i < l.k → get_or l.to (get_or l.row i 0) 0 ≤ get_or l.from (get_or l.row i 0) 0
