use Rattle.std.proofs.Common.{◌≡◌, ◌<◌, ℕ, length}
use Rattle.std.specs.Prelude.{slice_index}
use Rattle.jul_base.specs.Graph.{row}
use Rattle.jul_core.proofs.columns.degrees.Given as goal

abbrev pub invariant-loop-v : goal.invariant-loop-v
invariant-loop-v l = (length l.degrees.items ≡ l.v) × ((u : ℕ) → u < length l.degrees.items → slice_index l.degrees.items u ≡ length (row l.rows u))
