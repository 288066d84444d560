use Rattle.std.proofs.Common.{◌≡◌, ℕ, ◌<◌, false, length, take, get_or}
use Rattle.jul_base.specs.Sets.{has}
use Rattle.jul_rows.proofs.distinct.mark.Given as goal

abbrev pub invariant-loop-e : goal.invariant-loop-e
invariant-loop-e l = record {
  size : length l.marks.items ≡ l.n;
  each : (v : ℕ) → v < l.n → get_or l.marks.items v false ≡ has (take l.e-index l.items) v;
}
