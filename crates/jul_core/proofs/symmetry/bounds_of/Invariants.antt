use Rattle.std.proofs.Common.{◌≤◌}
use Rattle.jul_core.specs.Windows.{AreWindows}
use Rattle.jul_core.proofs.symmetry.bounds_of.Given as goal

abbrev pub invariant-loop-i : goal.invariant-loop-i
invariant-loop-i l = record {
  windows : AreWindows l.i l.end l.bounds.items;
  within : l.end ≤ l.n;
}
