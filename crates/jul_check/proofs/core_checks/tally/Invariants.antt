use Rattle.std.proofs.Common.{◌≡◌, ◌≤◌, take}
use Rattle.jul_check.specs.CoreChecks.{at_least, not_before}
use Rattle.jul_check.proofs.core_checks.tally.Given as goal

abbrev pub invariant-loop-w : goal.invariant-loop-w
invariant-loop-w l = record {
  at_least : l.at_least ≡ at_least l.c l.v (take l.w-index l.row);
  not_before : l.not_before ≡ not_before l.c l.v (take l.w-index l.row);
  at_least_few : l.at_least ≤ l.w-index;
  not_before_few : l.not_before ≤ l.w-index;
}
