use Rattle.std.proofs.Common.{length, ◌-◌, ◌≤◌}
use Rattle.jul_text.proofs.NumberLaws.{AreRead}
use Rattle.jul_text.proofs.numbers.read_numbers.Given as goal

abbrev pub invariant-loop-at : goal.invariant-loop-at
invariant-loop-at l = record {
  within : l.at ≤ length l.bytes;
  read : AreRead l.bytes l.bound l.at l.values.items;
}

abbrev pub decreases-loop-at : goal.decreases-loop-at
decreases-loop-at l = length l.bytes - l.at
