use Rattle.std.proofs.Common.{◌<◌, ◌-◌, length}
use Rattle.core.proofs.dec2flt.DigitsLemmas.{HasRead}
use Rattle.jul_text.proofs.numbers.closed_digits.Given as goal

abbrev pub invariant-loop-value : goal.invariant-loop-value
invariant-loop-value l = record {
  there : l.at < length l.bytes;
  read : HasRead l.bytes l.start 0 l.at l.value;
}

abbrev pub decreases-loop-value : goal.decreases-loop-value
decreases-loop-value l = length l.bytes - l.at
