use Rattle.std.proofs.Common.{◌≡◌, ℕ, ◌<◌, ◌≤◌, false, length, slice_index}
use Rattle.jul_text.specs.Tokens.{is_white}
use Rattle.jul_text.proofs.cuts.last_white.Given as goal

abbrev pub invariant-loop-end : goal.invariant-loop-end
invariant-loop-end l = record {
  within : l.end ≤ length l.bytes;
  behind : (k : ℕ) → l.end ≤ k → k < length l.bytes → is_white (slice_index l.bytes k) ≡ false;
}

abbrev pub decreases-loop-end : goal.decreases-loop-end
decreases-loop-end l = l.end
