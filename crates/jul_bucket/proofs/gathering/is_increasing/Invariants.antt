use Rattle.std.proofs.Common.{◌≡◌, ℕ, ◌+◌, ◌<◌, slice_index}
use Rattle.jul_bucket.proofs.gathering.is_increasing.Given as goal

abbrev pub invariant-loop-id : goal.invariant-loop-id
invariant-loop-id l = record {
  up : (k : ℕ) → k + 1 < l.id-index → slice_index l.ids k < slice_index l.ids (k + 1);
  last : (k : ℕ) → k + 1 ≡ l.id-index → l.least ≡ slice_index l.ids k + 1;
}
