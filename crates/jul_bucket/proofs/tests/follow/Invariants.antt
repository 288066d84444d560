use Rattle.std.proofs.Common.{◌≡◌, ◌≤◌, length}
use Rattle.jul_bucket.proofs.tests.follow.Given as goal

abbrev pub invariant-loop : goal.invariant-loop
invariant-loop g l = record { order : l.buckets.order ≡ l.order; len : l.n ≤ length l.buckets.places }
