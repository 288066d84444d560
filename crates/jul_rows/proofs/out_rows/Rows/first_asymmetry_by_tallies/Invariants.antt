use Rattle.std.proofs.Common.{◌≡◌, ℕ, ◌<◌, [], length}
use Rattle.jul_base.specs.Graph.{vertices}
use Rattle.jul_rows.specs.Balance.{IsTallyOf, IsBalancedRow}
use Rattle.jul_rows.proofs.out_rows.Rows.first_asymmetry_by_tallies.Given as goal

abbrev pub invariant-loop-u : goal.invariant-loop-u
invariant-loop-u l = record {
  to_size : length l.to ≡ vertices l.self;
  from_size : length l.from ≡ vertices l.self;
  to_none : IsTallyOf [] l.to;
  from_none : IsTallyOf [] l.from;
  balanced : (w : ℕ) → w < l.u → IsBalancedRow l.self w;
}
