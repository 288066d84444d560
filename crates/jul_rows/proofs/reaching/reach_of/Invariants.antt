use Rattle.std.proofs.Common.{◌≡◌, ◌+◌, ◌*◌, ◌≤◌, length, take}
use Rattle.std.specs.Prelude.{sum_by}
use Rattle.jul_base.specs.Graph.{row}
use Rattle.jul_rows.proofs.reaching.reach_of.Given as goal

abbrev pub invariant-loop-u : goal.invariant-loop-u
invariant-loop-u l = record {
  is : l.reach ≡ length l.members + sum_by (λ u. length (row l.rows u)) (take l.u-index l.members);
  most : l.reach ≤ length l.members + l.u-index * 134217728;
}
