use Rattle.std.proofs.Common.{◌≡◌, length, drop}
use Rattle.jul_rows.specs.Balance.{IsTallyOf}
use Rattle.jul_rows.proofs.tally.Counts.uncount.Given as goal

abbrev pub invariant-loop-v : goal.invariant-loop-v
invariant-loop-v l = record {
  counted : IsTallyOf (drop l.v-index l.list) l.self-inside.counts.items;
  size : length l.self-inside.counts.items ≡ length l.fn.self;
}
