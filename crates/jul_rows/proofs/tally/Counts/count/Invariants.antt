use Rattle.std.proofs.Common.{◌≡◌, length, take}
use Rattle.jul_rows.specs.Balance.{IsTallyOf}
use Rattle.jul_rows.proofs.tally.Counts.count.Given as goal

abbrev pub invariant-loop-v : goal.invariant-loop-v
invariant-loop-v l = record {
  counted : IsTallyOf (take l.v-index l.list) l.self-inside.counts.items;
  size : length l.self-inside.counts.items ≡ length l.fn.self;
}
