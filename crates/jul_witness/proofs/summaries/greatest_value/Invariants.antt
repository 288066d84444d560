use Rattle.std.proofs.Common.{◌≡◌, take}
use Rattle.jul_witness.specs.Summaries.{greatest}
use Rattle.jul_witness.proofs.summaries.greatest_value.Given as goal

abbrev pub invariant-loop-value : goal.invariant-loop-value
invariant-loop-value l = l.most ≡ greatest (take l.value-index l.value-items)
