use Rattle.std.proofs.Common.{◌≡◌, take}
use Rattle.jul_witness.specs.Summaries.{greatest, numbers_of}
use Rattle.jul_witness.proofs.summaries.greatest_number.Given as goal

abbrev pub invariant-loop-value : goal.invariant-loop-value
invariant-loop-value l = l.most ≡ greatest (numbers_of (take l.value-index l.value-items))
