use Rattle.std.proofs.Common.{◌≡◌, ◌<◌, drop}
use Rattle.jul_stream_trials.specs.declared.checksums.TheConstants.{MODULUS}
use Rattle.jul_stream_trials.specs.Checksums.{sum_from}
use Rattle.jul_stream_trials.proofs.checksums.add_all.Given as goal

abbrev pub invariant-loop-number : goal.invariant-loop-number
invariant-loop-number l = record {
  below : l.sum < MODULUS;
  rest : sum_from l.sum (drop l.number-index l.numbers) ≡ sum_from l.fn.start l.numbers;
}
