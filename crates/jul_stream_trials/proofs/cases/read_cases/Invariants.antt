use Rattle.std.proofs.Common.{◌≡◌, ◌-◌, ◌≤◌, length, All}
use Rattle.jul_stream_trials.specs.Cases.{cases_of, IsWithin}
use Rattle.jul_stream_trials.proofs.CaseLaws.{cases_behind}
use Rattle.jul_stream_trials.proofs.cases.read_cases.Given as goal

abbrev pub invariant-loop : goal.invariant-loop
invariant-loop l = record {
  within : l.at ≤ length l.input;
  lie : All (IsWithin l.input) l.cases.items;
  rest : cases_of l.input ≡ cases_behind l.input l.cases.items l.at (l.end - l.counter);
}
