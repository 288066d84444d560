use Rattle.std.proofs.Common.{◌≡◌, ◌++◌, take, string_bytes}
use Rattle.std.specs.List.{flat_map}
use Rattle.jul_stream_trials.specs.Reports.{case_lines}
use Rattle.jul_stream_trials.proofs.reports.put_cases.Given as goal

abbrev pub invariant-loop-case : goal.invariant-loop-case
invariant-loop-case g l = string_bytes l.text ≡ string_bytes l.fn.text ++ flat_map (case_lines l.fn.input) (take l.case-index l.cases)
