-- The lines about all cases of an input.
use Rattle.std.specs.Prelude.{ℕ, List, ◌++◌, Option, Result}
use Rattle.std.specs.Option.{option_map}
use Rattle.std.specs.List.{flat_map}
use Rattle.jul_base.specs.declared.graphs.RawGraph.{RawGraph}
use Rattle.jul_adj.specs.declared.faults.Fault.{Fault}
use Rattle.jul_adj.specs.declared.streaming.TheConstants.{MAX_BLOCK}
use Rattle.jul_stream_trials.specs.declared.cases.Case.{Case}
use Rattle.jul_stream_trials.specs.declared.reports.TheConstants.{WORKERS}
use Rattle.jul_stream_trials.specs.Cases.{cases_of, file_of}
use Rattle.jul_stream_trials.specs.Lines.{line_of}
use Rattle.jul_stream_trials.specs.Readings.{said_of}

-- what a file says, once for each way in which it is read
abbrev pub file_lines : Result RawGraph Fault → List ℕ
file_lines said = line_of 1 1 said ++ line_of 3 1 said ++ line_of MAX_BLOCK 1 said ++ line_of MAX_BLOCK WORKERS said

abbrev pub case_lines : List ℕ → Case → List ℕ
case_lines input c = file_lines (said_of (file_of input c) c.limit)

abbrev pub report_of : List ℕ → Option (List ℕ)
report_of input = option_map (flat_map (case_lines input)) (cases_of input)
