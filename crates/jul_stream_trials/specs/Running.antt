-- What a run does to its shelf and its sink.
use Rattle.std.specs.Prelude.{◌≡◌, ℕ, ◌+◌, List, codes, Some}
use Rattle.jul_base.specs.declared.limits.TheConstants.{MAX_BYTES}
use Rattle.jul_base.specs.Loading.{IsLoaded}
use Rattle.jul_base.specs.Shelves.{ShelfState}
use Rattle.jul_base.specs.Sinks.{SinkState, Appended}
use Rattle.jul_stream_trials.specs.Reports.{report_of}

-- the input was read, and the lines about its cases were written
pub record HasReported (shelf shelf' : ShelfState) (out out' : SinkState) : Type 0 where
  pub input : List ℕ
  pub text : List ℕ
  pub loaded : IsLoaded shelf shelf' (codes "-") input (MAX_BYTES + 1)
  pub lines : report_of input ≡ Some text
  pub written : Appended out out' text
