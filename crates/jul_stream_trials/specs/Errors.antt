-- The errors of the program.
use Rattle.std.specs.Prelude.{ℕ, List, codes}
use Rattle.jul_base.specs.declared.loading.LoadError.{LoadError}
use Rattle.jul_base.specs.declared.loading.LoadError.TheVariants as loading
use Rattle.jul_stream_trials.specs.declared.errors.TrialError.{TrialError}
use Rattle.jul_stream_trials.specs.declared.errors.TrialError.TheVariants as trials

-- why there are no lines, where the input wasn't loaded
abbrev pub loading_error : LoadError → TrialError
loading_error loading.Failed = trials.Unread
loading_error loading.Memory = trials.Memory

-- the line on standard error
abbrev pub message_of : TrialError → List ℕ
message_of trials.Malformed = codes "the input is no list of cases\n"
message_of trials.Unread = codes "read fault\n"
message_of trials.Unwritten = codes "write fault\n"
message_of trials.Memory = codes "out of memory\n"

-- the exit code
abbrev pub code_of : TrialError → ℕ
code_of trials.Malformed = 3
code_of trials.Unread = 5
code_of trials.Unwritten = 6
code_of trials.Memory = 7
