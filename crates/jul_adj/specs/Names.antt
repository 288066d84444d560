-- The names of the kinds of fault.
use Rattle.std.specs.Prelude.{ℕ, List, codes}
use Rattle.jul_adj.specs.declared.faults.FaultKind.{FaultKind}
use Rattle.jul_adj.specs.declared.faults.FaultKind.TheVariants.{Header, BadNumber, TooManyVertices, TooManyEdges, FirstOffset, OffsetRange, OffsetOrder, TargetRange, NegativeWeight, WeightRange, Truncated, Trailing, TooLong}
use Rattle.jul_adj.specs.declared.faults.ReadError.{ReadError}
use Rattle.jul_adj.specs.declared.faults.ReadError.TheVariants as read_errors
use Rattle.jul_adj.specs.declared.faults.StreamError.{StreamError}
use Rattle.jul_adj.specs.declared.faults.StreamError.TheVariants as stream_errors

-- the name of a kind, as it is told
abbrev pub kind_name : FaultKind → List ℕ
kind_name Header = codes "Header"
kind_name BadNumber = codes "BadNumber"
kind_name TooManyVertices = codes "TooManyVertices"
kind_name TooManyEdges = codes "TooManyEdges"
kind_name FirstOffset = codes "FirstOffset"
kind_name OffsetRange = codes "OffsetRange"
kind_name OffsetOrder = codes "OffsetOrder"
kind_name TargetRange = codes "TargetRange"
kind_name NegativeWeight = codes "NegativeWeight"
kind_name WeightRange = codes "WeightRange"
kind_name Truncated = codes "Truncated"
kind_name Trailing = codes "Trailing"
kind_name TooLong = codes "TooLong"

-- an error of the reading of bytes, as one of the reading from a shelf
abbrev pub streamed : ReadError → StreamError
streamed (read_errors.Bad fault) = stream_errors.Bad fault
streamed read_errors.Memory = stream_errors.Memory
