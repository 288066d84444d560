-- The names of the kinds of fault.
use Rattle.std.specs.Prelude.{ℕ, List, codes}
use Rattle.jul_witness.specs.declared.faults.WitnessKind.{WitnessKind}
use Rattle.jul_witness.specs.declared.faults.WitnessKind.TheVariants.{Header, Number, Truncated, Trailing, TooLong, SourceOrder}

-- the name of a kind, as it is told
abbrev pub kind_name : WitnessKind → List ℕ
kind_name Header = codes "Header"
kind_name Number = codes "Number"
kind_name Truncated = codes "Truncated"
kind_name Trailing = codes "Trailing"
kind_name TooLong = codes "TooLong"
kind_name SourceOrder = codes "SourceOrder"
