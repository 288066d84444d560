-- The faults of the tokens of a graph file. At one token the kinds are tried in their order.
use Rattle.std.specs.Prelude.{◌≡◌, ℕ, ◌<◌, ◌-◌, ◌||◌, List, length, Option, Some, None, nat_lt, ◌==◌, if◌then◌else◌}
use Rattle.std.specs.List.{filter_map}
use Rattle.std.specs.Str.{bytes_eq}
use Rattle.jul_base.specs.declared.limits.TheConstants.{MAX_N, MAX_M, MAX_W}
use Rattle.jul_base.specs.Numbers.{below}
use Rattle.jul_text.specs.Tokens.{Word}
use Rattle.jul_text.specs.Numerals.{numeral}
use Rattle.jul_text.specs.declared.numerals.Numeral.{Numeral}
use Rattle.jul_text.specs.declared.numerals.Numeral.TheVariants.{Value, Above, Negative, Bad}
use Rattle.jul_text.specs.Scanning.{word_at, text_at}
use Rattle.jul_adj.specs.declared.faults.Fault.{Fault}
use Rattle.jul_adj.specs.declared.faults.FaultKind.{FaultKind}
use Rattle.jul_adj.specs.declared.faults.FaultKind.TheVariants.{Header, BadNumber, TooManyVertices, TooManyEdges, FirstOffset, OffsetRange, OffsetOrder, TargetRange, NegativeWeight, WeightRange, Trailing}
use Rattle.jul_adj.specs.Roles.{Role, header, vertex_count, place_count, offset, target, weight, extra, value_at, plain_word, weighted_word, said_vertices, said_places, role_at}

-- one of the two words
abbrev pub header_fault : List ℕ → Option FaultKind
header_fault text = if bytes_eq text plain_word || bytes_eq text weighted_word then None else Some Header

-- a number up to a bound, with the fault of one above it
abbrev pub number_fault : FaultKind → Numeral → Option FaultKind
number_fault above (Value v) = None
number_fault above Above = Some above
number_fault above Negative = Some BadNumber
number_fault above Bad = Some BadNumber

-- an offset after the first, read up to the number of places: not below the one before it
abbrev pub next_offset_fault : ℕ → Numeral → Option FaultKind
next_offset_fault before (Value v) = if nat_lt v before then Some OffsetOrder else None
next_offset_fault before Above = Some OffsetRange
next_offset_fault before Negative = Some BadNumber
next_offset_fault before Bad = Some BadNumber

-- the first offset is 0
abbrev pub offset_fault : List Word → ℕ → Option FaultKind
offset_fault ws j =
    if j == 3 then number_fault FirstOffset (numeral (text_at ws j) 0)
    else next_offset_fault (value_at ws (j - 1)) (numeral (text_at ws j) (said_places ws))

-- a target, read up to the greatest number of vertices: below n
abbrev pub target_fault : ℕ → Numeral → Option FaultKind
target_fault n (Value v) = if nat_lt v n then None else Some TargetRange
target_fault n Above = Some TargetRange
target_fault n Negative = Some BadNumber
target_fault n Bad = Some BadNumber

abbrev pub weight_fault : Numeral → Option FaultKind
weight_fault (Value v) = None
weight_fault Above = Some WeightRange
weight_fault Negative = Some NegativeWeight
weight_fault Bad = Some BadNumber

-- the fault of a token that stands for this
abbrev pub fault_in : List Word → ℕ → Role → Option FaultKind
fault_in ws j header = header_fault (text_at ws j)
fault_in ws j vertex_count = number_fault TooManyVertices (numeral (text_at ws j) MAX_N)
fault_in ws j place_count = number_fault TooManyEdges (numeral (text_at ws j) MAX_M)
fault_in ws j offset = offset_fault ws j
fault_in ws j target = target_fault (said_vertices ws) (numeral (text_at ws j) MAX_N)
fault_in ws j weight = weight_fault (numeral (text_at ws j) MAX_W)
fault_in ws j extra = Some Trailing

-- the first kind of fault that a token has
abbrev pub kind_at : List Word → ℕ → Option FaultKind
kind_at ws j = fault_in ws j (role_at ws j)

abbrev pub with_place : List Word → ℕ → Option FaultKind → Option Fault
with_place ws j (Some kind) = Some (record { kind = kind; token = j; at = (word_at ws j).start })
with_place ws j None = None

abbrev pub fault_at : List Word → ℕ → Option Fault
fault_at ws j = with_place ws j (kind_at ws j)

-- the faults of the tokens, in order
abbrev pub faults : List Word → List Fault
faults ws = filter_map (fault_at ws) (below (length ws))

-- no token before the number j has a fault
abbrev pub NoneBefore : List Word → ℕ → Type 0
NoneBefore ws j = (k : ℕ) → k < j → kind_at ws k ≡ None
