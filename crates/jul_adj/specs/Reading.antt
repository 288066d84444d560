-- The reading of a graph file: a graph, or the fault of the first token that has one.
use Rattle.std.specs.Prelude.{◌≡◌, ℕ, List, [], ◌∷◌, map, length, slice_range, Result, Ok, Err, nat_lt, if◌then◌else◌}
use Rattle.std.specs.Str.Parse.{digits_value}
use Rattle.jul_base.specs.declared.graphs.RawGraph.{RawGraph}
use Rattle.jul_text.specs.Tokens.{Word, tokens}
use Rattle.jul_adj.specs.declared.faults.Fault.{Fault}
use Rattle.jul_adj.specs.declared.faults.FaultKind.TheVariants.{Truncated, TooLong}
use Rattle.jul_adj.specs.declared.faults.ReadError.{ReadError}
use Rattle.jul_adj.specs.declared.faults.ReadError.TheVariants.{Bad, Memory}
use Rattle.jul_adj.specs.Roles.{is_weighted, first_target, first_weight, all_tokens}
use Rattle.jul_adj.specs.Faults.{faults}

-- the values of the tokens whose numbers lie in a range
abbrev pub values_between : List Word → ℕ → ℕ → List ℕ
values_between ws from to = map (λ w. digits_value 10 w.text) (slice_range ws from to)

abbrev pub graph_of : List Word → RawGraph
graph_of ws = record {
  weighted = is_weighted ws;
  offsets = values_between ws 3 (first_target ws);
  targets = values_between ws (first_target ws) (first_weight ws);
  weights = values_between ws (first_weight ws) (all_tokens ws);
}

-- the first fault decides; else tokens may be missing at the end, of a text of this length
abbrev pub decided : List Word → ℕ → List Fault → Result RawGraph Fault
decided ws len (f ∷ fs) = Err f
decided ws len [] =
    if nat_lt (length ws) (all_tokens ws) then Err (record { kind = Truncated; token = length ws; at = len })
    else Ok (graph_of ws)

-- what the tokens of a text of this length say
abbrev pub read_tokens : List Word → ℕ → Result RawGraph Fault
read_tokens ws len = decided ws len (faults ws)

-- what a file says that is to have at most so many bytes
abbrev pub reads : List ℕ → ℕ → Result RawGraph Fault
reads bytes limit =
    if nat_lt limit (length bytes) then Err (record { kind = TooLong; token = 0; at = limit })
    else read_tokens (tokens bytes) (length bytes)

-- a function's error is the fault of what it read, unless memory ran out
abbrev pub Fails : {Y : Type 0} → ReadError → Result Y Fault → Type 0
Fails Memory read = Unit {0}
Fails (Bad f) read = read ≡ Err f

-- a function's answer is what it read, unless memory ran out
abbrev pub Gives : Result RawGraph ReadError → Result RawGraph Fault → Type 0
Gives (Ok g) read = read ≡ Ok g
Gives (Err e) read = Fails e read
