-- The reading of a witness file: a witness, or the fault of the first token that has one.
use Rattle.std.specs.Prelude.{◌≡◌, ℕ, ◌+◌, ◌-◌, ◌*◌, List, [], ◌∷◌, map, length, Option, Some, None, Result, Ok, Err, nat_lt, if◌then◌else◌}
use Rattle.std.specs.Option.{unwrap_or}
use Rattle.jul_base.specs.declared.limits.TheConstants.{NONE}
use Rattle.jul_base.specs.Numbers.{below}
use Rattle.jul_text.specs.Tokens.{Word, tokens}
use Rattle.jul_text.specs.Scanning.{word_at, text_at}
use Rattle.jul_witness.specs.declared.forms.Form.{Form}
use Rattle.jul_witness.specs.declared.forms.Form.TheVariants as forms
use Rattle.jul_witness.specs.declared.forms.Heading.{Heading}
use Rattle.jul_witness.specs.declared.witnesses.Columns.{Columns}
use Rattle.jul_witness.specs.declared.witnesses.Columns.TheVariants as results
use Rattle.jul_witness.specs.declared.witnesses.Witness.{Witness}
use Rattle.jul_witness.specs.declared.faults.WitnessFault.{WitnessFault}
use Rattle.jul_witness.specs.declared.faults.WitnessKind.TheVariants.{Header, Truncated, TooLong}
use Rattle.jul_witness.specs.declared.faults.WitnessError.{WitnessError}
use Rattle.jul_witness.specs.declared.faults.WitnessError.TheVariants.{Bad, Memory}
use Rattle.jul_witness.specs.Forms.{heading_of, columns_of, takes_dash, has_places, has_sources}
use Rattle.jul_witness.specs.Roles.{number_of, said_vertices, said_places, said_sources, front, all_tokens}
use Rattle.jul_witness.specs.Faults.{faults}

-- ---- what the tokens say

-- a number of a column
abbrev pub entry_of : Form → List ℕ → Option ℕ
entry_of form text = number_of (takes_dash form) (NONE - 1) text

-- the number of a vertex in a column
abbrev pub entry_at : Heading → List Word → ℕ → ℕ → ℕ
entry_at heading ws column v = unwrap_or (entry_of heading.form (text_at ws (front heading ws + columns_of heading.form * v + column))) 0

-- a column of the first n vertices
abbrev pub column_of : Heading → List Word → ℕ → ℕ → List ℕ
column_of heading ws n column = map (entry_at heading ws column) (below n)

-- the columns of a form
abbrev pub columns_in : Form → Heading → List Word → Columns
columns_in forms.Cores heading ws =
    let column = column_of heading ws (said_vertices ws) in
    results.Cores (record { core = column 0; level = column 1 })
columns_in forms.Distances heading ws =
    let column = column_of heading ws (said_vertices ws) in
    results.Distances (record { dist = column 0; hops = column 1; parent = column 2 })
columns_in forms.Cover heading ws =
    let column = column_of heading ws (said_vertices ws) in
    results.Cover (record { round = column 0; by = column 1 })

abbrev pub columns_said : Heading → List Word → Columns
columns_said heading ws = columns_in heading.form heading ws

abbrev pub places_said : Heading → List Word → Option ℕ
places_said heading ws = if has_places heading.version then Some (said_places ws) else None

abbrev pub sources_said : Heading → List Word → Option (List ℕ)
sources_said heading ws = if has_sources heading then Some (said_sources ws) else None

abbrev pub witness_of : Heading → List Word → Witness
witness_of heading ws = record { places = places_said heading ws; sources = sources_said heading ws; columns = columns_said heading ws }

-- ---- whether they say it

-- the first fault decides; else tokens may be missing at the end, of a text of this length
abbrev pub decided : Heading → List Word → ℕ → List WitnessFault → Result Witness WitnessFault
decided heading ws len (f ∷ fs) = Err f
decided heading ws len [] =
    if nat_lt (length ws) (all_tokens heading ws) then Err (record { kind = Truncated; token = length ws; at = len })
    else Ok (witness_of heading ws)

-- by the word in front
abbrev pub by_heading : List Word → ℕ → Option Heading → Result Witness WitnessFault
by_heading ws len (Some heading) = decided heading ws len (faults heading ws)
by_heading ws len None = Err (record { kind = Header; token = 0; at = (word_at ws 0).start })

-- what the tokens of a text of this length say
abbrev pub read_tokens : List Word → ℕ → Result Witness WitnessFault
read_tokens [] len = Err (record { kind = Truncated; token = 0; at = len })
read_tokens (w ∷ ws) len = by_heading (w ∷ ws) len (heading_of w.text)

-- what a witness file says that is to have at most so many bytes
abbrev pub reads_witness : List ℕ → ℕ → Result Witness WitnessFault
reads_witness bytes limit =
    if nat_lt limit (length bytes) then Err (record { kind = TooLong; token = 0; at = limit })
    else read_tokens (tokens bytes) (length bytes)

-- ---- answers

-- a function's error is the fault of what it read, unless memory ran out
abbrev pub Fails : {Y : Type 0} → WitnessError → Result Y WitnessFault → Type 0
Fails Memory read = Unit {0}
Fails (Bad f) read = read ≡ Err f

-- a function's answer is what it read, unless memory ran out
abbrev pub Gives : Result Witness WitnessError → Result Witness WitnessFault → Type 0
Gives (Ok w) read = read ≡ Ok w
Gives (Err e) read = Fails e read
