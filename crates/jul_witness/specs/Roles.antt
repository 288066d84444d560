-- What each token of a witness file stands for, by its number.
use Rattle.std.specs.Prelude.{ℕ, ◌+◌, ◌-◌, ◌*◌, ◌^◌, Bool, false, ◌&&◌, List, map, Option, Some, None, codes, nat_lt, ◌==◌, if◌then◌else◌}
use Rattle.std.specs.Option.{unwrap_or}
use Rattle.std.specs.Str.{bytes_eq}
use Rattle.jul_base.specs.declared.limits.TheConstants.{NONE, MAX_N, MAX_M, MAX_SOURCES}
use Rattle.jul_base.specs.Numbers.{below}
use Rattle.jul_text.specs.Tokens.{Word}
use Rattle.jul_text.specs.Scanning.{text_at}
use Rattle.jul_text.specs.Numerals.{numeral}
use Rattle.jul_text.specs.declared.numerals.Numeral.{Numeral}
use Rattle.jul_text.specs.declared.numerals.Numeral.TheVariants as numerals
use Rattle.jul_witness.specs.declared.forms.Heading.{Heading}
use Rattle.jul_witness.specs.Forms.{columns_of, has_places, has_sources}

abbrev pub value_of : Numeral → Option ℕ
value_of (numerals.Value v) = Some v
value_of numerals.Above = None
value_of numerals.Negative = None
value_of numerals.Bad = None

-- a number up to a bound; NONE is written as a dash alone, and only where a dash may stand
abbrev pub number_of : Bool → ℕ → List ℕ → Option ℕ
number_of dash bound text =
    if dash && bytes_eq text (codes "-") then Some NONE
    else value_of (numeral text bound)

-- the number up to a bound that a token says, 0 where it says none
abbrev pub said : ℕ → List Word → ℕ → ℕ
said bound ws j = unwrap_or (number_of false bound (text_at ws j)) 0

abbrev pub said_vertices : List Word → ℕ
said_vertices ws = said MAX_N ws 1

-- what a text says that says the number of places
abbrev pub said_places : List Word → ℕ
said_places ws = said MAX_M ws 2

-- what a text says that names the sources
abbrev pub said_count : List Word → ℕ
said_count ws = said MAX_SOURCES ws 3

abbrev pub said_source : List Word → ℕ → ℕ
said_source ws i = said (2 ^ 32 - 1) ws (4 + i)

abbrev pub said_sources : List Word → List ℕ
said_sources ws = map (said_source ws) (below (said_count ws))

-- how many tokens stand before the sources, before the columns, and in the whole witness
abbrev pub sizes_end : Heading → ℕ
sizes_end heading = if has_places heading.version then 3 else 2

abbrev pub front : Heading → List Word → ℕ
front heading ws = sizes_end heading + (if has_sources heading then 1 + said_count ws else 0)

abbrev pub all_tokens : Heading → List Word → ℕ
all_tokens heading ws = front heading ws + columns_of heading.form * said_vertices ws

pub data Role : Type 0 where
  word vertex_count place_count source_count source entry extra : Role

-- what a token stands for, by its number
abbrev pub role_at : Heading → List Word → ℕ → Role
role_at heading ws j =
    if j == 0 then word
    else if j == 1 then vertex_count
    else if nat_lt j (sizes_end heading) then place_count
    else if nat_lt j (front heading ws) then (if j == 3 then source_count else source)
    else if nat_lt j (all_tokens heading ws) then entry
    else extra
