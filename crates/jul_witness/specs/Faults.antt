-- The faults of the tokens of a witness file behind the word. At one token the kinds are tried in their order.
use Rattle.std.specs.Prelude.{ℕ, ◌+◌, ◌-◌, ◌^◌, false, List, length, Option, Some, None, nat_lt, ◌==◌, if◌then◌else◌}
use Rattle.std.specs.List.{filter_map}
use Rattle.jul_base.specs.declared.limits.TheConstants.{NONE, MAX_N, MAX_M, MAX_SOURCES}
use Rattle.jul_base.specs.Numbers.{below}
use Rattle.jul_text.specs.Tokens.{Word}
use Rattle.jul_text.specs.Scanning.{word_at, text_at}
use Rattle.jul_witness.specs.declared.forms.Form.{Form}
use Rattle.jul_witness.specs.declared.forms.Heading.{Heading}
use Rattle.jul_witness.specs.declared.rules.Rule.{Rule}
use Rattle.jul_witness.specs.declared.faults.WitnessFault.{WitnessFault}
use Rattle.jul_witness.specs.declared.faults.WitnessKind.{WitnessKind}
use Rattle.jul_witness.specs.declared.faults.WitnessKind.TheVariants.{Number, Trailing, SourceOrder}
use Rattle.jul_witness.specs.Forms.{takes_dash}
use Rattle.jul_witness.specs.Roles.{number_of, said_source, Role, word, vertex_count, place_count, source_count, source, entry, extra, role_at}

-- ---- what a number has to meet

abbrev pub low_fault : Rule → Option ℕ → Option WitnessKind
low_fault rule (Some x) = if nat_lt x rule.least then Some rule.low else None
low_fault rule None = Some Number

-- the fault of a token that is to be a number of a rule
abbrev pub rule_fault : Rule → List ℕ → Option WitnessKind
rule_fault rule text = low_fault rule (number_of rule.dash rule.bound text)

abbrev pub up_to : ℕ → Rule
up_to bound = record { dash = false; least = 0; bound = bound; low = Number }

abbrev pub count_rule : Rule
count_rule = record { dash = false; least = 1; bound = MAX_SOURCES; low = Number }

abbrev pub source_rule : ℕ → Rule
source_rule least = record { dash = false; least = least; bound = 2 ^ 32 - 1; low = SourceOrder }

abbrev pub entry_rule : Form → Rule
entry_rule form = record { dash = takes_dash form; least = 0; bound = NONE - 1; low = Number }

-- ---- tokens

-- the least number that the source with an index may be: more than the one before it
abbrev pub least_source : List Word → ℕ → ℕ
least_source ws i = if i == 0 then 0 else said_source ws (i - 1) + 1

-- the fault of a token that stands for this
abbrev pub fault_in : Heading → List Word → ℕ → Role → Option WitnessKind
fault_in heading ws j word = None
fault_in heading ws j vertex_count = rule_fault (up_to MAX_N) (text_at ws j)
fault_in heading ws j place_count = rule_fault (up_to MAX_M) (text_at ws j)
fault_in heading ws j source_count = rule_fault count_rule (text_at ws j)
fault_in heading ws j source = rule_fault (source_rule (least_source ws (j - 4))) (text_at ws j)
fault_in heading ws j entry = rule_fault (entry_rule heading.form) (text_at ws j)
fault_in heading ws j extra = Some Trailing

-- the first kind of fault that a token has
abbrev pub kind_at : Heading → List Word → ℕ → Option WitnessKind
kind_at heading ws j = fault_in heading ws j (role_at heading ws j)

abbrev pub with_place : List Word → ℕ → Option WitnessKind → Option WitnessFault
with_place ws j (Some kind) = Some (record { kind = kind; token = j; at = (word_at ws j).start })
with_place ws j None = None

abbrev pub fault_at : Heading → List Word → ℕ → Option WitnessFault
fault_at heading ws j = with_place ws j (kind_at heading ws j)

-- the faults of the tokens, in order
abbrev pub faults : Heading → List Word → List WitnessFault
faults heading ws = filter_map (fault_at heading ws) (below (length ws))
