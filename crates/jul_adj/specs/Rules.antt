-- The rule that a number is read by: up to which bound, and the fault of what is read.
use Rattle.std.specs.Prelude.{◌≡◌, ℕ, ◌+◌, ◌-◌, ◌<◌, List, Option}
use Rattle.jul_base.specs.declared.limits.TheConstants.{MAX_N, MAX_W}
use Rattle.jul_text.specs.Tokens.{Word}
use Rattle.jul_text.specs.Numerals.{numeral}
use Rattle.jul_text.specs.declared.numerals.Numeral.{Numeral}
use Rattle.jul_text.specs.Scanning.{text_at}
use Rattle.jul_adj.specs.declared.faults.FaultKind.{FaultKind}
use Rattle.jul_adj.specs.declared.rules.Rule.{Rule}
use Rattle.jul_adj.specs.declared.rules.Rule.TheVariants.{Count, Offset, Target, Weight}
use Rattle.jul_adj.specs.Roles.{value_at}
use Rattle.jul_adj.specs.Faults.{number_fault, next_offset_fault, target_fault, weight_fault, kind_at}

abbrev pub bound_of : Rule → ℕ
bound_of (Count bound above) = bound
bound_of (Offset before places) = places
bound_of (Target vertices) = MAX_N
bound_of Weight = MAX_W

abbrev pub rule_fault : Rule → Numeral → Option FaultKind
rule_fault (Count bound above) n = number_fault above n
rule_fault (Offset before places) n = next_offset_fault before n
rule_fault (Target vertices) n = target_fault vertices n
rule_fault Weight n = weight_fault n

-- the rule of the number behind one that was read under a rule: an offset isn't below the one before it
abbrev pub behind : Rule → ℕ → Rule
behind (Count bound above) value = Count bound above
behind (Offset before places) value = Offset value places
behind (Target vertices) value = Target vertices
behind Weight value = Weight

-- the fault of the token with a number is that of a rule
abbrev pub IsRuledBy : List Word → ℕ → Rule → Type 0
IsRuledBy ws j rule = kind_at ws j ≡ rule_fault rule (numeral (text_at ws j) (bound_of rule))

-- so is that of n tokens from a number on, each under the rule that the number before it leaves
pub record AreRuled (ws : List Word) (token n : ℕ) (rule : Rule) : Type 0 where
  pub first : 0 < n → IsRuledBy ws token rule
  pub later : (k : ℕ) → 0 < k → k < n → IsRuledBy ws (token + k) (behind rule (value_at ws (token + k - 1)))
