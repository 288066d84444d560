-- Numbers that are taken many at a time.
use Rattle.std.specs.Prelude.{◌≡◌, ℕ, ◌+◌, ◌<◌, ◌≤◌, List, [], ◌∷◌, map, length, None}
use Rattle.jul_text.specs.declared.numerals.Numeral.TheVariants.{Value}
use Rattle.jul_text.specs.declared.shapes.Shape.TheVariants.{Digits}
use Rattle.jul_text.specs.declared.shapes.Mark.{Mark}
use Rattle.jul_text.specs.Tokens.{Word}
use Rattle.jul_adj.specs.declared.rules.Rule.{Rule}
use Rattle.jul_adj.specs.Faults.{kind_at}
use Rattle.jul_adj.specs.Reading.{values_between}
use Rattle.jul_adj.specs.Rules.{bound_of, rule_fault, behind}

-- no number is below the one before it, the first not below `from`
abbrev pub Rises : ℕ → List ℕ → Type 0
Rises from [] = Unit {0}
Rises from (v ∷ vs) = (from ≤ v) × Rises v vs

-- numbers meet a rule, one behind the other
abbrev pub Meets : Rule → List ℕ → Type 0
Meets rule [] = Unit {0}
Meets rule (v ∷ vs) = (v ≤ bound_of rule) × (rule_fault rule (Value v) ≡ None) × Meets (behind rule v) vs

-- these are the marks of numbers with these values
abbrev pub HaveValues : List Mark → List ℕ → Type 0
HaveValues marks values = map (λ m. m.shape) marks ≡ map (λ v. Digits v) values

-- the tokens from a number on have no fault and these values
pub record AreValues (ws : List Word) (token : ℕ) (values : List ℕ) : Type 0 where
  pub none : (j : ℕ) → token ≤ j → j < token + length values → kind_at ws j ≡ None
  pub are : values ≡ values_between ws token (token + length values)
