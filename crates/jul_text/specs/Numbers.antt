-- A text whose tokens are numbers.
use Rattle.std.specs.Prelude.{◌≡◌, ℕ, ◌≤◌, List, map}
use Rattle.std.specs.List.{All}
use Rattle.jul_text.specs.declared.shapes.Shape.{Shape}
use Rattle.jul_text.specs.declared.shapes.Shape.TheVariants.{Digits}
use Rattle.jul_text.specs.Tokens.{tokens_from}
use Rattle.jul_text.specs.Shapes.{shape}

-- the shapes of the tokens from a place of a text on
abbrev pub shapes_from : List ℕ → ℕ → List Shape
shapes_from bytes from = map (λ w. shape w.text) (tokens_from bytes from)

-- the tokens are numbers up to a bound, and these are their values
pub record AreNumbers (bytes : List ℕ) (bound : ℕ) (values : List ℕ) : Type 0 where
  pub shapes : map (λ v. Digits v) values ≡ shapes_from bytes 0
  pub bounded : All (λ v. v ≤ bound) values
