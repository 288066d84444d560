-- Numbers that are stored from the marks of their tokens.
use Rattle.std.specs.Prelude.{◌≡◌, ℕ, ◌+◌, ◌<◌, ◌≤◌, List, ◌++◌, length, None, slice_index_or}
use Rattle.jul_text.specs.declared.shapes.Mark.{Mark}
use Rattle.jul_text.specs.Tokens.{Word}
use Rattle.jul_text.specs.Scanning.{word_at}
use Rattle.jul_text.specs.Shapes.{mark_at}
use Rattle.jul_adj.specs.Faults.{kind_at}
use Rattle.jul_adj.specs.Reading.{values_between}

-- these are the marks of the tokens from a number on
pub record AreMarks (ws : List Word) (token : ℕ) (marks : List Mark) : Type 0 where
  pub there : token + length marks ≤ length ws
  pub each : (k : ℕ) (d : Mark) → k < length marks → slice_index_or marks k d ≡ mark_at 0 (word_at ws (token + k))

-- n tokens from a number on have no fault, and their values were appended
pub record AreStored (ws : List Word) (token n : ℕ) (old new : List ℕ) : Type 0 where
  pub none : (j : ℕ) → token ≤ j → j < token + n → kind_at ws j ≡ None
  pub values : new ≡ old ++ values_between ws token (token + n)
