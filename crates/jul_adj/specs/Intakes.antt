-- A reader that is given a file in pieces.
use Rattle.std.specs.Prelude.{◌≡◌, ℕ, ◌+◌, ◌++◌, List, length, Result, OnOk}
use Rattle.jul_text.specs.Tokens.{Word}
use Rattle.jul_text.specs.Feeding.{IsFed, ended_marks}
use Rattle.jul_text.specs.Cuts.{EndsWhite}
use Rattle.jul_adj.specs.declared.intakes.Intake.{Intake}
use Rattle.jul_adj.specs.declared.blocks.Block.{Block}
use Rattle.jul_adj.specs.Blocks.{bytes_in}
use Rattle.jul_adj.specs.Storing.{AreMarks}
use Rattle.jul_adj.specs.Readings.{HasRead}

-- these bytes were taken, and the tokens were read that are followed by a white byte
pub record HasTaken (bytes : List ℕ) (i : Intake) : Type 0 where
  pub fed : IsFed i.feeder bytes
  pub read : (ws : List Word) → AreMarks ws 0 (ended_marks bytes) → HasRead ws (length (ended_marks bytes)) i.reading

-- these bytes are taken behind those before, unless the call fails
abbrev pub Takes : {Y E : Type 0} → Intake → Result Y E → Intake → List ℕ → Type 0
Takes old result new more = (b : List ℕ) → HasTaken b old → OnOk result (HasTaken (b ++ more) new)

-- the same, where those before end in a white byte
abbrev pub TakesBehindWhite : {Y E : Type 0} → Intake → Result Y E → Intake → List ℕ → Type 0
TakesBehindWhite old result new more =
    (b : List ℕ) → HasTaken b old → EndsWhite b → OnOk result (HasTaken (b ++ more) new)

-- the bytes of the block were taken behind those before
pub record HasTakenBlock (old new : Intake) (block : Block) : Type 0 where
  pub taken : (bytes : List ℕ) → HasTaken bytes old → HasTaken (bytes ++ bytes_in block) new
  pub count : new.feeder.fed ≡ old.feeder.fed + block.count
