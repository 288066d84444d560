use Rattle.std.proofs.Common.{length, ◌-◌, ℕ, ◌+◌, ◌≤◌, List}
use Rattle.jul_text.specs.Tokens.{Word}
use Rattle.jul_adj.specs.Storing.{AreMarks}
use Rattle.jul_adj.specs.Readings.{HasRead}
use Rattle.jul_adj.proofs.readings.Reading.take.Given as goal

abbrev pub invariant-loop-at : goal.invariant-loop-at
invariant-loop-at l = record {
  within : l.at ≤ length l.marks;
  read : (ws : List Word) (token : ℕ) → HasRead ws token l.fn.self → AreMarks ws token l.marks → HasRead ws (token + l.at) l.self;
}

abbrev pub decreases-loop-at : goal.decreases-loop-at
decreases-loop-at l = length l.marks - l.at
