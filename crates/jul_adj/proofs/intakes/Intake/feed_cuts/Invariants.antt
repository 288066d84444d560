use Rattle.std.proofs.Common.{◌≡◌, ℕ, ◌+◌, ◌++◌, List, take, slice_index}
use Rattle.jul_text.specs.Cuts.{EndsWhite}
use Rattle.jul_adj.specs.Intakes.{HasTaken}
use Rattle.jul_adj.proofs.intakes.Intake.feed_cuts.Given as goal

abbrev pub invariant-loop-number : goal.invariant-loop-number
invariant-loop-number l = record {
  count : l.self.feeder.fed ≡ l.fn.self.feeder.fed + slice_index l.points l.number;
  taken : (b : List ℕ) → HasTaken b l.fn.self → EndsWhite b → HasTaken (b ++ take (slice_index l.points l.number) l.text) l.self;
}
