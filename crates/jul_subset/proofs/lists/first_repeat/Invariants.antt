use Rattle.std.proofs.Common.{ℕ, ◌<◌, take}
use Rattle.jul_subset.specs.Lists.{IsRepeat}
use Rattle.jul_subset.proofs.ListLaws.{SeenBy}
use Rattle.jul_subset.proofs.lists.first_repeat.Given as goal

abbrev pub invariant-loop-at : goal.invariant-loop-at
invariant-loop-at l = record {
  seen : SeenBy l.seen.items l.members (take l.at l.ids);
  new : (i : ℕ) → i < l.at → IsRepeat l.ids i → ⊥;
}
