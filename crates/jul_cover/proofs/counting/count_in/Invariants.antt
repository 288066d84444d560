use Rattle.std.proofs.Common.{◌≡◌, ◌≤◌, take, get_or}
use Rattle.jul_cover.specs.Choosing.{held_by}
use Rattle.jul_cover.proofs.counting.count_in.Given as goal

abbrev pub invariant-loop-e : goal.invariant-loop-e
invariant-loop-e l = (l.held ≡ held_by (λ e. get_or l.bids e 0) l.bid (take l.e-index l.elements)) × (l.held ≤ l.e-index)
