use Rattle.std.proofs.Common.{◌≡◌, map, take}
use Rattle.jul_count.specs.Counting.{word_in, drained_each}
use Rattle.jul_count.proofs.draining.drain_each.Given as goal

abbrev pub invariant-loop-at : goal.invariant-loop-at
invariant-loop-at l =
    (l.list.items ≡ map (word_in l.fn.seat.log) (take l.at l.ids))
    × (l.seat ≡ record { home = l.fn.seat.home; root = l.fn.seat.root; out = l.fn.seat.out; log = drained_each l.fn.seat.log (take l.at l.ids) })
