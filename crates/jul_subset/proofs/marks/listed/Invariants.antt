use Rattle.std.proofs.Common.{◌≡◌}
use Rattle.std.specs.List.{filter}
use Rattle.jul_base.specs.Numbers.{below}
use Rattle.jul_subset.specs.Marks.{mark_at}
use Rattle.jul_subset.proofs.marks.listed.Given as goal

abbrev pub invariant-loop-v : goal.invariant-loop-v
invariant-loop-v l = l.ids.items ≡ filter (mark_at l.marks) (below l.v)
