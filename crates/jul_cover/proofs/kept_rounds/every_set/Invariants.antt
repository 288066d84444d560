use Rattle.std.proofs.Common.{◌≡◌}
use Rattle.jul_base.specs.Numbers.{below}
use Rattle.jul_cover.proofs.kept_rounds.every_set.Given as goal

abbrev pub invariant-loop-s : goal.invariant-loop-s
invariant-loop-s l = l.sets.items ≡ below l.s
