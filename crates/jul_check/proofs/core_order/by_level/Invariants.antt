use Rattle.std.proofs.Common.{◌≡◌, map}
use Rattle.jul_base.specs.Numbers.{below}
use Rattle.jul_check.specs.CoreOrder.{leveled}
use Rattle.jul_check.proofs.core_order.by_level.Given as goal

abbrev pub invariant-loop-v : goal.invariant-loop-v
invariant-loop-v l = l.order.items ≡ map (leveled l.c) (below l.v)
