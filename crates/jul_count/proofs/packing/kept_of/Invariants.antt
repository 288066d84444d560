use Rattle.std.proofs.Common.{◌≡◌, take}
use Rattle.std.specs.List.{filter}
use Rattle.jul_count.proofs.packing.kept_of.Given as goal

abbrev pub invariant-loop-e : goal.invariant-loop-e
invariant-loop-e g l = l.kept.items ≡ filter (g.K.Keep.kept l.test) (take l.e-index l.elements)
