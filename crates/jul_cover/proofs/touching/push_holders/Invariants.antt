use Rattle.std.proofs.Common.{◌≡◌, ◌++◌, take}
use Rattle.std.specs.List.{flat_map}
use Rattle.jul_cover.specs.Keeping.{holders_at}
use Rattle.jul_cover.proofs.touching.push_holders.Given as goal

abbrev pub invariant-loop-e : goal.invariant-loop-e
invariant-loop-e l = l.touched.items ≡ l.fn.touched.items ++ flat_map (holders_at l.holders) (take l.e-index l.elements)
