use Rattle.std.proofs.Common.{◌≡◌, take}
use Rattle.std.specs.List.{flat_map}
use Rattle.jul_subset.proofs.chunks.joined.Given as goal

abbrev pub invariant-loop-out : goal.invariant-loop-out
invariant-loop-out g l = l.all.items ≡ flat_map (λ out. out.items) (take l.out-index l.outs.items)
