use Rattle.jul_cover.specs.PackedSets.{AreFilled}
use Rattle.jul_cover.proofs.packing.packed_sets.Given as goal

abbrev pub invariant-loop-s : goal.invariant-loop-s
invariant-loop-s l = AreFilled l.sets l.s l.starts.items l.lens.items l.items.items
