use Rattle.jul_cover.specs.Keeping.{AreLaid}
use Rattle.jul_cover.proofs.holding.graph_of.Given as goal

abbrev pub invariant-loop-s : goal.invariant-loop-s
invariant-loop-s l = AreLaid l.sets l.s l.offsets.items l.targets.items
