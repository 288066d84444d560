use Rattle.std.proofs.Common.{◌≡◌, take}
use Rattle.std.specs.List.{filter}
use Rattle.jul_subset.proofs.filters.FilterJobJob.run.Given as goal

abbrev pub invariant-loop-v : goal.invariant-loop-v
invariant-loop-v g l = l.kept.items ≡ filter (g.T.VertexTest.kept l.self.test.now) (take l.v-index l.v-items)
