use Rattle.std.proofs.Common.{◌≡◌}
use Rattle.jul_base.specs.Graph.{vertices}
use Rattle.jul_check.specs.Verdicts.{verdict_by, verdict_from}
use Rattle.jul_check.proofs.verdict_search.first_failing.Given as goal

-- the vertices that are left decide
abbrev pub invariant-loop-v : goal.invariant-loop-v
invariant-loop-v g l =
    verdict_from (vertices l.rows) g.T.VertexTest.reasons (g.T.VertexTest.fails l.test) l.v
    ≡ verdict_by (vertices l.rows) g.T.VertexTest.reasons (g.T.VertexTest.fails l.test)
