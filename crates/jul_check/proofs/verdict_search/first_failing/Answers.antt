use Rattle.std.proofs.Common.{sym, ◌∙◌, arith}
use Rattle.jul_base.specs.Graph.{vertices}
use Rattle.jul_check.proofs.VerdictLaws.{verdict_from-passes, verdict_from-fails}
use Rattle.jul_check.proofs.verdict_search.first_failing.Goals as goal

pub returns-in-Some : goal.returns-in-Some
returns-in-Some g c =
    sym (verdict_from-fails (vertices c.args.rows.now) g.T.VertexTest.reasons (g.T.VertexTest.fails c.args.test.now) c.loop-v.v c.in-Some.reason (omega arith) (sym c.first_reason.ensures ∙ c.in-Some.is))
    ∙ c.loop-v.invariant

pub loop-v-preserved : goal.loop-v-preserved
loop-v-preserved g c =
    sym (verdict_from-passes (vertices c.args.rows.now) g.T.VertexTest.reasons (g.T.VertexTest.fails c.args.test.now) c.loop-v.v (omega arith) (sym c.first_reason.ensures ∙ c.in_default.is))
    ∙ c.loop-v.invariant
