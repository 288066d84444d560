use Rattle.std.proofs.Common.{get_or, refl, arith}
use Rattle.jul_rows.specs.Visits.{push_steps}
use Rattle.jul_rows.proofs.VisitLaws.{same_then, flat_more, pushed_append}
use Rattle.jul_rows.proofs.pushing.push_members.Goals as goal

pub loop-u-preserved : goal.loop-u-preserved
loop-u-preserved g c =
    let was = c.loop-u.invariant in
    let made = c.in_ok-push_row.ensures in record {
      pushed = pushed_append (g.V.Visit.visits c.args.visit.now) _ _ _ _ _ _ _ _ _ (flat_more (push_steps c.args.rows.now (g.V.Visit.wanted c.args.visit.now)) c.args.members.now c.loop-u.u-index (get_or c.args.members.now c.loop-u.u-index 0) (omega arith) refl) was.pushed made.pushed;
      same = same_then g.V.Visit.home g.V.Visit.is_root g.V.Visit.out _ _ _ was.same made.same;
      kept = λ s h. made.kept s (was.kept s h);
    }
