use Rattle.std.proofs.Common.{◌<◌, length, get_or, arith}
use Rattle.jul_rows.proofs.VisitLaws.{same_then, push_more, push_whole, pushed_append, pushed_same}
use Rattle.jul_base.proofs.GraphLaws.{row_end-le}
use Rattle.jul_rows.proofs.pushing.push_row.Goals as goal

pub loop-v-preserved : goal.loop-v-preserved
loop-v-preserved g c =
    let was = c.loop-v.invariant in
    let made = c.in_ok-push_place.ensures in
    let lt : c.loop-v.v-index < length c.row-v-items.result.now = c.loop-v-test.true in record {
      place = omega arith;
      pushed = pushed_append (g.V.Visit.visits c.args.visit.now) _ _ _ _ _ _ _ _ _ (push_more c.args.rows.now (g.V.Visit.wanted c.args.visit.now) c.args.u c.loop-v.v-index c.loop-v.place (get_or c.row-v-items.result.now c.loop-v.v-index 0) was.place (c.row-v-items.ensures.target c.loop-v.v-index lt)) was.pushed made.pushed;
      same = same_then g.V.Visit.home g.V.Visit.is_root g.V.Visit.out _ _ _ was.same made.same;
      kept = λ s h. made.kept s (was.kept s h);
    }

pub overflow_add-place : goal.overflow_add-place
overflow_add-place g c =
    let lt : c.loop-v.v-index < length c.row-v-items.result.now = c.loop-v-test.true in
    let at = c.row-v-items.ensures.place c.loop-v.v-index lt in
    omega (arith, at.to, row_end-le c.args.rows.now c.requires.lawful c.args.u, c.requires.lawful.few_places, c.loop-v.invariant.place)

pub returns-clause-pushed : goal.returns-clause-pushed
returns-clause-pushed g c =
    pushed_same (g.V.Visit.visits c.args.visit.now) _ _ _ _ _ _ (push_whole c.args.rows.now (g.V.Visit.wanted c.args.visit.now) c.args.u c.loop-v.v-index (omega (arith, c.row-v-items.ensures.degree, c.loop-v-test.false, c.loop-v.auto.v-index-end))) c.loop-v.invariant.pushed
