use Rattle.std.proofs.Common.{arith, refl}
use Rattle.jul_edge.specs.Pulls.{wanted_steps}
use Rattle.jul_rows.proofs.VisitLaws.{same_then}
use Rattle.jul_edge.proofs.PullingLaws.{range_more, range_next, pulled_start, pulled_append}
use Rattle.jul_edge.proofs.pulling.pull_targets.Goals as goal

pub pull_target-requires-clause-can : goal.pull_target-requires-clause-can
pull_target-requires-clause-can g c = λ w s at. c.loop-v.invariant.kept s (c.requires.can c.loop-v.v (omega arith) w s at)

pub loop-v-preserved : goal.loop-v-preserved
loop-v-preserved g c =
    let was = c.loop-v.invariant in
    let made = c.in_ok-pull_target.ensures in record {
      pulled = pulled_append (g.V.Visit.visits c.args.visit.now) _ _ _ _ _ _ _ _ _ _ _ _ (range_more (wanted_steps c.args.in_rows.now c.args.from.now.members (g.V.Visit.wanted c.args.visit.now)) c.args.first c.loop-v.v (omega arith)) (range_next c.args.first c.loop-v.v (omega arith)) was.pulled made.pulled;
      same = same_then g.V.Visit.home g.V.Visit.is_root g.V.Visit.out _ _ _ was.same made.same;
      kept = λ s h. made.kept s (was.kept s h);
    }

pub loop-v-init : goal.loop-v-init
loop-v-init g c = record {
  pulled = pulled_start (g.V.Visit.visits c.args.visit.now) (wanted_steps c.args.in_rows.now c.args.from.now.members (g.V.Visit.wanted c.args.visit.now)) c.args.first c.args.state.now c.args.noted.now.items;
  same = record { home_is = refl; root_is = refl; out_is = refl };
  kept = λ s h. h;
}
