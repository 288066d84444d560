use Rattle.std.proofs.Common.{take}
use Rattle.std.specs.List.{flat_map}
use Rattle.jul_rows.specs.Visits.{IsSame, Step, push_steps, HasPushed}
use Rattle.jul_rows.proofs.pushing.push_members.Given as goal

abbrev pub invariant-loop-u : goal.invariant-loop-u
invariant-loop-u g l = record {
  pushed : HasPushed (g.V.Visit.visits l.visit) (flat_map (push_steps l.rows (g.V.Visit.wanted l.visit)) (take l.u-index l.members)) l.fn.state l.state l.fn.noted.items l.noted.items;
  same : IsSame g.V.Visit.home g.V.Visit.is_root g.V.Visit.out l.fn.state l.state;
  kept : (s : Step) → g.V.Visit.can_visit l.visit s l.fn.state → g.V.Visit.can_visit l.visit s l.state;
}
