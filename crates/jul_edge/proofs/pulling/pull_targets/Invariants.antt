use Rattle.std.proofs.Common.{◌-◌}
use Rattle.std.specs.List.{flat_map, range_with_len}
use Rattle.jul_rows.specs.Visits.{IsSame, Step}
use Rattle.jul_edge.specs.Pulls.{wanted_steps, HasPulled}
use Rattle.jul_edge.proofs.pulling.pull_targets.Given as goal

abbrev pub invariant-loop-v : goal.invariant-loop-v
invariant-loop-v g l = record {
  pulled : HasPulled (g.V.Visit.visits l.visit) (flat_map (wanted_steps l.in_rows l.from.members (g.V.Visit.wanted l.visit)) (range_with_len l.first (l.v - l.first))) (range_with_len l.first (l.v - l.first)) l.fn.state l.state l.fn.noted.items l.noted.items;
  same : IsSame g.V.Visit.home g.V.Visit.is_root g.V.Visit.out l.fn.state l.state;
  kept : (s : Step) → g.V.Visit.can_visit l.visit s l.fn.state → g.V.Visit.can_visit l.visit s l.state;
}
