use Rattle.std.proofs.Common.{◌≡◌, ◌+◌, map}
use Rattle.std.specs.List.{filter, range_with_len}
use Rattle.jul_base.specs.Graph.{target, row_start}
use Rattle.jul_rows.specs.Visits.{IsSame, Step, step, HasPushed}
use Rattle.jul_rows.proofs.pushing.push_row.Given as goal

abbrev pub invariant-loop-v : goal.invariant-loop-v
invariant-loop-v g l = record {
  place : l.place ≡ row_start l.rows l.u + l.v-index;
  pushed : HasPushed (g.V.Visit.visits l.visit) (filter (λ (s : Step). g.V.Visit.wanted l.visit s.target) (map (λ p. step l.u p (target l.rows p)) (range_with_len (row_start l.rows l.u) l.v-index))) l.fn.state l.state l.fn.noted.items l.noted.items;
  same : IsSame g.V.Visit.home g.V.Visit.is_root g.V.Visit.out l.fn.state l.state;
  kept : (s : Step) → g.V.Visit.can_visit l.visit s l.fn.state → g.V.Visit.can_visit l.visit s l.state;
}
