use Rattle.std.proofs.Common.{map, []}
use Rattle.std.specs.Prelude.{slice_index}
use Rattle.std.specs.List.{filter, range_with_len, slice_index_or}
use Rattle.jul_base.specs.Sets.{has}
use Rattle.jul_rows.specs.Visits.{IsSame, Step, step}
use Rattle.jul_edge.specs.Pulls.{HasTried}
use Rattle.jul_edge.proofs.pulling.pull_row.Given as goal

abbrev pub invariant-loop-k : goal.invariant-loop-k
invariant-loop-k g l = record {
  tried : HasTried (g.V.Visit.visits l.visit) (filter (λ (s : Step). has l.from.members s.source) (map (λ k. step (slice_index (slice_index_or l.in_rows.sources l.v []) k) (slice_index (slice_index_or l.in_rows.places l.v []) k) l.v) (range_with_len 0 l.k))) l.fn.state l.state l.hit;
  same : IsSame g.V.Visit.home g.V.Visit.is_root g.V.Visit.out l.fn.state l.state;
  kept : (s : Step) → g.V.Visit.can_visit l.visit s l.fn.state → g.V.Visit.can_visit l.visit s l.state;
}
