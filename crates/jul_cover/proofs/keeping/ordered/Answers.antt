use Rattle.std.proofs.Common.{ℕ, List, subst, sym}
use Rattle.std.specs.Prelude.{◌↔◌}
use Rattle.std.specs.List.{Contains}
use Rattle.jul_cover.proofs.keeping.ordered.Goals as goal

pub returns-clause-same : goal.returns-clause-same
returns-clause-same c =
    subst (λ (l : List ℕ). (s : ℕ) → Contains l s ↔ Contains c.args.sets.items s) (sym c.in_ok-ids.ensures) c.in_ok-subset.ensures.members
