use Rattle.std.proofs.Common.{ℕ, List, length, ap, arith}
use Rattle.jul_rows.proofs.CutLaws.{length-parts}
use Rattle.jul_rows.proofs.set_rows.SetRows.n.Goals as goal

pub returns-clause-count : goal.returns-clause-count
returns-clause-count c =
    omega (
      arith,
      c.len.ensures,
      length-parts c.self.inside.bounds.items c.self.inside.items.items,
      ap (λ (sets : List (List ℕ)). length sets) c.self.view_is,
    )
