use Rattle.std.proofs.Common.{length, ap, arith}
use Rattle.jul_base.specs.InRows.{InEdges}
use Rattle.jul_rows.proofs.CutLaws.{length-parts}
use Rattle.jul_rows.proofs.in_rows.InRows.n.Goals as goal

pub returns-clause-count : goal.returns-clause-count
returns-clause-count c =
    omega (arith, c.len.ensures, length-parts c.self.inside.bounds.items c.self.inside.places.items, ap (λ (e : InEdges). length e.places) c.self.view_is)

pub returns-clause-as_many : goal.returns-clause-as_many
returns-clause-as_many c =
    omega (arith, c.len.ensures, length-parts c.self.inside.bounds.items c.self.inside.sources.items, ap (λ (e : InEdges). length e.sources) c.self.view_is)
