use Rattle.std.proofs.Common.{◌≡◌, arith}
use Rattle.jul_base.specs.Graph.{vertices}
use Rattle.jul_check.proofs.CoverMarkLaws.{elements_at_end, helds_at_end}
use Rattle.jul_check.proofs.cover_marks.mark_all.Goals as goal

pub returns-clause-element : goal.returns-clause-element
returns-clause-element c =
    let end : c.loop-s.s ≡ vertices c.args.rows.now = omega (arith, c.n-s-end.ensures.count) in
    elements_at_end c.args.rows.now c.args.c.now c.loop-s.s c.loop-s.marks.element.items c.loop-s.marks.held.items c.loop-s.invariant end

pub returns-clause-held : goal.returns-clause-held
returns-clause-held c =
    let end : c.loop-s.s ≡ vertices c.args.rows.now = omega (arith, c.n-s-end.ensures.count) in
    helds_at_end c.args.rows.now c.args.c.now c.loop-s.s c.loop-s.marks.element.items c.loop-s.marks.held.items c.loop-s.invariant end
