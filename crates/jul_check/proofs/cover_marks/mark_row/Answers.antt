use Rattle.std.proofs.Common.{◌≡◌, ℕ, ◌+◌, ◌<◌, List, take, length, get_or, sym, ◌∙◌, ap, subst, arith}
use Rattle.jul_base.specs.Graph.{vertices, row}
use Rattle.jul_check.specs.declared.cover_marks.Marks.{Marks}
use Rattle.jul_check.specs.CoverMarks.{HasMarked}
use Rattle.jul_check.proofs.CoverMarkLaws.{AreCoverMarks-held, AreCoverMarks-passed, AreCoverMarks-next}
use Rattle.jul_check.proofs.cover_marks.mark_row.Goals as goal
use Rattle.jul_check.proofs.cover_marks.mark_row.Goals.{then-get-s, else-get-s}

pub loop-w-preserved : goal.loop-w-preserved
loop-w-preserved c =
    let ws : List ℕ = row c.args.rows.now c.args.s in
    let i : ℕ = c.loop-w.w-index in
    let lt : i < length ws = omega (arith, c.loop-w-test.true, ap length c.row-w-items.ensures.row) in
    let at : get_or c.row-w-items.result.now i 0 ≡ get_or ws i 0 = ap (λ (l : List ℕ). get_or l i 0) c.row-w-items.ensures.row in
    let in_range : get_or c.row-w-items.result.now i 0 < vertices c.args.rows.now = c.row-w-items.ensures.vertex i c.loop-w-test.true in
    let P : Marks → Type 0 = HasMarked c.args.rows.now c.args.c.now c.args.s (take (i + 1) ws) in
    elim c.if-get-s.branch [
      | then-get-s w ↦ subst P (sym w.marks-is) (AreCoverMarks-held c.args.rows.now c.args.c.now c.args.s i c.loop-w.marks.element.items c.loop-w.marks.held.items
          c.loop-w.invariant lt _ at in_range (sym c.get.ensures ∙ w.if-get-s.true))
      | else-get-s w ↦ subst P (sym w.marks-is) (AreCoverMarks-passed c.args.rows.now c.args.c.now c.args.s i c.loop-w.marks.element.items c.loop-w.marks.held.items
          c.loop-w.invariant lt _ at in_range (λ e. w.if-get-s.false (c.get.ensures ∙ e)))
    ]

pub returns : goal.returns
returns c = record {
  after =
      AreCoverMarks-next c.args.rows.now c.args.c.now c.args.s c.loop-w.w-index c.loop-w.marks.element.items c.loop-w.marks.held.items c.loop-w.invariant
      (omega (arith, c.loop-w-test.false, ap length c.row-w-items.ensures.row)) c.requires.vertex;
}
