use Rattle.std.proofs.Common.{◌≡◌, ℕ, ◌+◌, ◌<◌, Bool, List, length, get_or, sym, ◌∙◌, ap, subst, arith}
use Rattle.jul_base.specs.declared.graphs.RawGraph.{RawGraph}
use Rattle.jul_base.specs.declared.results.Distances.{Distances}
use Rattle.jul_base.specs.Graph.{vertices, row_start, row_end, target, weight}
use Rattle.jul_check.specs.Marks.{AreMarks}
use Rattle.jul_check.proofs.TreeMarkLaws.{marked_to, AreMarks-more, AreMarks-same, AreMarks-next, has_numbers-some}
use Rattle.jul_check.proofs.tree_marks.mark_row.Goals as goal
use Rattle.jul_check.proofs.tree_marks.mark_row.Goals.{then-is_borne, else-is_borne}

pub loop-v-preserved : goal.loop-v-preserved
loop-v-preserved c =
    let g : RawGraph = c.args.rows.now in
    let d : Distances = c.args.d.now in
    let u : ℕ = c.args.u in
    let k : ℕ = c.loop-v.v-index in
    let lt : k < length c.row-v-items.result.now = c.loop-v-test.true in
    let t : ℕ = get_or c.row-v-items.result.now k 0 in
    let w : ℕ = c.weight.result in
    let to : target g (row_start g u + k) ≡ t = sym (c.row-v-items.ensures.target k lt) in
    let has : weight g (row_start g u + k) ≡ w = sym (c.weight.ensures.weight ∙ ap (weight g) c.loop-v.invariant.place) in
    let P : List Bool → Type 0 = AreMarks (vertices g) (marked_to g d u (k + 1)) in
    record {
      place = omega arith;
      marks = elim c.if-is_borne.branch [
        | then-is_borne b ↦
            subst P (sym (ap (λ v. v.items) b.marks-is))
            (AreMarks-more g d u k t w c.loop-v.marks.items (c.row-v-items.ensures.vertex k lt) to has (sym c.is_borne.ensures ∙ b.if-is_borne.true) c.loop-v.invariant.marks)
        | else-is_borne b ↦
            subst P (sym (ap (λ v. v.items) b.marks-is))
            (AreMarks-same g d u k t w c.loop-v.marks.items to has (sym c.is_borne.ensures ∙ b.if-is_borne.false) c.loop-v.invariant.marks)
      ];
    }

pub returns : goal.returns
returns c =
    let g : RawGraph = c.args.rows.now in
    let d : Distances = c.args.d.now in
    let end : row_start g c.args.u + c.loop-v.v-index ≡ row_end g c.args.u = omega (arith, c.loop-v-test.false, c.loop-v.auto.v-index-end, c.row-v-items.ensures.degree) in
    record {
      after =
          AreMarks-next g d c.args.u c.loop-v.v-index c.loop-v.marks.items c.requires.vertex
          (has_numbers-some d c.args.u c.get.result c.get-else-get.result c.get.ensures c.get-else-get.ensures c.if-get.false c.if-get-2.false) end c.loop-v.invariant.marks;
    }
