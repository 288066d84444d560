use Rattle.std.proofs.Common.{ℕ, ◌<◌, List, sym, ◌∙◌, ap, subst, arith}
use Rattle.std.specs.List.{All}
use Rattle.jul_base.specs.declared.graphs.RawGraph.{RawGraph}
use Rattle.jul_base.specs.Graph.{vertices}
use Rattle.jul_base.specs.Sets.{has, AreSets}
use Rattle.jul_base.proofs.SetLaws.{AreSets-sets_of}
use Rattle.jul_rows.proofs.GatheringLaws.{parts_are_sets, items_below, AreMarks-from_items}
use Rattle.jul_rows.proofs.out_rows.Rows.elements.Goals as goal

pub mark-requires : goal.mark-requires
mark-requires c =
    let g : RawGraph = c.args.self.now in
    let P : ℕ → Type 0 = λ n. All (λ e. e < n) c.as_slice.result.now in
    let Q : List ℕ → Type 0 = All (λ e. e < vertices g) in
    subst P (sym c.n.ensures.count)
    (subst Q (sym c.as_slice.ensures.value)
    (items_below g c.in_ok-gathering.gathering.bounds.items c.in_ok-gathering.gathering.items.items c.in_ok-gathering.ensures.all))

pub of-requires-clause-sets : goal.of-requires-clause-sets
of-requires-clause-sets c =
    let g : RawGraph = c.args.self.now in
    let P : List (List ℕ) → Type 0 = AreSets in
    subst P
    (sym (parts_are_sets g c.in_ok-gathering.gathering.bounds.items c.in_ok-gathering.gathering.items.items c.in_ok-gathering.ensures.all))
    (AreSets-sets_of g)

pub of-requires-clause-marks : goal.of-requires-clause-marks
of-requires-clause-marks c =
    let g : RawGraph = c.args.self.now in
    let items : List ℕ = c.in_ok-gathering.gathering.items.items in
    AreMarks-from_items g c.in_ok-gathering.gathering.bounds.items items c.in_ok-marks.marks.items c.in_ok-gathering.ensures.all (c.in_ok-marks.ensures.size ∙ c.n.ensures.count) (λ v lt.
    c.in_ok-marks.ensures.each v (omega (arith, c.n.ensures.count, lt)) ∙ ap (λ (l : List ℕ). has l v) c.as_slice.ensures.value)

pub returns : goal.returns
returns c = record {
  sets =
      c.of.ensures
      ∙ parts_are_sets c.args.self.now c.in_ok-gathering.gathering.bounds.items c.in_ok-gathering.gathering.items.items c.in_ok-gathering.ensures.all;
}
