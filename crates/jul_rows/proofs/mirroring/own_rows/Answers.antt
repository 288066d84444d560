use Rattle.std.proofs.Common.{rules, ◌≡◌, ◌+◌, ◌-◌, ◌≤◌, ℕ, List, ap, sym, subst, ◌∙◌, arith}
use Rattle.std.specs.Prelude.{slice_range}
use Rattle.jul_base.specs.declared.graphs.RawGraph.{RawGraph}
use Rattle.jul_base.specs.Graph.{row_start, row_end}
use Rattle.jul_rows.specs.Mirrors.{IsRearranged}
use Rattle.jul_rows.proofs.MirrorLaws.{start_before_end, own_rearranged}
use Rattle.jul_rows.proofs.mirroring.own_rows.Goals as goal

pub slice_bounds-result-count : goal.slice_bounds-result-count
slice_bounds-result-count c = omega (
  arith,
  start_before_end c.args.rows.now c.raw.ensures.lawful c.args.from (c.args.to - 1) (omega (arith, c.requires.some)) (omega (arith, c.requires.some, c.requires.within)),
  c.first_place-start.ensures.place,
  c.end_place-end.ensures.place,
)

pub slice_bounds-result-start : goal.slice_bounds-result-start
slice_bounds-result-start c =
    let rises : c.first_place-start.result ≤ c.end_place-end.result = omega (
      arith,
      start_before_end c.args.rows.now c.raw.ensures.lawful c.args.from (c.args.to - 1) (omega (arith, c.requires.some)) (omega (arith, c.requires.some, c.requires.within)),
      c.first_place-start.ensures.place,
      c.end_place-end.ensures.place,
    ) in
    search rules

pub returns : goal.returns
returns c =
    let g = c.args.rows.now in
    let from : ℕ = c.args.from in
    let last : ℕ = c.args.to - 1 in
    let next : last + 1 ≡ c.args.to = omega (arith, c.requires.some) in
    let xs : List ℕ = c.as_slice.result.now in
    let same : slice_range g.targets (row_start g from) (row_end g last) ≡ slice_range xs c.first_place-start.result c.end_place-end.result =
    ap (λ (l : List ℕ). slice_range l (row_start g from) (row_end g last)) (sym (c.as_slice.ensures ∙ ap (λ (r : RawGraph). r.targets) c.raw.ensures.graph))
    ∙ ap (λ k. slice_range xs k (row_end g last)) (sym c.first_place-start.ensures.place)
    ∙ ap (slice_range xs c.first_place-start.result) (sym c.end_place-end.ensures.place) in
    subst (λ k. IsRearranged g from k (slice_range xs c.first_place-start.result c.end_place-end.result)) next
    (subst (IsRearranged g from (last + 1)) same (own_rearranged g c.raw.ensures.lawful from last (omega (arith, c.requires.some)) (omega (arith, c.requires.some, c.requires.within))))
