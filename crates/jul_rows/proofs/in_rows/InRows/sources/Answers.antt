use Rattle.std.proofs.Common.{◌≡◌, ◌+◌, ◌<◌, [], length, get_or, sym, ◌∙◌, ap, refl, arith, List, ℕ}
use Rattle.jul_base.specs.InRows.{InEdges}
use Rattle.jul_rows.specs.Cuts.{part, parts}
use Rattle.jul_rows.proofs.CutLaws.{length-parts, get_or-parts, length-part}
use Rattle.jul_rows.proofs.in_rows.InRows.sources.Goals as goal

pub part_of-requires-clause-in_range : goal.part_of-requires-clause-in_range
part_of-requires-clause-in_range c =
    omega (
      arith,
      ap (λ (e : InEdges). length e.places) c.self.view_is,
      length-parts c.self.inside.bounds.items c.self.inside.places.items,
      ap (λ (l : List ℕ). length l) c.as_slice.ensures.value,
    )

-- the part that was cut out is what the view has at v
pub returns-clause-sources : goal.returns-clause-sources
returns-clause-sources c =
    let bounds : List ℕ = c.self.inside.bounds.items in
    let items : List ℕ = c.self.inside.sources.items in
    let v : ℕ = c.args.v in
    let size : c.args.v + 1 < length bounds =
    omega (
      arith,
      c.requires,
      ap (λ (e : InEdges). length e.places) c.self.view_is,
      length-parts bounds c.self.inside.places.items,
    ) in
    let seen : get_or (parts bounds items) v [] ≡ get_or c.args.self.now.sources v [] = ap (λ (e : InEdges). get_or e.sources v []) c.self.view_is in
    c.part_of.ensures
    ∙ ap (λ (b : List ℕ). part b c.as_slice-2.result.now v) c.as_slice.ensures.value
    ∙ ap (λ (l : List ℕ). part bounds l v) c.as_slice-2.ensures.value
    ∙ sym (get_or-parts bounds items v size)
    ∙ seen

pub returns-clause-as_many : goal.returns-clause-as_many
returns-clause-as_many c =
    let bounds : List ℕ = c.self.inside.bounds.items in
    let ps : List ℕ = c.self.inside.places.items in
    let us : List ℕ = c.self.inside.sources.items in
    let v : ℕ = c.args.v in
    let size : c.args.v + 1 < length bounds =
    omega (arith, c.requires, ap (λ (e : InEdges). length e.places) c.self.view_is, length-parts bounds ps) in
    omega (
      arith,
      ap (λ (l : List ℕ). length l) c.part_of.ensures,
      ap (λ (b : List ℕ). length (part b c.as_slice-2.result.now v)) c.as_slice.ensures.value,
      ap (λ (l : List ℕ). length (part bounds l v)) c.as_slice-2.ensures.value,
      length-part bounds us (length ps) c.self.invariant.0 c.self.invariant.1 v size,
      length-part bounds ps (length ps) c.self.invariant.0 refl v size,
      ap (λ (l : List ℕ). length l) (get_or-parts bounds ps v size),
      ap (λ (e : InEdges). length (get_or e.places v [])) c.self.view_is,
    )
