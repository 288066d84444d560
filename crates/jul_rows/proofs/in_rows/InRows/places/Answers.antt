use Rattle.std.proofs.Common.{◌≡◌, ◌+◌, ◌<◌, [], length, get_or, sym, ◌∙◌, ap, arith, List, ℕ}
use Rattle.jul_base.specs.InRows.{InEdges}
use Rattle.jul_rows.specs.Cuts.{part, parts}
use Rattle.jul_rows.proofs.CutLaws.{length-parts, get_or-parts}
use Rattle.jul_rows.proofs.in_rows.InRows.places.Goals as goal

pub part_of-requires-clause-in_range : goal.part_of-requires-clause-in_range
part_of-requires-clause-in_range c =
    omega (
      arith,
      ap (λ (e : InEdges). length e.places) c.self.view_is,
      length-parts c.self.inside.bounds.items c.self.inside.places.items,
      ap (λ (l : List ℕ). length l) c.as_slice.ensures.value,
    )

-- the part that was cut out is what the view has at v
pub returns : goal.returns
returns c =
    let bounds : List ℕ = c.self.inside.bounds.items in
    let items : List ℕ = c.self.inside.places.items in
    let v : ℕ = c.args.v in
    let size : c.args.v + 1 < length bounds =
    omega (arith, c.requires, ap (λ (e : InEdges). length e.places) c.self.view_is, length-parts bounds items) in
    let seen : get_or (parts bounds items) v [] ≡ get_or c.args.self.now.places v [] = ap (λ (e : InEdges). get_or e.places v []) c.self.view_is in
    record {
      places =
          c.part_of.ensures
          ∙ ap (λ (b : List ℕ). part b c.as_slice-2.result.now v) c.as_slice.ensures.value
          ∙ ap (λ (l : List ℕ). part bounds l v) c.as_slice-2.ensures.value
          ∙ sym (get_or-parts bounds items v size)
          ∙ seen;
    }
