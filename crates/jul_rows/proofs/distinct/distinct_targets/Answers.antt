use Rattle.std.proofs.Common.{◌≡◌, ℕ, ◌<◌, List, ◌++◌, length, eqb, ◌∙◌, ap, subst, arith}
use Rattle.std.specs.List.{All}
use Rattle.std.specs.List.Sorted.{IsPermutation}
use Rattle.std.proofs.lemmas.List.Filters.{dedup_is}
use Rattle.std.proofs.lemmas.List.Elements.{All-from_get_or}
use Rattle.jul_base.specs.Graph.{vertices, row}
use Rattle.jul_rows.proofs.GatheringLaws.{dedup_is_set}
use Rattle.jul_rows.proofs.distinct.distinct_targets.Goals as goal

pub returns-clause-set : goal.returns-clause-set
returns-clause-set c =
    let xs : List ℕ = row c.args.rows.now c.args.s in
    let ys : List ℕ = c.sort_unstable.new.self.items in
    let copied : c.extend_from_slice.new.self.items ≡ xs =
    c.in_ok-extend_from_slice.ensures.items
    ∙ ap (λ (l : List ℕ). l ++ c.row.result.now) c.clear.ensures.items
    ∙ c.row.ensures.row in
    let P : List ℕ → Type 0 = λ l. IsPermutation l ys in
    let Q : List ℕ → Type 0 = All (λ x. x < vertices c.args.rows.now) in
    let small : Q xs = subst Q c.row.ensures.row (All-from_get_or (λ x. x < vertices c.args.rows.now) c.row.result.now 0 c.row.ensures.vertex) in
    dedup_is eqb ys c.dedup.new.self.items c.dedup.ensures.filtered
    ∙ dedup_is_set (vertices c.args.rows.now) xs ys small (subst P copied c.sort_unstable.ensures.permutation) c.sort_unstable.ensures.sorted

pub returns-clause-short : goal.returns-clause-short
returns-clause-short c =
    omega (
      arith,
      c.dedup.ensures.bound,
      c.dedup.new.self.ok,
      c.sort_unstable.ensures.len,
      c.sort_unstable.new.self.ok,
      c.in_ok-extend_from_slice.ensures.len,
      c.extend_from_slice.new.self.ok,
      c.clear.ensures.len,
      ap (λ (l : List ℕ). length l) c.row.ensures.row,
    )
