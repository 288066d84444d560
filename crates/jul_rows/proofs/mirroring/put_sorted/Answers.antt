use Rattle.std.proofs.Common.{◌≡◌, ℕ, ◌+◌, List, ◌++◌, length, sym, ◌∙◌, ap, subst, arith}
use Rattle.std.specs.List.Sorted.{IsPermutation}
use Rattle.jul_base.specs.Graph.{row}
use Rattle.jul_rows.specs.Mirrors.{IsRearranged}
use Rattle.jul_rows.proofs.MirrorLaws.{rearranged_more}
use Rattle.jul_rows.proofs.mirroring.put_sorted.Goals as goal

pub returns : goal.returns
returns c =
    let g = c.args.rows.now in
    let part : List ℕ = c.sort_unstable.new.self.items in
    let copied : List ℕ = c.extend_from_slice.new.self.items in
    let row_is : copied ≡ row g c.args.v =
    c.in_ok-extend_from_slice.ensures.items ∙ ap (λ (l : List ℕ). l ++ c.row.result.now) c.clear.ensures.items ∙ c.row.ensures.row in
    let same : IsPermutation (row g c.args.v) part = subst (λ l. IsPermutation l part) row_is c.sort_unstable.ensures.permutation in
    let size : length part ≡ length (row g c.args.v) =
    omega (arith, ap (λ (l : List ℕ). length l) row_is, c.sort_unstable.ensures.len, c.sort_unstable.new.self.ok, c.extend_from_slice.new.self.ok) in
    record {
      after =
          subst (IsRearranged g c.args.from (c.args.v + 1)) (sym (c.in_ok-extend_from_slice-2.ensures.items ∙ ap (λ (l : List ℕ). c.args.sorted.now.items ++ l) c.as_slice.ensures.value))
          (rearranged_more g c.requires.lawful c.args.from c.args.v c.args.sorted.now.items part c.requires.before c.requires.ordered c.requires.vertex size same);
    }
