use Rattle.std.proofs.Common.{◌≡◌, ℕ, ◌+◌, List, [], ◌∷◌, ◌++◌, length, ◌∙◌, ap, arith}
use Rattle.jul_rows.proofs.GatheringLaws.{IsGathered-more}
use Rattle.jul_rows.proofs.distinct.gather.Goals as goal

-- the new bound is where the new items end
pub returns : goal.returns
returns c =
    let bounds : List ℕ = c.args.gathering.now.bounds.items in
    let items : List ℕ = c.args.gathering.now.items.items in
    let ds : List ℕ = c.distinct_targets.new.set.items in
    let items_are : c.extend_from_slice.new.self.items ≡ items ++ ds =
    c.in_ok-extend_from_slice.ensures.items ∙ ap (λ (l : List ℕ). items ++ l) c.as_slice.ensures.value in
    let end : c.len.result ≡ length items + length ds =
    omega (
      arith,
      c.len.ensures,
      c.in_ok-extend_from_slice.ensures.len,
      c.args.gathering.now.items.ok,
      ap (λ (l : List ℕ). length l) c.as_slice.ensures.value,
    ) in
    let bounds_are : c.push.new.self.items ≡ bounds ++ (length items + length ds) ∷ [] =
    c.in_ok-push.ensures.items ∙ ap (λ (n : ℕ). bounds ++ n ∷ []) end in
    record {
      after =
          rw
          (bounds_are, items_are)
          (IsGathered-more c.args.rows.now c.requires.lawful c.args.s bounds items ds c.requires.before c.requires.vertex c.in_ok-distinct_targets.ensures.set c.in_ok-distinct_targets.ensures.short);
    }
