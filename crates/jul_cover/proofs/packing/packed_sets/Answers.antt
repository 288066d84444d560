use Rattle.std.proofs.Common.{◌≡◌, ◌∙◌, [], ◌∷◌, ◌++◌, length, subst, ap, arith}
use Rattle.jul_cover.specs.PackedSets.{AreFilled}
use Rattle.jul_cover.proofs.PackingLaws.{filled_more, filled_whole}
use Rattle.jul_cover.proofs.packing.packed_sets.Goals as goal

pub loop-s-preserved : goal.loop-s-preserved
loop-s-preserved c =
    let len : c.len.result ≡ length c.loop-s.items.items = omega arith in
    let starts : c.push.new.self.items ≡ c.loop-s.starts.items ++ length c.loop-s.items.items ∷ [] = c.in_ok-push.ensures.items ∙ ap (λ k. c.loop-s.starts.items ++ k ∷ []) len in
    let lens : c.push-in-loop-s.new.self.items ≡ c.loop-s.lens.items ++ length c.set-set.result.now ∷ [] = c.in_ok-push-2.ensures.items in
    let items : c.extend_from_slice.new.self.items ≡ c.loop-s.items.items ++ c.set-set.result.now = c.in_ok-extend_from_slice.ensures.items in
    rw (starts, lens, items)
    (filled_more c.args.sets.now c.loop-s.s c.loop-s.starts.items c.loop-s.lens.items c.loop-s.items.items c.set-set.result.now c.loop-s.invariant c.set-set.ensures.set)

pub returns-clause-packed : goal.returns-clause-packed
returns-clause-packed c =
    let end : c.loop-s.s ≡ c.n-n.result = omega arith in
    filled_whole c.args.sets.now _ c.n-n.ensures.sets c.n-n.ensures.count c.n-n.ensures.few
    (subst (λ k. AreFilled c.args.sets.now k c.loop-s.starts.items c.loop-s.lens.items c.loop-s.items.items) end c.loop-s.invariant)
