use Rattle.std.proofs.Common.{◌≡◌, ◌∙◌, [], ◌∷◌, ◌++◌, length, ap, arith}
use Rattle.jul_base.specs.CoverRounds.{set_at}
use Rattle.jul_cover.specs.Keeping.{capped}
use Rattle.jul_cover.proofs.HolderLaws.{laid_more}
use Rattle.jul_cover.proofs.holding.graph_of.Goals as goal

pub loop-s-preserved : goal.loop-s-preserved
loop-s-preserved c =
    let len : c.len.result ≡ length c.loop-s.targets.items = omega arith in
    let offsets : c.push.new.self.items ≡ c.loop-s.offsets.items ++ capped (length c.loop-s.targets.items) ∷ [] =
    c.in_ok-push.ensures.items ∙ ap (λ k. c.loop-s.offsets.items ++ k ∷ []) (c.offset_at.ensures ∙ ap capped len) in
    let targets : c.extend_from_slice.new.self.items ≡ c.loop-s.targets.items ++ set_at c.args.sets.now c.loop-s.s =
    c.in_ok-extend_from_slice.ensures.items ∙ ap (λ l. c.loop-s.targets.items ++ l) c.set.ensures.set in
    laid_more c.args.sets.now c.loop-s.s c.loop-s.offsets.items c.loop-s.targets.items c.push.new.self.items c.extend_from_slice.new.self.items c.loop-s.invariant offsets targets
