use Rattle.std.proofs.Common.{◌≡◌, ◌+◌, ◌-◌, ◌≤◌, ◌++◌, ℕ, length, take, drop, sym, ◌∙◌, ap, subst, arith, append_assoc}
use Rattle.std.proofs.lemmas.List.{take_all, length-take-le, length-drop}
use Rattle.std.proofs.Math.Seq.{take-add}
use Rattle.jul_adj.specs.Intakes.{HasTaken}
use Rattle.jul_adj.proofs.intakes.Intake.feed_pieces.Goals as goal

pub loop-at-preserved : goal.loop-at-preserved
loop-at-preserved c =
    let at : ℕ = c.loop-at.at in
    let count : ℕ = c.min-count.result in
    let bytes = c.args.bytes.now in
    let size : at + count - at ≡ count = omega arith in
    let few : count + at ≤ length bytes = omega (arith, c.min-count.ensures, c.loop-at-test.true) in
    let piece : length (take (at + count - at) (drop at bytes)) ≡ count = ap (λ n. length (take n (drop at bytes))) size ∙ length-take-le count (drop at bytes) (omega (arith, length-drop at bytes, few)) in
    record {
      within = omega (arith, few);
      count = omega (arith, c.in_ok-feed_piece.ensures.count, c.loop-at.invariant.count, piece);
      taken = λ b h.
          let on : (b ++ take at bytes) ++ take (at + count - at) (drop at bytes) ≡ b ++ take (at + count) bytes =
          append_assoc b (take at bytes) (take (at + count - at) (drop at bytes)) ∙ ap (λ xs. b ++ xs) (ap (λ n. take at bytes ++ take n (drop at bytes)) size ∙ sym (take-add at count bytes)) in
          subst (λ b. HasTaken b c.feed_piece.new.self) on (c.in_ok-feed_piece.ensures.taken (b ++ take at bytes) (c.loop-at.invariant.taken b h));
    }

pub returns-clause-taken : goal.returns-clause-taken
returns-clause-taken c b h =
    subst (λ xs. HasTaken (b ++ xs) c.loop-at.self) (take_all c.loop-at.at c.args.bytes.now c.loop-at-test.false) (c.loop-at.invariant.taken b h)
