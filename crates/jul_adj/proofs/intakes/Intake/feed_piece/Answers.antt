use Rattle.std.proofs.Common.{◌++◌, take, subst, arith}
use Rattle.std.specs.Prelude.{OnOk}
use Rattle.jul_text.specs.Cuts.{IsWhiteSpan}
use Rattle.jul_adj.specs.Intakes.{HasTaken}
use Rattle.jul_adj.proofs.IntakeLaws.{block_parts, front_ends_white}
use Rattle.jul_adj.proofs.intakes.Intake.feed_piece.Goals as goal

pub returns-in_ok-feed_cut-in-Some-clause-taken : goal.returns-in_ok-feed_cut-in-Some-clause-taken
returns-in_ok-feed_cut-in-Some-clause-taken c b h =
    let block = c.args.piece.now in
    let span : IsWhiteSpan block c.in-Some.first c.in-Some.last = c.in-Some.ensures.some in
    let one : HasTaken (b ++ take c.in-Some.first block) c.feed.new.self = c.in_ok-feed-in-Some.ensures.taken b h in
    let two = c.in_ok-feed_cut-in-Some.ensures.taken (b ++ take c.in-Some.first block) one (front_ends_white b block c.in-Some.first span.first (omega (arith, span.rising, span.within))) in
    subst (λ b. OnOk c.feed-in-Some.result (HasTaken b c.feed-in-Some.new.self)) (block_parts b block c.in-Some.first c.in-Some.last span.rising span.within) (c.feed-in-Some.ensures.taken _ two)
