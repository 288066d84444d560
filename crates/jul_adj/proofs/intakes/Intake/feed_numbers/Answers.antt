use Rattle.std.proofs.Common.{◌++◌, take, subst, arith}
use Rattle.std.specs.Prelude.{OnOk}
use Rattle.jul_text.specs.Cuts.{IsWhiteSpan}
use Rattle.jul_adj.specs.Intakes.{HasTaken}
use Rattle.jul_adj.proofs.IntakeLaws.{block_parts, front_ends_white}
use Rattle.jul_adj.proofs.intakes.Intake.feed_numbers.Goals as goal

pub returns-clause-taken : goal.returns-clause-taken
returns-clause-taken c b h =
    let bytes = c.args.bytes.now in
    let first = c.args.numbers.now.first in
    let last = c.args.numbers.now.last in
    let span : IsWhiteSpan bytes first last = c.requires.numbers.span in
    let one : HasTaken (b ++ take first bytes) c.feed.new.self = c.in_ok-feed.ensures.taken b h in
    let two = c.in_ok-feed_cuts.ensures.taken (b ++ take first bytes) one (front_ends_white b bytes first span.first (omega (arith, span.rising, span.within))) in
    subst (λ b. OnOk c.feed-2.result (HasTaken b c.feed-2.new.self)) (block_parts b bytes first last span.rising span.within) (c.feed-2.ensures.taken _ two)
