use Rattle.std.proofs.Common.{sym, ◌∙◌}
use Rattle.jul_cmd.proofs.SourceLaws.{ends_apart}
use Rattle.jul_cmd.proofs.sources.difference.Goals as goal

pub returns-else-named-given : goal.returns-else-named-given
returns-else-named-given c =
    sym (ends_apart c.args.named.now c.args.given.now _ c.loop-at.at c.min-common.ensures c.loop-at-test.false c.loop-at.auto.at-end c.if-named-given.false) ∙ c.loop-at.invariant
