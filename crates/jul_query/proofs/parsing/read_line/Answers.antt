use Rattle.std.proofs.Common.{◌∙◌, sym, ap}
use Rattle.jul_query.specs.Asking.{named_sources}
use Rattle.jul_query.specs.CommandLines.{split_by}
use Rattle.jul_query.proofs.QueryLaws.{asked_unlisted}
use Rattle.jul_query.proofs.parsing.read_line.Goals as goal

pub returns-in-None-clause-asked : goal.returns-in-None-clause-asked
returns-in-None-clause-asked c =
    sym (asked_unlisted (split_by c.args.line.now) (sym c.in_ok-sources.ensures.value ∙ ap named_sources c.in-None.is))
