use Rattle.jul_base.proofs.LogLaws.{empty_log-append}
use Rattle.jul_words.proofs.pairs.BothShare.split.Goals as goal

pub returns-clause-empty : goal.returns-clause-empty
returns-clause-empty g c = rw (empty_log-append, c.split-a.ensures.empty, c.split-b.ensures.empty)
