use Rattle.jul_words.proofs.Lowering.{stand_for}
use Rattle.jul_words.proofs.min_words.Words+Least.stand_for_logs.Goals as goal

pub returns : goal.returns
returns c = stand_for
