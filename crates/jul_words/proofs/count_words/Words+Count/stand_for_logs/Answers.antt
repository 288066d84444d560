use Rattle.jul_words.proofs.Counting.{stand_for}
use Rattle.jul_words.proofs.count_words.Words+Count.stand_for_logs.Goals as goal

pub returns : goal.returns
returns c = stand_for
