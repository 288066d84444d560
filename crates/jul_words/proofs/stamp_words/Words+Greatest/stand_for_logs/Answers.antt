use Rattle.jul_words.proofs.Stamping.{stand_for}
use Rattle.jul_words.proofs.stamp_words.Words+Greatest.stand_for_logs.Goals as goal

pub returns : goal.returns
returns c = stand_for
