use Rattle.jul_words.proofs.Tallies.{settles}
use Rattle.jul_words.proofs.count_words.CountMeaning.settle.Goals as goal

pub returns : goal.returns
returns c = λ h words history log means same table. settles h words history log means same
