use Rattle.jul_words.proofs.Minima.{settles}
use Rattle.jul_words.proofs.min_words.LeastMeaning.settle.Goals as goal

pub returns : goal.returns
returns c = λ h words history log means same table. settles h words history log means same
