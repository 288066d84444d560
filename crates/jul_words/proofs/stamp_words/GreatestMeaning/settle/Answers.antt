use Rattle.jul_words.proofs.Maxima.{settles}
use Rattle.jul_words.proofs.stamp_words.GreatestMeaning.settle.Goals as goal

pub returns : goal.returns
returns c = λ h words history log means same table. settles h words history log means same
