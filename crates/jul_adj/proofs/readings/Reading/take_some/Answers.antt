use Rattle.std.proofs.Common.{◌≡◌, ◌+◌, [], ◌∷◌, get_or, subst, sym, ap}
use Rattle.jul_text.specs.declared.shapes.Shape.TheVariants.{Plain}
use Rattle.jul_text.specs.declared.shapes.Mark.{Mark}
use Rattle.jul_adj.specs.Storing.{AreMarks}
use Rattle.jul_adj.specs.Readings.{HasRead}
use Rattle.jul_adj.proofs.StepLaws.{one_mark}
use Rattle.jul_adj.proofs.readings.Reading.take_some.Goals as goal

abbrev blank : Mark
blank = record { start = 0; shape = Plain }

pub returns-in-2-clause-read : goal.returns-in-2-clause-read
returns-in-2-clause-read c ws h are =
    let next : 3 ≡ c.args.self.now.token + 1 = sym (ap (λ t. t + 1) c.in-2.is) in
    let mark : AreMarks ws 2 (get_or c.args.marks.now 0 blank ∷ []) = subst (λ t. AreMarks ws t (get_or c.args.marks.now 0 blank ∷ [])) c.in-2.is (one_mark ws c.args.self.now.token c.args.marks.now blank are c.requires.some) in
    subst (λ t. HasRead ws t c.take_places.new.self) next (c.take_places.ensures ws (subst (λ t. HasRead ws t c.args.self.now) c.in-2.is h) mark)
