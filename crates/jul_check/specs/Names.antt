-- The names of the reasons.
use Rattle.std.specs.Prelude.{ℕ, List, codes}
use Rattle.jul_check.specs.declared.verdicts.Reason.{Reason}
use Rattle.jul_check.specs.declared.verdicts.Reason.TheVariants.{LowerBound, UpperBound, Order, Source, Lowerable, Parent, Unreached, NotCovered, NotHeld, NotChosen, NoElement}

-- the name of a reason, as it is told
abbrev pub reason_name : Reason → List ℕ
reason_name LowerBound = codes "LowerBound"
reason_name UpperBound = codes "UpperBound"
reason_name Order = codes "Order"
reason_name Source = codes "Source"
reason_name Lowerable = codes "Lowerable"
reason_name Parent = codes "Parent"
reason_name Unreached = codes "Unreached"
reason_name NotCovered = codes "NotCovered"
reason_name NotHeld = codes "NotHeld"
reason_name NotChosen = codes "NotChosen"
reason_name NoElement = codes "NoElement"
