use Rattle.std.proofs.Common.{ℕ, Option, sym, subst}
use Rattle.jul_query.proofs.SourceLaws.{IsPlaceOf, IsPlaceOf-found}
use Rattle.jul_query.proofs.sources.place_of.Goals as goal

pub returns : goal.returns
returns c =
    let P : Option ℕ → Type 0 = IsPlaceOf c.args.numbers.now c.args.number in
    let placed = subst P (sym c.err.ensures.value) (IsPlaceOf-found c.args.numbers.now c.args.number c.binary_search.result c.requires c.binary_search.ensures.position) in
    record { there = placed.there; within = placed.within; place = placed.place }
