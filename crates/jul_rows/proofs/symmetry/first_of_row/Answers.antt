use Rattle.std.proofs.Common.{ℕ, ◌+◌, ◌<◌, ◌≤◌, List, length, get_or, sym, ◌∙◌, subst, arith}
use Rattle.std.proofs.lemmas.List.{get_or_default}
use Rattle.jul_base.specs.declared.graphs.RawGraph.{RawGraph}
use Rattle.jul_base.specs.Graph.{row}
use Rattle.jul_base.proofs.InRowLaws.{length-in_places}
use Rattle.jul_rows.specs.Balance.{IsTallyOf, IsFirstOfRow, IsFirstExcess}
use Rattle.jul_rows.proofs.BalanceLaws.{IsBalancedRow-from_tallies, IsFirstOfRow-from_excess}
use Rattle.jul_rows.proofs.symmetry.first_of_row.Goals as goal

pub count-requires-2-clause-few : goal.count-requires-2-clause-few
count-requires-2-clause-few c =
    omega (arith, c.requires.sources.size, length-in_places c.args.rows.now c.args.u, c.requires.lawful.few_places)

pub uncount-requires-2-clause-in_range : goal.uncount-requires-2-clause-in_range
uncount-requires-2-clause-in_range c k d lt =
    let place = c.requires.sources.each k (omega (arith, c.requires.sources.size, lt)) in
    omega (
      arith,
      place.vertex,
      get_or_default c.args.sources.now k d 0 lt,
      c.count-2.ensures.size,
      c.requires.from_size,
    )

-- what is found in the tallies is found in the row
pub returns-in-Some-clause-first : goal.returns-in-Some-clause-first
returns-in-Some-clause-first c =
    let g : RawGraph = c.args.rows.now in
    let u : ℕ = c.args.u in
    let to : List ℕ = c.count.new.self in
    let from : List ℕ = c.count-2.new.self in
    let P : List ℕ → Type 0 = λ l. IsTallyOf l to in
    let Q : List ℕ → Type 0 = λ l. IsFirstExcess l to from c.in-Some.k in
    let R : ℕ → Type 0 = λ start. IsFirstOfRow g u (start + c.in-Some.k) in
    let counted : IsTallyOf (row g u) to = subst P c.row-row.ensures.row c.count.ensures.counted in
    let first : IsFirstExcess (row g u) to from c.in-Some.k = subst Q c.row-row.ensures.row c.in-Some.ensures.some in
    subst R (sym c.first_place.ensures.place)
    (IsFirstOfRow-from_excess g c.requires.lawful u c.in-Some.k c.args.sources.now to from c.requires.vertex c.requires.sources (c.count.ensures.size ∙ c.requires.to_size) (c.count-2.ensures.size ∙ c.requires.from_size) counted c.count-2.ensures.counted first)

pub returns-in-None-clause-first : goal.returns-in-None-clause-first
returns-in-None-clause-first c =
    let g : RawGraph = c.args.rows.now in
    let u : ℕ = c.args.u in
    let to : List ℕ = c.count.new.self in
    let from : List ℕ = c.count-2.new.self in
    let P : List ℕ → Type 0 = λ l. IsTallyOf l to in
    let Q : List ℕ → Type 0 = λ l. (k : ℕ) → k < length l → get_or to (get_or l k 0) 0 ≤ get_or from (get_or l k 0) 0 in
    let counted : IsTallyOf (row g u) to = subst P c.row-row.ensures.row c.count.ensures.counted in
    let none : Q (row g u) = subst Q c.row-row.ensures.row c.in-None.ensures.none in
    IsBalancedRow-from_tallies g c.requires.lawful u c.args.sources.now to from c.requires.sources (c.count.ensures.size ∙ c.requires.to_size) (c.count-2.ensures.size ∙ c.requires.from_size) counted c.count-2.ensures.counted none
