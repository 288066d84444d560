-- A whole round in one call, its ids as a subset, its moves one by one, and how many adds the log has.
use Rattle.std.proofs.Common.{◌≡◌, ℕ, ◌+◌, ◌<◌, Bool, eqb, [], ◌∷◌, ◌++◌, length, get_or, sym, ◌∙◌, ap, subst, arith}
use Rattle.std.specs.List.{sum_by}
use Rattle.std.proofs.lemmas.List.Kept.{IsStrictlyIncreasing-filter}
use Rattle.jul_base.specs.Numbers.{below}
use Rattle.jul_base.specs.Graph.{vertices, places}
use Rattle.jul_base.proofs.SetLaws.{IsStrictlyIncreasing-below, Contains-from_filter, below-Contains, Contains-from_has}
use Rattle.jul_base.proofs.PeelLaws.{All-from_has}
use Rattle.jul_core.specs.Peels.{IsLowered, IsPeeled}
use Rattle.jul_bucket.specs.declared.draws.Draw.{Draw}
use Rattle.jul_bucket.specs.Places.{ids_at}
use Rattle.jul_count.specs.Adds.{places_of}
use Rattle.jul_count.specs.Counts.{AreNotedCounts}
use Rattle.jul_core.proofs.PeelStatements.{AddsAreFew, IdsAreASubset, WholeRoundsKeep}
use Rattle.jul_core.proofs.DrawLaws.{draws_sum}
use Rattle.jul_core.proofs.PlaceSumLaws.{all_rows}
use Rattle.jul_core.proofs.AddLaws.{count_adds, all_below}
use Rattle.jul_core.proofs.LowerLaws.{counts_lower}
use Rattle.jul_core.proofs.PeelStatementLaws.{rounds_keep}

pub whole_rounds_keep : WholeRoundsKeep
whole_rounds_keep g t bucket old new ids draws draws' counts lawful symmetric peeled first ids_are counts_are new_is draws_are =
    let counts' : AreNotedCounts g (ids_at old bucket) counts = subst (λ l. AreNotedCounts g l counts) ids_are counts_are in
    let lowered : IsLowered g old bucket new = subst (IsLowered g old bucket) (sym new_is) (counts_lower g old bucket counts peeled.places_are.size first counts') in
    let drawn : draws' ≡ draws ++ record { bucket = bucket; ids = ids_at old bucket } ∷ [] =
    draws_are ∙ ap (λ l. draws ++ (let d : Draw = record { bucket = bucket; ids = l } in d) ∷ []) ids_are in
    subst (IsPeeled g (t + 1) new) (sym drawn) (rounds_keep g t bucket old new draws lawful symmetric peeled first lowered)

pub ids_are_a_subset : IdsAreASubset
ids_are_a_subset g column bucket size =
    let p : ℕ → Bool = λ id. eqb (get_or column id 0) bucket in (
      IsStrictlyIncreasing-filter p (below (length column)) (IsStrictlyIncreasing-below (length column)),
      All-from_has (λ v. v < vertices g) (ids_at column bucket)
          (λ v h.
          let held : v < length column = below-Contains (length column) v (Contains-from_filter p (below (length column)) v (Contains-from_has (ids_at column bucket) v h)).0 in
          omega arith),
    )

pub adds_are_few : AddsAreFew
adds_are_few g t column draws log lawful peeled adds =
    let f : ℕ → ℕ = λ v. sum_by (λ (p : ℕ). 1) (places_of g v) in
    omega (
      arith,
      count_adds g draws log adds,
      ap (sum_by (λ (d : Draw). sum_by f d.ids)) peeled.draws_are,
      draws_sum g f t,
      all_rows g lawful (λ (p : ℕ). 1),
      all_below (places g),
    )
