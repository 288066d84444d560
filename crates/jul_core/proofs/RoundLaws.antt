-- One round: the first bucket is the bound, its ids are those taken, and the lowered places are those of the next round.
use Rattle.std.proofs.Common.{◌≡◌, ℕ, ◌-◌, ◌<◌, ◌≤◌, max, true, false, eqb, List, length, get_or, sym, ◌∙◌, ap, arith, inl, inr}
use Rattle.std.specs.List.{Contains}
use Rattle.std.proofs.lemmas.Bool.{cases_lt, cases_Bool, cond-true, cond-false, eq-eqb, eqb-true, both_ways, false_from_ne_true}
use Rattle.std.proofs.lemmas.List.{get_or_default}
use Rattle.std.proofs.lemmas.List.Kept.{IsStrictlyIncreasing-filter}
use Rattle.jul_base.specs.declared.graphs.RawGraph.{RawGraph}
use Rattle.jul_base.specs.declared.limits.TheConstants.{NONE}
use Rattle.jul_base.specs.Numbers.{below}
use Rattle.jul_base.specs.Graph.{vertices, IsLawful}
use Rattle.jul_base.specs.Symmetry.{IsSymmetric}
use Rattle.jul_base.specs.Sets.{has}
use Rattle.jul_base.specs.Coreness.{inner_degree}
use Rattle.jul_base.specs.Levels.{Peeling, next_bound, taken, after_round}
use Rattle.jul_base.proofs.SetLaws.{IsStrictlyIncreasing-below, increasing_unique, Contains-filter, Contains-from_filter, Contains-below, below-Contains, has-from_Contains, Contains-from_has}
use Rattle.jul_core.specs.Peels.{place_in, ArePlaces, IsLowered}
use Rattle.jul_count.specs.Counts.{reaching}
use Rattle.jul_bucket.specs.Places.{ids_at}
use Rattle.jul_core.specs.FirstHeld.{IsFirstHeld}
use Rattle.jul_core.proofs.StageLaws.{IsStage, inner_degree-few, next_bound-few, least-le, least-is, taken-is, taken-here, stays-is, stays-here, lost}

-- the place of one who is left, and of one who is not
pub place-left : (g : RawGraph) (p : Peeling) (v : ℕ) → has p.left v ≡ true → place_in g p v ≡ max p.bound (inner_degree g p.left v)
place-left g p v h = cond-true _ _ _ h

pub place-gone : (g : RawGraph) (p : Peeling) (v : ℕ) → has p.left v ≡ false → place_in g p v ≡ NONE
place-gone g p v h = cond-false _ _ _ h

pub place-small : (g : RawGraph) → IsLawful g → (p : Peeling) → IsStage g p → (v : ℕ) → has p.left v ≡ true → place_in g p v < NONE
place-small g lawful p stage v h = omega (arith, place-left g p v h, stage.few, inner_degree-few g lawful p.left v)

-- whose place isn't NONE is left
pub left-from_place : (g : RawGraph) (p : Peeling) (v place : ℕ) → place_in g p v ≡ place → place < NONE → has p.left v ≡ true
left-from_place g p v place is lt =
    elim (cases_Bool (has p.left v)) [
      | inl h ↦ h
      | inr none ↦ absurd (omega (arith, place-gone g p v none, is))
    ]

-- the least inner degree is at most that of any who is left, so no place is below the next bound
pub bound-le : (g : RawGraph) (p : Peeling) (v : ℕ) → has p.left v ≡ true → next_bound g p ≤ max p.bound (inner_degree g p.left v)
bound-le g p v h = omega (arith, least-le (inner_degree g p.left) p.left v h)

-- who is taken has the next bound as place, and who stays has the inner degree
pub place-taken : (g : RawGraph) (p : Peeling) (v : ℕ) → has p.left v ≡ true → inner_degree g p.left v ≤ next_bound g p → place_in g p v ≡ next_bound g p
place-taken g p v h le = omega (arith, place-left g p v h, bound-le g p v h)

pub place-stays : (g : RawGraph) (p : Peeling) (v : ℕ) → has p.left v ≡ true → next_bound g p < inner_degree g p.left v → place_in g p v ≡ inner_degree g p.left v
place-stays g p v h lt = omega (arith, place-left g p v h)

pub first-is_bound : (g : RawGraph) → IsLawful g → (p : Peeling) → IsStage g p → (places : List ℕ) (bucket : ℕ) → ArePlaces g p places → IsFirstHeld places bucket →
    bucket ≡ next_bound g p
first-is_bound g lawful p stage places bucket are first =
    let (v, v_lt, at) = first.held in
    let v_in : v < vertices g = omega (arith, are.size) in
    let here : place_in g p v ≡ bucket = sym (are.each v v_in) ∙ get_or_default places v 0 bucket v_lt ∙ at in
    let v_left : has p.left v ≡ true = left-from_place g p v bucket here first.is_bucket in
    let (u, u_left, least) = least-is (inner_degree g p.left) p.left v v_left in
    let u_in : u < vertices g = stage.within u u_left in
    let there : get_or places u 0 ≡ next_bound g p = are.each u u_in ∙ place-left g p u u_left ∙ omega (arith, least) in
    let le : bucket ≤ get_or places u 0 = first.first u 0 (omega (arith, are.size)) (omega (arith, next_bound-few g lawful p stage.few)) in
    omega (arith, bound-le g p v v_left, place-left g p v v_left)

pub ids-are_taken : (g : RawGraph) → IsLawful g → (p : Peeling) → IsStage g p → (places : List ℕ) → ArePlaces g p places →
    ids_at places (next_bound g p) ≡ taken g p
ids-are_taken g lawful p stage places are =
    increasing_unique (ids_at places (next_bound g p)) (taken g p)
    (IsStrictlyIncreasing-filter (λ id. eqb (get_or places id 0) (next_bound g p)) (below (length places)) (IsStrictlyIncreasing-below (length places)))
    (IsStrictlyIncreasing-filter _ p.left stage.rises)
    (λ v held.
    let parts : Contains (below (length places)) v × (eqb (get_or places v 0) (next_bound g p) ≡ true) =
    Contains-from_filter (λ id. eqb (get_or places id 0) (next_bound g p)) (below (length places)) v held in
    let v_lt : v < length places = below-Contains (length places) v parts.0 in
    let here : place_in g p v ≡ next_bound g p = sym (are.each v (omega (arith, are.size))) ∙ eqb-true _ _ parts.1 in
    let v_left : has p.left v ≡ true = left-from_place g p v (next_bound g p) here (omega (arith, next_bound-few g lawful p stage.few)) in
    Contains-from_has (taken g p) v (taken-here g p v v_left (omega (arith, place-left g p v v_left))))
    (λ v held.
    let parts : (has p.left v ≡ true) × (inner_degree g p.left v ≤ next_bound g p) = taken-is g p v (has-from_Contains (taken g p) v held) in
    let v_in : v < vertices g = stage.within v parts.0 in
    let here : get_or places v 0 ≡ next_bound g p = are.each v v_in ∙ place-taken g p v parts.0 parts.1 in
    Contains-filter (λ id. eqb (get_or places id 0) (next_bound g p)) (below (length places)) v (Contains-below (length places) v (omega (arith, are.size))) (eq-eqb _ _ here))

-- lowered places are those of the next round
pub places-next : (g : RawGraph) → IsLawful g → IsSymmetric g → (p : Peeling) → IsStage g p → (old new : List ℕ) → ArePlaces g p old →
    IsLowered g old (next_bound g p) new → ArePlaces g (after_round g p) new
places-next g lawful symmetric p stage old new are lowered = record {
  size = lowered.size ∙ are.size;
  each = λ v v_in.
      let v_lt : v < length old = omega (arith, are.size) in
      elim (cases_Bool (has p.left v)) [
        | inr gone ↦
            let still : has (after_round g p).left v ≡ false = false_from_ne_true _ (λ h. both_ways _ gone (stays-is g p v h).0) in
            lowered.gone v v_lt (are.each v v_in ∙ place-gone g p v gone) ∙ sym (place-gone g (after_round g p) v still)
        | inl left ↦
            elim (cases_lt (next_bound g p) (inner_degree g p.left v)) [
              | inr le ↦
                  let now : has (after_round g p).left v ≡ false = false_from_ne_true _ (λ h. absurd (omega (arith, (stays-is g p v h).1))) in
                  lowered.drawn v v_lt (are.each v v_in ∙ place-taken g p v left le) ∙ sym (place-gone g (after_round g p) v now)
              | inl lt ↦
                  let stays : has (after_round g p).left v ≡ true = stays-here g p v left lt in
                  let place : get_or old v 0 ≡ inner_degree g p.left v = are.each v v_in ∙ place-stays g p v left lt in
                  let some : get_or old v 0 < NONE = omega (arith, are.each v v_in, place-small g lawful p stage v left) in
                  let is : get_or new v 0 ≡ max (next_bound g p) (get_or old v 0 - reaching g (ids_at old (next_bound g p)) v) =
                  lowered.left v v_lt (omega arith) (omega arith) in
                  let same : reaching g (ids_at old (next_bound g p)) v ≡ reaching g (taken g p) v =
                  ap (λ ids. reaching g ids v) (ids-are_taken g lawful p stage old are) in
                  omega (arith, is, same, place, lost g symmetric p stage v v_in, place-left g (after_round g p) v stays)
            ]
      ];
}
