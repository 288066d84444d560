-- The adds of the log: one for each place from a drawn vertex, and at the end one for each place.
use Rattle.std.proofs.Common.{◌≡◌, ℕ, zero, suc, ◌<◌, ◌≤◌, Bool, true, false, ◌&&◌, eqb, cond, List, [], sym, ◌∙◌, ap, refl, arith, inl, inr}
use Rattle.std.specs.List.{sum_by, count_by}
use Rattle.std.proofs.lemmas.Bool.{cases_eq, cond-true, cond-false, eq-eqb, ne_eqb}
use Rattle.std.proofs.lemmas.List.Sums.{sum_by-append, sum_by_push}
use Rattle.jul_base.specs.declared.graphs.RawGraph.{RawGraph}
use Rattle.jul_base.specs.Numbers.{below}
use Rattle.jul_base.specs.Logs.{Entry, ADD}
use Rattle.jul_base.specs.Graph.{places, target, IsLawful}
use Rattle.jul_core.specs.Peels.{IsPeeled}
use Rattle.jul_bucket.specs.declared.draws.Draw.{Draw}
use Rattle.jul_bucket.specs.Places.{AllNone}
use Rattle.jul_core.specs.PeelPlaces.{HasAddsOf}
use Rattle.jul_count.specs.Adds.{weight_from, add_weight}
use Rattle.jul_core.proofs.PeelStatements.{AddsKeep, AddsAreAll}
use Rattle.jul_base.proofs.CountLaws.{sum_by-same_in}
use Rattle.jul_count.proofs.SumLaws.{sum_by-same}
use Rattle.jul_core.proofs.PlaceSumLaws.{below-more}
use Rattle.jul_core.proofs.PeelStatementLaws.{places_are_counted_once}

pub adds_start : (g : RawGraph) → HasAddsOf g [] []
adds_start g weight = refl

pub adds_keep : AddsKeep
adds_keep g draws draw log gained has_log has_gained weight =
    omega (
      arith,
      sum_by-append (add_weight weight) log gained,
      sum_by_push (λ (d : Draw). weight_from g (λ p. weight (target g p) p) d.ids) draws draw,
      has_log weight,
      has_gained weight,
    )

-- the adds weigh as much as all places
all_adds : (g : RawGraph) (t : ℕ) (column : List ℕ) (draws : List Draw) (log : List Entry) → IsLawful g → IsPeeled g t column draws → AllNone column →
    HasAddsOf g draws log → (weight : ℕ → ℕ → ℕ) → sum_by (add_weight weight) log ≡ sum_by (λ p. weight (target g p) p) (below (places g))
all_adds g t column draws log lawful peeled none adds weight =
    adds weight ∙ places_are_counted_once g t column draws lawful peeled none (λ p. weight (target g p) p)

-- ---- weights that count

both_tests : (a b : Bool) → cond {A = ℕ} (a && b) 1 0 ≡ cond a (cond {A = ℕ} b 1 0) 0
both_tests true b = refl
both_tests false b = refl

one_test : (a : Bool) → cond {A = ℕ} a 1 0 ≡ cond a 1 0
one_test a = refl

-- one of the numbers below m is p, and none where p isn't below m
none_below : (p m : ℕ) → m ≤ p → sum_by (λ q. cond {A = ℕ} (eqb q p) 1 0) (below m) ≡ 0
none_below p zero le = refl
none_below p (suc m) le =
    let last : cond {A = ℕ} (eqb m p) 1 0 ≡ 0 = cond-false _ _ _ (ne_eqb m p (λ same. absurd (omega arith))) in
    omega (arith, below-more (λ q. cond {A = ℕ} (eqb q p) 1 0) m, none_below p m (omega arith))

one_below : (p m : ℕ) → p < m → sum_by (λ q. cond {A = ℕ} (eqb q p) 1 0) (below m) ≡ 1
one_below p zero lt = absurd (omega arith)
one_below p (suc m) lt =
    elim (cases_eq m p) [
      | inl same ↦
          let last : cond {A = ℕ} (eqb m p) 1 0 ≡ 1 = cond-true _ _ _ (eq-eqb m p same) in
          omega (arith, below-more (λ q. cond {A = ℕ} (eqb q p) 1 0) m, none_below p m (omega arith))
      | inr other ↦
          let last : cond {A = ℕ} (eqb m p) 1 0 ≡ 0 = cond-false _ _ _ (ne_eqb m p other) in
          omega (arith, below-more (λ q. cond {A = ℕ} (eqb q p) 1 0) m, one_below p m (omega arith))
    ]

pub all_below : (m : ℕ) → sum_by (λ (q : ℕ). 1) (below m) ≡ m
all_below zero = refl
all_below (suc m) = omega (arith, below-more (λ (q : ℕ). 1) m, all_below m)

-- a place that is p leads to p's target
target_test : (g : RawGraph) (p q : ℕ) → cond {A = ℕ} (eqb (target g q) (target g p) && eqb q p) 1 0 ≡ cond (eqb q p) 1 0
target_test g p q =
    elim (cases_eq q p) [
      | inl same ↦ ap (λ b. cond {A = ℕ} (b && eqb q p) 1 0) (eq-eqb (target g q) (target g p) (ap (target g) same))
      | inr other ↦ second (eqb (target g q) (target g p)) (eqb q p) (ne_eqb q p other)
    ] where
      second : (a b : Bool) → b ≡ false → cond {A = ℕ} (a && b) 1 0 ≡ cond b 1 0
      second true b is = refl
      second false b is = sym (cond-false _ _ _ is)

-- how many adds there are
pub count_adds : (g : RawGraph) (draws : List Draw) (log : List Entry) → HasAddsOf g draws log →
    count_by (λ (e : Entry). eqb e.kind ADD) log ≡ sum_by (λ (d : Draw). weight_from g (λ p. 1) d.ids) draws
count_adds g draws log adds =
    sum_by-same (λ e. cond {A = ℕ} (eqb e.kind ADD) 1 0) (add_weight (λ v q. 1)) log (λ e. one_test (eqb e.kind ADD)) ∙ adds (λ v q. 1)

pub adds_are_all : AddsAreAll
adds_are_all g t column draws log lawful peeled none adds = record {
  once = λ p lt.
      sum_by-same (λ e. cond {A = ℕ} (eqb e.kind ADD && eqb e.number p) 1 0) (add_weight (λ v q. cond {A = ℕ} (eqb q p) 1 0)) log
      (λ e. both_tests (eqb e.kind ADD) (eqb e.number p))
      ∙ all_adds g t column draws log lawful peeled none adds (λ v q. cond {A = ℕ} (eqb q p) 1 0)
      ∙ one_below p (places g) lt;
  targets = λ p lt.
      let f : ℕ → ℕ → ℕ = λ v q. cond {A = ℕ} (eqb v (target g p) && eqb q p) 1 0 in
      sum_by-same (λ e. cond {A = ℕ} (eqb e.kind ADD && (eqb e.vertex (target g p) && eqb e.number p)) 1 0) (add_weight f) log
      (λ e. both_tests (eqb e.kind ADD) (eqb e.vertex (target g p) && eqb e.number p))
      ∙ all_adds g t column draws log lawful peeled none adds f
      ∙ sum_by-same_in (λ q. f (target g q) q) (λ q. cond {A = ℕ} (eqb q p) 1 0) (below (places g)) (λ q held. target_test g p q)
      ∙ one_below p (places g) lt;
  total =
      sum_by-same (λ e. cond {A = ℕ} (eqb e.kind ADD) 1 0) (add_weight (λ v q. 1)) log (λ e. one_test (eqb e.kind ADD))
      ∙ all_adds g t column draws log lawful peeled none adds (λ v q. 1)
      ∙ all_below (places g);
}
