-- Corenesses with the rounds of peeling as levels fail no reason.
use Rattle.std.proofs.Common.{◌≡◌, ℕ, zero, suc, ◌+◌, ◌-◌, ◌<◌, ◌≤◌, Bool, true, false, not, ◌&&◌, ltb, leb, List, [], ◌∷◌, sym, subst, refl, ap, arith, inl, inr}
use Rattle.std.specs.List.{Contains}
use Rattle.std.proofs.lemmas.Bool.{cases_Bool, cases_lt, both_ways, le-ltb, lt-ltb, le-leb, leb-true, and_left, and_right, or_left, not-true}
use Rattle.std.proofs.lemmas.Bool.Decides.{nat_tests}
use Rattle.std.proofs.lemmas.List.Folds.{list_any_none}
use Rattle.std.proofs.lemmas.List.Elements.{All-contains}
use Rattle.jul_base.specs.declared.graphs.RawGraph.{RawGraph}
use Rattle.jul_base.specs.declared.results.Cores.{Cores}
use Rattle.jul_base.specs.Numbers.{below, IsColumn}
use Rattle.jul_base.specs.Graph.{vertices, row, IsLawful}
use Rattle.jul_base.specs.Sets.{has}
use Rattle.jul_base.specs.Coreness.{inner_degree, IsCoreness}
use Rattle.jul_base.specs.Levels.{Peeling, next_bound, taken, after_round, peeling, IsLevel}
use Rattle.jul_base.proofs.NumberLaws.{IsGreatest-unique}
use Rattle.jul_base.proofs.PeelLaws.{has_filter, has-from_Contains, Contains-from_has, All-from_has, below_from_has, level_bound}
use Rattle.jul_check.specs.declared.verdicts.Reason.{Reason}
use Rattle.jul_check.specs.declared.verdicts.Reason.TheVariants as reasons
use Rattle.jul_check.specs.declared.verdicts.Verdict.TheVariants.{Yes}
use Rattle.jul_check.specs.CoreChecks.{core_of, level_of, is_before, at_least, not_before, core_reasons, fails_cores, cores_verdict}
use Rattle.jul_check.proofs.VerdictLaws.{all_yes, find_past}
use Rattle.jul_check.proofs.CoreCheckLaws.{count_by-le, row_in_range}

-- ---- rounds

-- the bound after round t
abbrev bound : RawGraph → ℕ → ℕ
bound g t = (peeling g (suc t)).bound

bound_rises : (g : RawGraph) (t k : ℕ) → bound g t ≤ bound g (t + k)
bound_rises g t zero = let e : t + 0 ≡ t = omega arith in omega (arith, ap (bound g) e)
bound_rises g t (suc k) =
    let e : t + suc k ≡ suc (t + k) = omega arith in
    omega (arith, bound_rises g t k, ap (bound g) e)

bound-le : (g : RawGraph) (s t : ℕ) → s ≤ t → bound g s ≤ bound g t
bound-le g s t le =
    let e : s + (t - s) ≡ t = omega arith in
    omega (arith, bound_rises g s (t - s), ap (bound g) e)

stays : (g : RawGraph) (t k x : ℕ) → has (peeling g (t + k)).left x ≡ true → has (peeling g t).left x ≡ true
stays g t zero x h = let e : t + 0 ≡ t = omega arith in subst (λ r. has (peeling g r).left x ≡ true) e h
stays g t (suc k) x h =
    let e : t + suc k ≡ suc (t + k) = omega arith in
    let now : Peeling = peeling g (t + k) in
    let after : has (after_round g now).left x ≡ true = subst (λ r. has (peeling g r).left x ≡ true) e h in
    stays g t k x (has_filter (λ u. ltb (next_bound g now) (inner_degree g now.left u)) now.left x after).0

record ArePeeled (g : RawGraph) (c : Cores) : Type 0 where
  lawful : IsLawful g
  cores : (v : ℕ) → v < vertices g → IsCoreness g v (core_of c v)
  levels : (v : ℕ) → v < vertices g → IsLevel g v (level_of c v)

core_is_bound : (g : RawGraph) (c : Cores) → ArePeeled g c → (v : ℕ) → v < vertices g → core_of c v ≡ bound g (level_of c v)
core_is_bound g c p v lt = IsGreatest-unique _ _ _ (p.cores v lt) (level_bound g v (level_of c v) (p.levels v lt))

is_taken : (g : RawGraph) (c : Cores) → ArePeeled g c → (v : ℕ) → v < vertices g →
    (has (peeling g (level_of c v)).left v ≡ true) × (leb (inner_degree g (peeling g (level_of c v)).left v) (bound g (level_of c v)) ≡ true)
is_taken g c p v lt =
    let now : Peeling = peeling g (level_of c v) in
    has_filter (λ u. leb (inner_degree g now.left u) (next_bound g now)) now.left v (has-from_Contains (taken g now) v (p.levels v lt))

-- ---- the reasons

lower_passes : (g : RawGraph) (c : Cores) → ArePeeled g c → (v : ℕ) → v < vertices g → fails_cores g c v reasons.LowerBound ≡ false
lower_passes g c p v lt =
    let (s, core, held) = (p.cores v lt).holds in
    let inner : core_of c v ≤ inner_degree g s v = All-contains (λ u. core_of c v ≤ inner_degree g s u) s v core.degrees held in
    let counted : inner_degree g s v ≤ at_least c v (row g v) =
    count_by-le (has s) (λ w. leb (core_of c v) (core_of c w)) (row g v) (λ w in_row in_s.
    let w_held : Contains s w = Contains-from_has s w in_s in
    let w_lt : w < vertices g = All-contains (λ u. u < vertices g) s w core.vertices w_held in
    le-leb _ _ ((p.cores w w_lt).greatest (core_of c v) (s, core, w_held))) in
    le-ltb _ _ (omega (arith, inner, counted))

not_before_later : (c : Cores) (w v : ℕ) → not (is_before c w v) ≡ true → level_of c v ≤ level_of c w
not_before_later c w v h =
    elim (cases_lt (level_of c w) (level_of c v)) [
      | inl lt ↦ absurd (both_ways _ (not-true _ h) (or_left _ _ (lt-ltb _ _ lt)))
      | inr le ↦ le
    ]

later_is_left : (g : RawGraph) (c : Cores) → ArePeeled g c → (v w : ℕ) → w < vertices g → level_of c v ≤ level_of c w →
    has (peeling g (level_of c v)).left w ≡ true
later_is_left g c p v w w_lt le =
    let s : ℕ = level_of c v in
    let e : s + (level_of c w - s) ≡ level_of c w = omega arith in
    stays g s (level_of c w - s) w (subst (λ r. has (peeling g r).left w ≡ true) (sym e) (is_taken g c p w w_lt).0)

upper_passes : (g : RawGraph) (c : Cores) → ArePeeled g c → (v : ℕ) → v < vertices g → fails_cores g c v reasons.UpperBound ≡ false
upper_passes g c p v lt =
    let left : List ℕ = (peeling g (level_of c v)).left in
    let counted : not_before c v (row g v) ≤ inner_degree g left v =
    count_by-le (λ w. not (is_before c w v)) (has left) (row g v) (λ w in_row later.
    later_is_left g c p v w (row_in_range g p.lawful v w in_row) (not_before_later c w v later)) in
    le-ltb _ _ (omega (arith, counted, leb-true _ _ (is_taken g c p v lt).1, core_is_bound g c p v lt))

before_earlier : (c : Cores) (u v : ℕ) → is_before c u v ≡ true → level_of c u ≤ level_of c v
before_earlier c u v h = grind (arith, nat_tests)

order_passes : (g : RawGraph) (c : Cores) → ArePeeled g c → (v : ℕ) → v < vertices g → fails_cores g c v reasons.Order ≡ false
order_passes g c p v lt =
    let test : ℕ → Bool = λ u. is_before c u v && ltb (core_of c v) (core_of c u) in
    list_any_none test (below (vertices g)) (All-from_has (λ u. test u ≡ false) (below (vertices g)) (λ u in_range.
    let u_lt : u < vertices g = below_from_has (vertices g) u in_range in
    elim (cases_Bool (is_before c u v)) [
      | inl before ↦
          let no_greater : core_of c u ≤ core_of c v =
          omega (arith, core_is_bound g c p u u_lt, core_is_bound g c p v lt, bound-le g (level_of c u) (level_of c v) (before_earlier c u v before)) in
          and_right _ _ (le-ltb _ _ no_greater)
      | inr behind ↦ and_left _ _ behind
    ]))

pub peeled_accepted : (g : RawGraph) → IsLawful g → (c : Cores) →
    IsColumn (vertices g) (IsCoreness g) c.core → IsColumn (vertices g) (IsLevel g) c.level → cores_verdict g c ≡ Yes
peeled_accepted g lawful c cores levels =
    let p : ArePeeled g c = record { lawful = lawful; cores = cores.each; levels = levels.each } in
    all_yes (vertices g) core_reasons (fails_cores g c) (λ v lt.
    let f : Reason → Bool = fails_cores g c v in
    find_past f reasons.LowerBound (reasons.UpperBound ∷ reasons.Order ∷ []) (lower_passes g c p v lt)
    (find_past f reasons.UpperBound (reasons.Order ∷ []) (upper_passes g c p v lt) (find_past f reasons.Order [] (order_passes g c p v lt) refl)))
