-- What the checker's yes on cores implies.
use Rattle.std.proofs.Common.{◌≡◌, ◌⊎◌, ℕ, ◌-◌, ◌<◌, ◌≤◌, Bool, true, false, not, ◌&&◌, eqb, ltb, leb, cond, List, [], ◌∷◌, drop, None, sym, ◌∙◌, subst, refl, ap, arith, inl, inr}
use Rattle.std.specs.List.{filter, find, count_by}
use Rattle.std.proofs.lemmas.Bool.{cases_eq, cases_lt, cases_Bool, eqb-true, eq-eqb, lt-ltb, ltb-false, leb-true, le-leb, and_from, or_cases, or_left, or_right, not_from_false, both_ways}
use Rattle.std.proofs.lemmas.Bool.Decides.{nat_tests}
use Rattle.std.proofs.lemmas.List.Folds.{list_any_at}
use Rattle.std.proofs.lemmas.List.Sums.{sum_by-cons}
use Rattle.std.proofs.lemmas.List.FromFn.{length-range_with_len, get_or-range_with_len}
use Rattle.std.proofs.lemmas.List.Elements.{All-contains, All-take, All-drop}
use Rattle.jul_base.specs.declared.graphs.RawGraph.{RawGraph}
use Rattle.jul_base.specs.declared.results.Cores.{Cores}
use Rattle.jul_check.specs.declared.verdicts.Reason.{Reason}
use Rattle.jul_check.specs.declared.verdicts.Reason.TheVariants as reasons
use Rattle.jul_check.specs.declared.verdicts.Verdict.TheVariants.{Yes}
use Rattle.jul_base.specs.Numbers.{below}
use Rattle.jul_base.specs.Graph.{vertices, row, row_start, row_end, IsLawful}
use Rattle.jul_base.specs.Coreness.{inner_degree, IsCore, IsCoreness}
use Rattle.jul_base.specs.Sets.{has}
use Rattle.jul_check.specs.CoreChecks.{core_of, is_before, at_least, not_before, core_reasons, fails_cores, cores_verdict}
use Rattle.jul_check.proofs.VerdictLaws.{yes_all, find_none}
use Rattle.jul_check.proofs.CoreOrderLaws.{before_other}
use Rattle.jul_base.proofs.PeelLaws.{has_filter, has_kept, has_below, below_from_has, has-from_Contains, Contains-from_has, All-from_has}

one_le : (a b : Bool) → (a ≡ true → b ≡ true) → cond {A = ℕ} a 1 0 ≤ cond b 1 0
one_le true true h = omega arith
one_le true false h = absurd (both_ways _ refl (h refl))
one_le false true h = omega arith
one_le false false h = omega arith

-- a test that holds of more members counts more
pub count_by-le : (p q : ℕ → Bool) (xs : List ℕ) → ((x : ℕ) → has xs x ≡ true → p x ≡ true → q x ≡ true) → count_by p xs ≤ count_by q xs
count_by-le p q [] more = omega arith
count_by-le p q (x ∷ xs) more =
    let rest : count_by p xs ≤ count_by q xs = count_by-le p q xs (λ y h. more y (or_right _ _ h)) in
    let here : cond {A = ℕ} (p x) 1 0 ≤ cond (q x) 1 0 = one_le (p x) (q x) (more x (or_left _ _ (eq-eqb x x refl))) in
    omega (arith, rest, here, sum_by-cons (λ y. cond (p y) 1 0) x xs, sum_by-cons (λ y. cond (q y) 1 0) x xs)

pub row_in_range : (g : RawGraph) → IsLawful g → (u w : ℕ) → has (row g u) w ≡ true → w < vertices g
row_in_range g lawful u w h =
    All-contains (λ x. x < vertices g) (row g u) w
    (All-take (λ x. x < vertices g) (row_end g u - row_start g u) (drop (row_start g u) g.targets) (All-drop (λ x. x < vertices g) (row_start g u) g.targets lawful.targets))
    (Contains-from_has (row g u) w h)

-- ---- the order

before_itself : (c : Cores) (u : ℕ) → is_before c u u ≡ false
before_itself c u = grind (arith, nat_tests)

before_chain : (c : Cores) (u v w : ℕ) → is_before c u v ≡ true → is_before c v w ≡ true → is_before c u w ≡ true
before_chain c u v w a b = grind (arith, nat_tests)

before_cases : (c : Cores) (u v : ℕ) → is_before c v u ≡ false → (u ≡ v) ⊎ (is_before c u v ≡ true)
before_cases c u v h = elim (cases_eq u v) [ inl e ↦ inl e | inr ne ↦ inr (before_other c u v ne h) ]

-- the first member of a list in the order
first_member : (c : Cores) (x : ℕ) (xs : List ℕ) → (u : ℕ) × (has (x ∷ xs) u ≡ true) × ((w : ℕ) → has (x ∷ xs) w ≡ true → is_before c w u ≡ false)
first_member c x [] = (
  x,
  or_left _ _ (eq-eqb x x refl),
  λ w h.
      elim (or_cases (eqb x w) false h) [
        | inl e ↦ subst (λ z. is_before c z x ≡ false) (eqb-true x w e) (before_itself c x)
        | inr never ↦ absurd (cc)
      ],
)
first_member c x (y ∷ ys) =
    let first : (u : ℕ) × (has (y ∷ ys) u ≡ true) × ((w : ℕ) → has (y ∷ ys) w ≡ true → is_before c w u ≡ false) = first_member c y ys in
    elim (cases_Bool (is_before c x first.0)) [
      | inl x_first ↦ (
        x,
        or_left _ _ (eq-eqb x x refl),
        λ w h.
            elim (or_cases (eqb x w) (has (y ∷ ys) w) h) [
              | inl e ↦ subst (λ z. is_before c z x ≡ false) (eqb-true x w e) (before_itself c x)
              | inr more ↦ elim (cases_Bool (is_before c w x)) [
                | inl w_first ↦ absurd (both_ways _ (first.2 w more) (before_chain c w x first.0 w_first x_first))
                | inr not_first ↦ not_first
              ]
            ],
      )
      | inr not_first ↦ (
        first.0,
        or_right _ _ first.1,
        λ w h.
            elim (or_cases (eqb x w) (has (y ∷ ys) w) h) [
              | inl e ↦ subst (λ z. is_before c z first.0 ≡ false) (eqb-true x w e) not_first
              | inr more ↦ first.2 w more
            ],
      )
    ]

-- ---- a yes

pub record PassesCores (g : RawGraph) (c : Cores) (v : ℕ) : Type 0 where
  pub lower : core_of c v ≤ at_least c v (row g v)
  pub upper : not_before c v (row g v) ≤ core_of c v
  pub order : (u : ℕ) → u < vertices g → is_before c u v ≡ true → core_of c u ≤ core_of c v

passes_cores : (g : RawGraph) (c : Cores) → cores_verdict g c ≡ Yes → (v : ℕ) → v < vertices g → PassesCores g c v
passes_cores g c e v lt =
    let f : Reason → Bool = fails_cores g c v in
    let a : (f reasons.LowerBound ≡ false) × (find f (reasons.UpperBound ∷ reasons.Order ∷ []) ≡ None) = find_none f reasons.LowerBound (reasons.UpperBound ∷ reasons.Order ∷ []) (yes_all (vertices g) core_reasons (fails_cores g c) e v lt) in
    let b : (f reasons.UpperBound ≡ false) × (find f (reasons.Order ∷ []) ≡ None) = find_none f reasons.UpperBound (reasons.Order ∷ []) a.1 in
    let none : f reasons.Order ≡ false = (find_none f reasons.Order [] b.1).0 in
    record {
      lower = ltb-false _ _ a.0;
      upper = ltb-false _ _ b.0;
      order = λ u u_lt before. elim (cases_lt (core_of c v) (core_of c u)) [
        | inl greater ↦ absurd (both_ways _ none (list_any_at (λ u. is_before c u v && ltb (core_of c v) (core_of c u)) (below (vertices g)) u 0 (omega (arith, u_lt, length-range_with_len 0 (vertices g)))
            (subst (λ z. (is_before c z v && ltb (core_of c v) (core_of c z)) ≡ true) (sym (get_or-range_with_len 0 (vertices g) u 0 u_lt ∙ omega arith)) (and_from _ _ before (lt-ltb _ _ greater)))))
        | inr le ↦ le
      ];
    }

module _ (g : RawGraph) (lawful : IsLawful g) (c : Cores) (all : (v : ℕ) → v < vertices g → PassesCores g c v) where
  -- the vertices of at least that core
  abbrev above : ℕ → List ℕ
  above k = filter (λ u. leb k (core_of c u)) (below (vertices g))

  above_is_core : (k : ℕ) → IsCore g k (above k)
  above_is_core k = record {
    vertices = All-from_has (λ u. u < vertices g) (above k) (λ x h. below_from_has (vertices g) x (has_filter (λ u. leb k (core_of c u)) (below (vertices g)) x h).0);
    degrees = All-from_has (λ u. k ≤ inner_degree g (above k) u) (above k) (λ u h.
        let in_above : (has (below (vertices g)) u ≡ true) × (leb k (core_of c u) ≡ true) = has_filter (λ u. leb k (core_of c u)) (below (vertices g)) u h in
        let large : k ≤ core_of c u = leb-true _ _ in_above.1 in
        let counted : count_by (λ w. leb (core_of c u) (core_of c w)) (row g u) ≤ inner_degree g (above k) u =
        count_by-le (λ w. leb (core_of c u) (core_of c w)) (has (above k)) (row g u) (λ w in_row test.
        has_kept (λ u. leb k (core_of c u)) (below (vertices g)) w (has_below (vertices g) w (row_in_range g lawful u w in_row)) (le-leb _ _ (omega (arith, large, leb-true _ _ test)))) in
        omega (arith, large, counted, (all u (below_from_has (vertices g) u in_above.0)).lower));
  }

  none_above : (k v : ℕ) (s : List ℕ) → v < vertices g → IsCore g k s → has s v ≡ true → k ≤ core_of c v
  none_above k v [] lt core in_s = absurd (cc)
  none_above k v (x ∷ xs) lt core in_s =
      let s : List ℕ = x ∷ xs in
      let first : (u : ℕ) × (has (x ∷ xs) u ≡ true) × ((w : ℕ) → has (x ∷ xs) w ≡ true → is_before c w u ≡ false) = first_member c x xs in
      let u : ℕ = first.0 in
      let u_in : u < vertices g = All-contains (λ u. u < vertices g) (x ∷ xs) u core.vertices (Contains-from_has (x ∷ xs) u first.1) in
      let inner : k ≤ inner_degree g (x ∷ xs) u = All-contains (λ u. k ≤ inner_degree g (x ∷ xs) u) (x ∷ xs) u core.degrees (Contains-from_has (x ∷ xs) u first.1) in
      let counted : inner_degree g (x ∷ xs) u ≤ count_by (λ w. not (is_before c w u)) (row g u) =
      count_by-le (has (x ∷ xs)) (λ w. not (is_before c w u)) (row g u) (λ w in_row in_list. not_from_false _ (first.2 w in_list)) in
      let at_u : k ≤ core_of c u = omega (arith, inner, counted, (all u u_in).upper) in
      elim (before_cases c u v (first.2 v in_s)) [
        | inl e ↦ omega (arith, at_u, ap (core_of c) e)
        | inr before ↦ omega (arith, at_u, (all v lt).order u u_in before)
      ]

pub cores_accepted : (g : RawGraph) → IsLawful g → (c : Cores) → cores_verdict g c ≡ Yes → (v : ℕ) → v < vertices g → IsCoreness g v (core_of c v)
cores_accepted g lawful c e v lt =
    let all : (v : ℕ) → v < vertices g → PassesCores g c v = passes_cores g c e in
    record {
      holds = (
        above g lawful c all (core_of c v),
        above_is_core g lawful c all (core_of c v),
        Contains-from_has _ v
            (has_kept (λ u. leb (core_of c v) (core_of c u)) (below (vertices g)) v (has_below (vertices g) v lt) (le-leb _ _ (omega arith))),
      );
      greatest = λ k (s, core, in_s). none_above g lawful c all k v s lt core (has-from_Contains s v in_s);
    }
