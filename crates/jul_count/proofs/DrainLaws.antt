-- Drains of the vertices of an increasing list: each finds its word, and takes it to 0.
use Rattle.std.proofs.Common.{suc, ◌≡◌, ℕ, ◌+◌, ◌-◌, ◌<◌, ◌^◌, List, [], ◌∷◌, ◌++◌, length, map, take, get_or, eqb, cond, refl, ap, sym, ◌∙◌, arith, All, ⊎_elim}
use Rattle.std.specs.Prelude.{Contains}
use Rattle.std.specs.List.{sum_by}
use Rattle.std.specs.List.Sorted.{IsStrictlyIncreasing}
use Rattle.std.proofs.lemmas.Bool.{cond-true, cond-false, eq-eqb, ne_eqb}
use Rattle.std.proofs.lemmas.List.{take_more, map-append, length-take-le, get_or-take, get_or_default, append_assoc}
use Rattle.std.proofs.lemmas.List.Sums.{sum_by-cons}
use Rattle.std.proofs.lemmas.List.Elements.{All-map}
use Rattle.std.proofs.lemmas.List.Kept.{AllPairs-from_increasing}
use Rattle.jul_base.specs.Logs.{Entry, DRAIN}
use Rattle.jul_base.proofs.SetLaws.{Contains-cons, Contains-cons_cases}
use Rattle.jul_words.specs.Counts.{adds, is_add, drained, drained_by, tally, draining, IsFew}
use Rattle.jul_words.specs.Seats.{Seat, IsAlone, logs}
use Rattle.jul_words.proofs.Sums.{weigh-append}
use Rattle.jul_count.specs.Counts.{AreApart}
use Rattle.jul_count.specs.Adds.{add_weight}
use Rattle.jul_count.specs.Counting.{word_in, drained_each}

-- a drain of each vertex of a list, by a function
abbrev drains : (ℕ → ℕ) → List ℕ → List Entry
drains f ids = map (λ v. draining v (f v)) ids

no_adds : (v : ℕ) (f : ℕ → ℕ) (ids : List ℕ) → adds v (drains f ids) ≡ 0
no_adds v f [] = refl
no_adds v f (x ∷ xs) = omega (arith, no_adds v f xs)

pub no_weight : (weight : ℕ → ℕ → ℕ) (f : ℕ → ℕ) (ids : List ℕ) → sum_by (add_weight weight) (drains f ids) ≡ 0
no_weight weight f [] = refl
no_weight weight f (x ∷ xs) = omega (arith, sum_by-cons (add_weight weight) (draining x (f x)) (drains f xs), no_weight weight f xs)

pub all_are_drains : (f : ℕ → ℕ) (ids : List ℕ) → All (λ (e : Entry). e.kind ≡ DRAIN) (drains f ids)
all_are_drains f ids = All-map (λ (e : Entry). e.kind ≡ DRAIN) (λ v. draining v (f v)) ids (λ k d lt. refl)

drained_first : (v x n : ℕ) → drained_by v (draining x n) ≡ cond (eqb x v) n 0
drained_first v x n = refl

drains_out : (v : ℕ) (f : ℕ → ℕ) (ids : List ℕ) → (Contains ids v → ⊥) → drained v (drains f ids) ≡ 0
drains_out v f [] out = refl
drains_out v f (x ∷ xs) out =
    let other : cond {A = ℕ} (eqb x v) (f x) 0 ≡ 0 = cond-false _ _ _ (ne_eqb x v (λ same. out (0, omega arith, same))) in
    omega (arith, drained_first v x (f x), drains_out v f xs (λ h. out (Contains-cons x xs v h)))

first_differs : (x : ℕ) (xs : List ℕ) → AreApart (x ∷ xs) → (v : ℕ) → Contains xs v → x ≡ v → ⊥
first_differs x xs apart v (k, lt, at) same = apart 0 (suc k) v (omega arith) (omega arith) (same ∙ sym at)

drains_in : (v : ℕ) (f : ℕ → ℕ) (ids : List ℕ) → AreApart ids → Contains ids v → drained v (drains f ids) ≡ f v
drains_in v f [] apart (k, lt, at) = absurd (omega arith)
drains_in v f (x ∷ xs) apart held =
    ⊎_elim
    (λ (here : x ≡ v).
    let this : cond {A = ℕ} (eqb x v) (f x) 0 ≡ f x = cond-true _ _ _ (eq-eqb x v here) in
    omega (arith, drained_first v x (f x), ap f here, drains_out v f xs (λ h. first_differs x xs apart v h here)))
    (λ (later : Contains xs v).
    let other : cond {A = ℕ} (eqb x v) (f x) 0 ≡ 0 = cond-false _ _ _ (ne_eqb x v (λ same. first_differs x xs apart v later same)) in
    omega (arith, drained_first v x (f x), drains_in v f xs (λ i j d lt in'. apart (suc i) (suc j) d (omega arith) (omega arith)) later))
    (Contains-cons_cases x xs v held)

module _ (log : List Entry) (ids : List ℕ) where
  pub adds_after : (v : ℕ) → adds v (drained_each log ids) ≡ adds v log
  adds_after v = omega (arith, weigh-append (is_add v) log (drains (λ u. tally u log) ids), no_adds v (λ u. tally u log) ids)

  -- what isn't drained keeps its word
  pub drained_out : (v : ℕ) → (Contains ids v → ⊥) → drained v (drained_each log ids) ≡ drained v log
  drained_out v out = omega (arith, weigh-append (drained_by v) log (drains (λ u. tally u log) ids), drains_out v (λ u. tally u log) ids out)

  -- what is drained has no more left
  pub drained_in : (v : ℕ) → AreApart ids → Contains ids v → drained v (drained_each log ids) ≡ drained v log + tally v log
  drained_in v apart held =
      omega (arith, weigh-append (drained_by v) log (drains (λ u. tally u log) ids), drains_in v (λ u. tally u log) ids apart held)

-- an increasing list has no number twice
pub increasing_apart : (ids : List ℕ) → IsStrictlyIncreasing ids → AreApart ids
increasing_apart ids up i j d lt in' same = absurd (omega (arith, AllPairs-from_increasing ids up i j d lt in', same))

not_before : (ids : List ℕ) → AreApart ids → (k : ℕ) → k < length ids → Contains (take k ids) (get_or ids k 0) → ⊥
not_before ids apart k lt (i, i_lt, at) =
    let size : length (take k ids) ≡ k = length-take-le k ids (omega arith) in
    let early : i < k = omega (arith, i_lt, size) in
    let same : get_or ids i 0 ≡ get_or ids k 0 = sym (get_or-take k ids i 0 early) ∙ get_or_default (take k ids) i 0 (get_or ids k 0) i_lt ∙ at in
    apart i k 0 early lt same

-- the seat, once these were drained
abbrev pub after : Seat → List ℕ → Seat
after s ids = record { home = s.home; root = s.root; out = s.out; log = drained_each s.log ids }

-- one drain more
pub drain_more : (old mid new : Seat) (ids : List ℕ) (k n : ℕ) (items more : List (ℕ × ℕ)) → AreApart ids → k < length ids → All (λ v. IsFew v old.log) ids → IsAlone old →
    items ≡ map (word_in old.log) (take k ids) → mid ≡ after old (take k ids) → (IsAlone mid → IsFew (get_or ids k 0) mid.log → n ≡ tally (get_or ids k 0) mid.log) →
    new ≡ logs mid (draining (get_or ids k 0) n) → more ≡ items ++ (get_or ids k 0, n) ∷ [] →
    (more ≡ map (word_in old.log) (take (k + 1) ids)) × (new ≡ after old (take (k + 1) ids))
drain_more old mid new ids k n items more apart lt few alone items_are mid_is exact new_is more_is =
    let id = get_or ids k 0 in
    let log : mid.log ≡ drained_each old.log (take k ids) = ap (λ (s : Seat). s.log) mid_is in
    let out : drained id (drained_each old.log (take k ids)) ≡ drained id old.log = drained_out old.log (take k ids) id (not_before ids apart k lt) in
    let added : adds id (drained_each old.log (take k ids)) ≡ adds id old.log = adds_after old.log (take k ids) id in
    let mid_alone : IsAlone mid = (ap (λ (s : Seat). s.root) mid_is ∙ alone.0, ap (λ (s : Seat). s.out) mid_is ∙ alone.1) in
    let near : adds id old.log < 2 ^ 64 = few k 0 lt in
    let word : n ≡ tally id old.log =
    exact mid_alone (omega (arith, near, added, ap (adds id) log)) ∙ ap (tally id) log ∙ (let a = ap (λ m. m - drained id (drained_each old.log (take k ids))) added in a ∙ ap (λ m. adds id old.log - m) out) in
    let grown : take (k + 1) ids ≡ take k ids ++ id ∷ [] = take_more ids k 0 lt in
    let log_is : new.log ≡ drained_each old.log (take (k + 1) ids) =
    ap (λ (s : Seat). s.log) new_is ∙ ap (λ l. l ++ draining id n ∷ []) log
    ∙ append_assoc old.log (drains (λ u. tally u old.log) (take k ids)) (draining id n ∷ [])
    ∙ ap (λ m. old.log ++ (drains (λ u. tally u old.log) (take k ids) ++ draining id m ∷ [])) word
    ∙ sym (ap (drained_each old.log) grown ∙ ap (λ l. old.log ++ l) (map-append (λ v. draining v (tally v old.log)) (take k ids) (id ∷ []))) in (
      more_is ∙ ap (λ l. l ++ (id, n) ∷ []) items_are ∙ ap (λ m. map (word_in old.log) (take k ids) ++ (id, m) ∷ []) word
          ∙ sym (ap (map (word_in old.log)) grown ∙ map-append (word_in old.log) (take k ids) (id ∷ [])),
      (λ i. record {
        home = (ap (λ (s : Seat). s.home) new_is ∙ ap (λ (s : Seat). s.home) mid_is) i;
        root = (ap (λ (s : Seat). s.root) new_is ∙ ap (λ (s : Seat). s.root) mid_is) i;
        out = (ap (λ (s : Seat). s.out) new_is ∙ ap (λ (s : Seat). s.out) mid_is) i;
        log = log_is i;
      }),
    )
