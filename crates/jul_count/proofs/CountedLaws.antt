-- What the root knows after the adds and after the drains: the words are the counts, and then 0 again.
use Rattle.std.proofs.Common.{◌≡◌, ◌≢◌, ℕ, ◌+◌, ◌<◌, ◌≤◌, ◌^◌, ◌↔◌, List, [], ◌∷◌, ◌++◌, length, map, get_or, eqb, refl, ap, sym, ◌∙◌, subst, arith, All, ◌⊎◌, inl, inr, zero, suc, Bool, true, false, cond}
use Rattle.std.specs.Prelude.{Contains, nat_lt, ◌&&◌}
use Rattle.std.specs.List.{count_by}
use Rattle.std.specs.List.Sorted.{IsStrictlyIncreasing}
use Rattle.std.proofs.lemmas.Bool.{lt-ltb, cond-true, eq-eqb}
use Rattle.std.proofs.lemmas.List.{append_assoc}
use Rattle.std.proofs.lemmas.List.Sums.{sum_by-append, sum_by-cons}
use Rattle.std.proofs.lemmas.List.Kept.{AllPairs-cons}
use Rattle.std.proofs.lemmas.List.Elements.{All-head, All-tail, All-map, All-append, All-weaker, Contains-get_or}
use Rattle.jul_base.specs.declared.graphs.RawGraph.{RawGraph}
use Rattle.jul_base.specs.Graph.{vertices, IsLawful}
use Rattle.jul_base.specs.Logs.{Entry, ADD, DRAIN}
use Rattle.jul_base.proofs.SetLaws.{Contains-cons}
use Rattle.jul_words.specs.Weights.{weigh, counted}
use Rattle.jul_words.specs.Seats.{Seat}
use Rattle.jul_words.specs.Counts.{is_add, is_first, drained_by, is_full, adds, firsts, drained, full_drains, tally, draining, IsFew, IsTally, AreTallies}
use Rattle.jul_words.proofs.Sums.{weigh-append}
use Rattle.jul_subset.specs.Subsets.{Subset, IsSubset}
use Rattle.jul_subset.proofs.IncreasingLaws.{length_below}
use Rattle.jul_count.specs.Counts.{reaching, AreApart, CountEach, AreCounts, AreNotedCounts}
use Rattle.jul_count.specs.Counts.{counted as vertices_of}
use Rattle.jul_count.specs.Adds.{add_count, add_weight, AreZero, CanCount, HasCounted}
use Rattle.jul_count.specs.Counting.{AddedAll, HasAddedRound, word_in, drained_each}
use Rattle.jul_count.proofs.ReachLaws.{reaching-le}
use Rattle.jul_count.proofs.AddingLaws.{adds_reach, counts_held, held_counts}
use Rattle.jul_count.proofs.DrainLaws.{after, adds_after, drained_out, drained_in, no_weight, all_are_drains, increasing_apart}

-- adds drain nothing
none_drained : (v : ℕ) (log : List Entry) → All (λ (e : Entry). e.kind ≡ ADD) log → drained v log ≡ 0
none_drained v [] only = refl
none_drained v (e ∷ es) only =
    let P : Entry → Type 0 = λ e. e.kind ≡ ADD in
    let here : drained_by v e ≡ 0 = (let is : e.kind ≡ ADD = All-head P e es only in rw is refl) in
    omega (arith, here, none_drained v es (All-tail P e es only))

none_full : (v : ℕ) (log : List Entry) → All (λ (e : Entry). e.kind ≡ ADD) log → full_drains v log ≡ 0
none_full v [] only = refl
none_full v (e ∷ es) only =
    let P : Entry → Type 0 = λ e. e.kind ≡ ADD in
    let here : is_full v e ≡ 0 = (let is : e.kind ≡ ADD = All-head P e es only in rw is refl) in
    omega (arith, here, none_full v es (All-tail P e es only))

-- the adds to a vertex are some of all adds
adds-le-count : (v : ℕ) (log : List Entry) → adds v log ≤ add_count log
adds-le-count v [] = omega arith
adds-le-count v (e ∷ es) = omega (arith, some_adds (eqb e.kind ADD) (eqb e.vertex v), sum_by-cons (λ (e : Entry). cond {A = ℕ} (eqb e.kind ADD) 1 0) e es, adds-le-count v es) where
  some_adds : (a b : Bool) → counted (a && b) ≤ cond {A = ℕ} a 1 0
  some_adds true true = omega arith
  some_adds true false = omega arith
  some_adds false b = omega arith

some_counted : (n : ℕ) → 0 < n → 0 < counted (nat_lt 0 n)
some_counted n some = (let is : nat_lt 0 n ≡ true = lt-ltb 0 n some in omega (arith, ap counted is))

counted_some : (n : ℕ) → 0 < counted (nat_lt 0 n) → 0 < n
counted_some zero some = absurd (omega arith)
counted_some (suc n) some = omega arith

counted-le : (b : Bool) → counted b ≤ 1
counted-le true = omega arith
counted-le false = omega arith

cases_zero : (n : ℕ) → (n ≡ 0) ⊎ (0 < n)
cases_zero zero = inl refl
cases_zero (suc n) = inr (omega arith)

vertices_are : (f : ℕ → ℕ × ℕ) → ((v : ℕ) → (f v).0 ≡ v) → (xs : List ℕ) → vertices_of (map f xs) ≡ xs
vertices_are f same [] = refl
vertices_are f same (x ∷ xs) = let rest = vertices_are f same xs in let here = same x in cc

-- a subset has few members
pub few_members : (g : RawGraph) (members : List ℕ) → IsSubset (record { n = vertices g; members = members; dense = false }) → length members ≤ 2 ^ 24
few_members g members is =
    let most : length members ≤ vertices g = length_below members (vertices g) is.increasing is.within in
    omega (arith, most, is.few)

-- what the root learns of its log doesn't change it
pub once_learnt : (g : RawGraph) (members : List ℕ) (old learnt new again : Seat) (noted : List ℕ) → learnt ≡ old → again ≡ new → AreTallies learnt.home learnt.log →
    AddedAll g members learnt new noted → AreTallies again.home again.log → HasAddedRound g members old again noted
once_learnt g members old learnt new again noted same same' settled added settled' = record {
  added = subst (λ (s : Seat). AddedAll g members s again noted) same (subst (λ (s : Seat). AddedAll g members learnt s noted) (sym same') added);
  before = subst (λ (s : Seat). AreTallies s.home s.log) same settled;
  after = settled';
}

-- a list has each number once where it has none more often
all_apart : (xs : List ℕ) → ((v : ℕ) → Contains xs v → count_by (λ x. eqb x v) xs ≤ 1) → AreApart xs
all_apart [] once = λ i j d lt in' same. absurd (omega arith)
all_apart (x ∷ xs) once =
    let Other : ℕ → Type 0 = λ y. x ≢ y in
    let again : (v : ℕ) → count_by (λ y. eqb y v) (x ∷ xs) ≡ cond {A = ℕ} (eqb x v) 1 0 + count_by (λ y. eqb y v) xs = λ v. sum_by-cons (λ y. cond {A = ℕ} (eqb y v) 1 0) x xs in
    AllPairs-cons (λ a b. a ≢ b) x xs
    (λ k d lt same.
    let v = get_or xs k d in
    let held : Contains xs v = Contains-get_or xs k d lt in
    let one : cond {A = ℕ} (eqb x v) 1 0 ≡ 1 = cond-true _ _ _ (eq-eqb x v same) in
    absurd (omega (arith, once v (Contains-cons x xs v held), again v, one, counts_held v xs held)))
    (all_apart xs (λ v held. omega (arith, once v (Contains-cons x xs v held), again v)))

module _ (g : RawGraph) (lawful : IsLawful g) (members : List ℕ) (table : List ℕ) (old mid : Seat) (noted : List ℕ)
    (few : length members ≤ 2 ^ 24) (can : CanCount (vertices g) table old) (touched : HasAddedRound g members old mid noted) where
  added : AddedAll g members old mid noted
  added = touched.added

  log_is : mid.log ≡ old.log ++ added.gained
  log_is = ap (λ (s : Seat). s.log) added.seat_is

  home_is : mid.home ≡ old.home
  home_is = ap (λ (s : Seat). s.home) added.seat_is

  adds_grew : (v : ℕ) → adds v mid.log ≡ adds v old.log + reaching g members v
  adds_grew v = ap (adds v) log_is ∙ weigh-append (is_add v) old.log added.gained ∙ ap (λ n. adds v old.log + n) (adds_reach g lawful members added.gained added.adds v)

  pub few_after : (v : ℕ) → IsFew v mid.log
  few_after v = omega (arith, adds_grew v, adds-le-count v old.log, can.few, reaching-le g lawful members v, few)

  few_before : (v : ℕ) → IsFew v old.log
  few_before v = omega (arith, adds-le-count v old.log, can.few)

  -- the word of a vertex is its count, and it is noted where that isn't 0
  record Word (v : ℕ) : Type 0 where
    pub is : tally v mid.log ≡ reaching g members v
    pub whole : adds v mid.log ≡ drained v mid.log + reaching g members v
    pub hit : 0 < reaching g members v → Contains noted v
    pub missed : Contains noted v → 0 < reaching g members v
    pub once : count_by (λ x. eqb x v) noted ≤ 1

  word_at : (v : ℕ) → v < vertices g → Word v
  word_at v lt =
      let near : v < length old.home.starts = omega (arith, can.words, lt) in
      let near' : v < length mid.home.starts = omega (arith, near, ap (λ h. length h.starts) home_is) in
      let zero : adds v old.log ≡ drained v old.log = can.zero v near in
      let before : IsTally v (tally v old.log) old.log = touched.before v near (few_before v) in
      let now : IsTally v (tally v mid.log) mid.log = touched.after v near' (few_after v) in
      let drains : drained v mid.log ≡ drained v old.log =
      ap (drained v) log_is ∙ weigh-append (drained_by v) old.log added.gained ∙ omega (arith, none_drained v added.gained added.only) in
      let fulls : full_drains v mid.log ≡ full_drains v old.log =
      ap (full_drains v) log_is ∙ weigh-append (is_full v) old.log added.gained ∙ omega (arith, none_full v added.gained added.only) in
      let marks : firsts v mid.log ≡ firsts v old.log + weigh (is_first v) added.gained = ap (firsts v) log_is ∙ weigh-append (is_first v) old.log added.gained in
      let word : tally v mid.log ≡ reaching g members v = omega (arith, now.count, drains, zero, adds_grew v) in
      let none : tally v old.log ≡ 0 = omega (arith, before.count, zero) in
      let unmarked : firsts v old.log ≡ full_drains v old.log = before.marked ∙ ap (λ n. full_drains v old.log + counted (nat_lt 0 n)) none ∙ omega arith in
      let gained : weigh (is_first v) added.gained ≡ counted (nat_lt 0 (reaching g members v)) =
      (let m : firsts v mid.log ≡ full_drains v mid.log + counted (nat_lt 0 (reaching g members v)) = now.marked ∙ ap (λ n. full_drains v mid.log + counted (nat_lt 0 n)) word in omega (arith, m, marks, unmarked, fulls)) in
      record {
        is = word;
        whole = omega (arith, adds_grew v, drains, zero);
        hit = λ some. held_counts v noted (omega (arith, gained, added.noted_are v, some_counted (reaching g members v) some));
        missed = λ held. counted_some (reaching g members v) (omega (arith, gained, added.noted_are v, counts_held v noted held));
        once = omega (arith, gained, added.noted_are v, counted-le (nat_lt 0 (reaching g members v)));
      }

  noted_apart : AreApart noted
  noted_apart = all_apart noted (λ v (k, lt, at). (word_at v (omega (arith, added.within k v lt, at))).once)

  module _ (ids : List ℕ) (apart : AreApart ids) (ids_are : (v : ℕ) → Contains ids v ↔ Contains noted v) where
    ids_below : (v : ℕ) → Contains ids v → v < vertices g
    ids_below v held = let (k, lt, at) = (ids_are v).0 held in omega (arith, added.within k v lt, at)

    all_ids : (P : ℕ → Type 0) → ((v : ℕ) → Contains ids v → P v) → All P ids
    all_ids P each k d lt = each (get_or ids k d) (Contains-get_or ids k d lt)

    few_each : All (λ v. IsFew v mid.log) ids
    few_each k d lt = few_after (get_or ids k d)

    counts_at : All (λ v. v < vertices g) ids × All (λ v. 0 < tally v mid.log) ids × All (λ v. tally v mid.log ≡ reaching g members v) ids
    counts_at = (
      all_ids (λ v. v < vertices g) ids_below,
      all_ids (λ v. 0 < tally v mid.log) (λ v h. let w = word_at v (ids_below v h) in omega (arith, w.is, w.missed ((ids_are v).0 h))),
      all_ids (λ v. tally v mid.log ≡ reaching g members v) (λ v h. (word_at v (ids_below v h)).is),
    )

    counts_are : CountEach g members (map (word_in mid.log) ids)
    counts_are =
        let same : vertices_of (map (word_in mid.log) ids) ≡ ids = vertices_are (word_in mid.log) (λ v. refl) ids in record {
          within = All-map (λ (e : ℕ × ℕ). e.0 < vertices g) (word_in mid.log) ids counts_at.0;
          some = All-map (λ (e : ℕ × ℕ). 0 < e.1) (word_in mid.log) ids counts_at.1;
          exact = All-map (λ (e : ℕ × ℕ). e.1 ≡ reaching g members e.0) (word_in mid.log) ids counts_at.2;
          all = λ v lt some. subst (λ l. Contains l v) (sym same) ((ids_are v).1 ((word_at v lt).hit some));
        }

    has_counted : HasCounted g members old (after mid ids)
    has_counted =
        let drains = map (λ v. draining v (tally v mid.log)) ids in
        let log : drained_each mid.log ids ≡ old.log ++ (added.gained ++ drains) = ap (λ l. l ++ drains) log_is ∙ append_assoc old.log added.gained drains in
        let Q : Entry → Type 0 = λ e. e.kind ≢ ADD → e.kind ≡ DRAIN in record {
          gained = added.gained ++ drains;
          seat_is = λ i. record { home = home_is i; root = ap (λ (s : Seat). s.root) added.seat_is i; out = ap (λ (s : Seat). s.out) added.seat_is i; log = log i };
          adds = λ weight. omega (arith, sum_by-append (add_weight weight) added.gained drains, added.adds weight, no_weight weight (λ v. tally v mid.log) ids);
          others = All-append Q added.gained drains
              (All-weaker (λ (e : Entry). e.kind ≡ ADD) Q (λ e is not. absurd (not is)) added.gained added.only)
              (All-weaker (λ (e : Entry). e.kind ≡ DRAIN) Q (λ e is not. is) drains (all_are_drains (λ v. tally v mid.log) ids));
        }

    zero_again : AreZero (after mid ids)
    zero_again v near =
        let lt : v < vertices g = omega (arith, near, ap (λ h. length h.starts) home_is, can.words) in
        let w : Word v = word_at v lt in
        elim (cases_zero (reaching g members v)) [
          | inl none ↦
              let out : Contains ids v → ⊥ = λ h. absurd (omega (arith, w.missed ((ids_are v).0 h))) in
              omega (arith, adds_after mid.log ids v, drained_out mid.log ids v out, w.whole)
          | inr some ↦
              let in' : Contains ids v = (ids_are v).1 (w.hit some) in
              omega (arith, adds_after mid.log ids v, drained_in mid.log ids v apart in', w.whole, w.is)
        ]

-- all that the root knows in the end, of the touched vertices that it drains
pub record IsCountedOut (g : RawGraph) (members : List ℕ) (old mid : Seat) (ids : List ℕ) : Type 0 where
  pub apart : AreApart ids
  pub few : All (λ v. IsFew v mid.log) ids
  pub each : CountEach g members (map (word_in mid.log) ids)
  pub listed : vertices_of (map (word_in mid.log) ids) ≡ ids
  pub counted_is : HasCounted g members old (after mid ids)
  pub zero_is : AreZero (after mid ids)

module _ (g : RawGraph) (lawful : IsLawful g) (members : List ℕ) (is : IsSubset (record { n = vertices g; members = members; dense = false })) (table : List ℕ) (old mid : Seat) (noted : List ℕ)
    (can : CanCount (vertices g) table old) (touched : HasAddedRound g members old mid noted) where
  -- of a list with the noted vertices and no other, none twice
  counted_apart : (ids : List ℕ) → AreApart ids → ((v : ℕ) → Contains ids v ↔ Contains noted v) → IsCountedOut g members old mid ids
  counted_apart ids apart as_noted =
      let few = few_members g members is in record {
        apart = apart;
        few = few_each g lawful members table old mid noted few can touched ids apart as_noted;
        each = counts_are g lawful members table old mid noted few can touched ids apart as_noted;
        listed = vertices_are (word_in mid.log) (λ v. refl) ids;
        counted_is = has_counted g lawful members table old mid noted few can touched ids apart as_noted;
        zero_is = zero_again g lawful members table old mid noted few can touched ids apart as_noted;
      }

  -- of the noted vertices as they came
  pub noted_out : (ids : List ℕ) → ids ≡ noted → IsCountedOut g members old mid ids
  noted_out ids same =
      subst (IsCountedOut g members old mid) (sym same)
      (counted_apart noted (noted_apart g lawful members table old mid noted (few_members g members is) can touched) (λ v. ((λ h. h), (λ h. h))))

  -- of a subset that has them
  pub counted_out : (touched_set : Subset) (ids : List ℕ) → IsSubset touched_set → ((v : ℕ) → Contains touched_set.members v ↔ Contains noted v) → ids ≡ touched_set.members → IsCountedOut g members old mid ids
  counted_out touched_set ids subset held ids_are =
      counted_apart ids (increasing_apart ids (subst IsStrictlyIncreasing (sym ids_are) subset.increasing)) (λ v. subst (λ l. Contains l v ↔ Contains noted v) (sym ids_are) (held v))

-- the counts of drained vertices, as they came or in increasing order
pub noted_counts : (g : RawGraph) (members : List ℕ) (old mid : Seat) (ids : List ℕ) (list : List (ℕ × ℕ)) → IsCountedOut g members old mid ids → list ≡ map (word_in mid.log) ids → AreNotedCounts g members list
noted_counts g members old mid ids list out is = subst (AreNotedCounts g members) (sym is) (record { apart = subst AreApart (sym out.listed) out.apart; each = out.each })

pub rising_counts : (g : RawGraph) (members : List ℕ) (old mid : Seat) (ids : List ℕ) (list : List (ℕ × ℕ)) → IsCountedOut g members old mid ids → list ≡ map (word_in mid.log) ids → IsStrictlyIncreasing ids → AreCounts g members list
rising_counts g members old mid ids list out is up = subst (AreCounts g members) (sym is) (record { rises = subst IsStrictlyIncreasing (sym out.listed) up; each = out.each })
