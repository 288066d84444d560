-- A round of a search, and where it ends.
use Rattle.std.proofs.Common.{◌≡◌, ◌↔◌, ℕ, ◌+◌, ◌<◌, ◌≤◌, Bool, true, false, not, List, [], ◌∷◌, ◌++◌, length, get_or, set, replicate, cond, sym, ◌∙◌, ap, subst, refl, arith, inl, inr}
use Rattle.std.specs.List.{Contains, All, count_by}
use Rattle.std.proofs.lemmas.Bool.{cases_eq, cases_lt, cases_Bool, both_ways, not-true, not_from_false}
use Rattle.std.proofs.lemmas.List.{get_or-set_same, get_or-set_other, get_or-replicate, length-set, length-replicate, get_or_past}
use Rattle.std.proofs.lemmas.List.Elements.{All-contains, All-nil, All-cons, All-from_get_or, Contains-get_or}
use Rattle.std.proofs.lemmas.List.Sums.{sum_by-set, count_by-le-length}
use Rattle.jul_base.specs.declared.graphs.RawGraph.{RawGraph}
use Rattle.jul_base.specs.Graph.{vertices, target, weight, IsPlaceOf, IsLawful}
use Rattle.jul_base.specs.Walks.{IsWalk}
use Rattle.jul_base.specs.Logs.{Log}
use Rattle.jul_base.proofs.WalkLaws.{IsWalk-push}
use Rattle.jul_words.specs.Seats.{Seat}
use Rattle.jul_subset.specs.Subsets.{Subset}
use Rattle.jul_edge.specs.declared.functions.Direction.{Direction}
use Rattle.jul_edge.specs.Edges.{Application, application, IsWanted}
use Rattle.jul_edge.specs.EdgeMaps.{IsMapped, CanStamp, HasStamped}
use Rattle.jul_edge.proofs.MappedLaws.{EdgeDone, OneOf, hits_of, applied_to, made_wanted, hit, hit_by, stamps_later}
use Rattle.jul_reach.specs.Reaching.{mark_at, IsReached}
use Rattle.jul_reach.specs.Searching.{IsReaching, IsSearching, remaining}
use Rattle.jul_reach.proofs.MarkLaws.{HasMarked}

-- ---- the end

-- where the frontier is empty, marks go along walks
along : (g : RawGraph) (source : ℕ) (marks : List Bool) → IsReaching g source marks [] → (ps : List ℕ) (u v : ℕ) → mark_at marks u ≡ true → IsWalk g u ps v → mark_at marks v ≡ true
along g source marks h [] u v m walk = ap (mark_at marks) (sym walk) ∙ m
along g source marks h (p ∷ ps) u v m (at, walk) =
    elim (h.closed u p at m) [
      | inl next ↦ along g source marks h ps (target g p) v next walk
      | inr (k, lt, is) ↦ absurd (omega (arith, lt))
    ]

pub marks_reached : (g : RawGraph) (source : ℕ) (marks : List Bool) → IsReaching g source marks [] → (v : ℕ) → (mark_at marks v ≡ true) ↔ IsReached g source v
marks_reached g source marks h v = (h.sound v, λ (ps, walk). along g source marks h ps source v h.begun walk)

-- ---- the start

none_at : (n v : ℕ) → mark_at (replicate n false) v ≡ false
none_at n v = elim (cases_lt v n) [
  | inl lt ↦ get_or-replicate n v false false lt
  | inr past ↦ get_or_past (replicate n false) v false (omega (arith, past, length-replicate n false))
]

pub begun : (g : RawGraph) (source n : ℕ) → n ≡ vertices g → source < n → IsReaching g source (set (replicate n false) source true) (source ∷ [])
begun g source n size lt =
    let marks : List Bool = replicate n false in
    let within : source < length marks = omega (arith, lt, length-replicate n false) in
    let only : (v : ℕ) → mark_at (set marks source true) v ≡ true → v ≡ source = λ v m. elim (cases_eq v source) [
      | inl e ↦ e
      | inr ne ↦ absurd (both_ways _ (get_or-set_other marks source v true false ne ∙ none_at n v) m)
    ] in
    record {
      size = length-set marks source true ∙ length-replicate n false ∙ size;
      begun = get_or-set_same marks source true false within;
      sound = λ v m. ([], sym (only v m));
      marked = All-cons (λ v. mark_at (set marks source true) v ≡ true) source [] (get_or-set_same marks source true false within) (All-nil (λ v. mark_at (set marks source true) v ≡ true));
      closed = λ u p at m. inr (subst (Contains (source ∷ [])) (sym (only u m)) (Contains-get_or (source ∷ []) 0 0 (omega arith)));
    }

pub begun_few : (n source : ℕ) → source < n → 1 + remaining (set (replicate n false) source true) (source ∷ []) ≤ n + 1
begun_few n source lt =
    let marks : List Bool = replicate n false in
    let within : source < length marks = omega (arith, lt, length-replicate n false) in
    let count : count_by not (set marks source true) + cond (not (get_or marks source false)) 1 0 ≡ count_by not marks + 0 = sum_by-set (λ b. cond (not b) 1 0) marks source true false within in
    let one : cond {A = ℕ} (not (get_or marks source false)) 1 0 ≡ 1 = ap (λ b. cond {A = ℕ} (not b) 1 0) (none_at n source) in
    omega (arith, count, one, count_by-le-length not marks, length-replicate n false)

-- ---- a round

module _ (g : RawGraph) (lawful : IsLawful g) (source : ℕ) (by : Direction) (marks marks' : List Bool) (frontier : List ℕ) (subset : Subset) (gives : Application → Bool → Log → Type 0) (old new : Log) (always : (a : Application) (answer : Bool) (added : Log) → gives a answer added → answer ≡ true) (h : IsReaching g source marks frontier) (mapped : IsMapped by g frontier (λ v. not (mark_at marks v)) gives old new subset) where
  abbrev Wanted : Application → Type 0
  Wanted = IsWanted by g frontier (λ v. not (mark_at marks v))

  answered : (d : EdgeDone) → Contains mapped.done d → d.answer ≡ true
  answered d there = always d.to d.answer d.added (All-contains (λ (e : EdgeDone). gives e.to e.answer e.added) mapped.done d mapped.applied.each there)

  -- a vertex of the next frontier is the target of a wanted place
  reached_by : (v : ℕ) → Contains subset.members v → OneOf mapped.done (λ d. Wanted d.to × (d.to.target ≡ v))
  reached_by v there =
      let one = hit_by mapped.done v ((mapped.members_are v).0 there) in
      record { one = one.one; there = one.there; holds = (made_wanted by g frontier (λ v. not (mark_at marks v)) mapped.done mapped.once one.one one.there, one.holds.1) }

  pub unmarked : (v : ℕ) → Contains subset.members v → mark_at marks v ≡ false
  unmarked v there =
      let t = reached_by v there in
      sym (ap (mark_at marks) t.holds.1) ∙ not-true (mark_at marks t.one.to.target) t.holds.0.target_wanted

  reached : (v : ℕ) → Contains subset.members v → IsReached g source v
  reached v there =
      let t = reached_by v there in
      let w : Wanted t.one.to = t.holds.0 in
      let walk : IsReached g source t.one.to.source = h.sound t.one.to.source (All-contains (λ v. mark_at marks v ≡ true) frontier t.one.to.source h.marked w.member) in
      (walk.0 ++ t.one.to.place ∷ [], subst (IsWalk g source (walk.0 ++ t.one.to.place ∷ [])) (sym w.target_is ∙ t.holds.1) (IsWalk-push g source t.one.to.source t.one.to.place walk.0 walk.1 w.place))

  -- a place of the frontier leads to a vertex that was marked, or is hit
  hits : (u p : ℕ) → IsPlaceOf g u p → Contains frontier u → mark_at marks (target g p) ≡ false → Contains subset.members (target g p)
  hits u p at there free =
      let a : Application = application by u p (target g p) (weight g p) in
      let wanted : Wanted a = record { by_is = refl; member = there; place = at; target_is = refl; weight_is = refl; target_wanted = not_from_false (mark_at marks (target g p)) free } in
      let found : OneOf mapped.done (λ d. d.to ≡ a) = applied_to by g frontier (λ v. not (mark_at marks v)) mapped.done lawful mapped.once a wanted in
      let held : Contains (hits_of mapped.done) found.one.to.target = hit mapped.done found.one found.there (answered found.one found.there) in
      (mapped.members_are (target g p)).1 (subst (Contains (hits_of mapped.done)) (ap (λ (b : Application). b.target) found.holds) held)

  pub next : HasMarked marks marks' subset.members → length marks' ≡ length marks → IsReaching g source marks' subset.members
  next done size = record {
    size = size ∙ h.size;
    begun = (done.marked source).1 (inl h.begun);
    sound = λ v m. elim ((done.marked v).0 m) [ inl was ↦ h.sound v was | inr there ↦ reached v there ];
    marked = All-from_get_or (λ v. mark_at marks' v ≡ true) subset.members 0 (λ k lt. (done.marked (get_or subset.members k 0)).1 (inr (Contains-get_or subset.members k 0 lt)));
    closed = λ u p at m. elim ((done.marked u).0 m) [
      | inr there ↦ inr there
      | inl was ↦ elim (h.closed u p at was) [
        | inl on ↦ inl ((done.marked (target g p)).1 (inl on))
        | inr there ↦ elim (cases_Bool (mark_at marks (target g p))) [
          | inl known ↦ inl ((done.marked (target g p)).1 (inl known))
          | inr free ↦ inl ((done.marked (target g p)).1 (inr (hits u p at there free)))
        ]
      ]
    ];
  }

-- one round: the seen marks, and those before the hit vertices got theirs, are the marks
pub searched_on : (g : RawGraph) → IsLawful g → (source : ℕ) (table : List ℕ) (marks seen before after : List Bool) (frontier subset : Subset) (ids : List ℕ) (seat seat' : Seat) (round : ℕ) (by : Direction)
    (gives : Application → Bool → Log → Type 0) (old new : Log) → ((a : Application) (answer : Bool) (added : Log) → gives a answer added → answer ≡ true) →
    seen ≡ marks → before ≡ marks → ids ≡ subset.members → length after ≡ length before →
    IsSearching g source table marks frontier seat round → 0 < length frontier.members → IsMapped by g frontier.members (λ v. not (mark_at seen v)) gives old new subset →
    HasStamped by round seat seat' → HasMarked before after ids → IsSearching g source table after subset seat' (round + 1)
searched_on g lawful source table marks seen before after frontier subset ids seat seat' round by gives old new always seen_is before_is ids_are size h some mapped stamped marked =
    let mapped' : IsMapped by g frontier.members (λ v. not (mark_at marks v)) gives old new subset = subst (λ m. IsMapped by g frontier.members (λ v. not (mark_at m v)) gives old new subset) seen_is mapped in
    let here : HasMarked marks after ids = subst (λ m. HasMarked m after ids) before_is marked in
    let done : HasMarked marks after subset.members = subst (HasMarked marks after) ids_are here in
    record {
      reaching = next g lawful source by marks after frontier.members subset gives old new always h.reaching mapped' done (size ∙ ap length before_is);
      n = mapped.n;
      stamps = stamps_later (vertices g) table round (round + 1) by seat seat' (omega arith) h.stamps stamped;
      few = omega (arith, h.few, some, done.fewer);
    }

-- the hit vertices have no mark yet
pub hit_unmarked : (g : RawGraph) → IsLawful g → (source : ℕ) (table : List ℕ) (marks seen before : List Bool) (frontier subset : Subset) (ids : List ℕ) (seat : Seat) (round : ℕ) (by : Direction)
    (gives : Application → Bool → Log → Type 0) (old new : Log) → ((a : Application) (answer : Bool) (added : Log) → gives a answer added → answer ≡ true) →
    seen ≡ marks → before ≡ marks → ids ≡ subset.members → IsSearching g source table marks frontier seat round →
    IsMapped by g frontier.members (λ v. not (mark_at seen v)) gives old new subset → All (λ v. mark_at before v ≡ false) ids
hit_unmarked g lawful source table marks seen before frontier subset ids seat round by gives old new always seen_is before_is ids_are h mapped =
    let mapped' : IsMapped by g frontier.members (λ v. not (mark_at marks v)) gives old new subset = subst (λ m. IsMapped by g frontier.members (λ v. not (mark_at m v)) gives old new subset) seen_is mapped in
    let free : All (λ v. mark_at marks v ≡ false) subset.members = All-from_get_or (λ v. mark_at marks v ≡ false) subset.members 0
    (λ k lt. unmarked g lawful source by marks marks frontier.members subset gives old new always h.reaching mapped' (get_or subset.members k 0) (Contains-get_or subset.members k 0 lt)) in
    subst (All (λ v. mark_at before v ≡ false)) (sym ids_are) (subst (λ m. All (λ v. mark_at m v ≡ false) subset.members) (sym before_is) free)

-- a search begins with the source alone
pub begun_search : (g : RawGraph) (source : ℕ) (table : List ℕ) (seat : Seat) (n m : ℕ) (marks : List Bool) (ids : List ℕ) (frontier : Subset) →
    marks ≡ replicate n false → n ≡ vertices g → m ≡ vertices g → ids ≡ source ∷ [] → frontier ≡ record { n = m; members = ids; dense = false } →
    source < vertices g → CanStamp (vertices g) table 1 seat → IsSearching g source table (set marks source true) frontier seat 1
begun_search g source table seat n m marks ids frontier marks_are n_is m_is ids_are frontier_is lt stamps =
    let members_are : frontier.members ≡ source ∷ [] = ap (λ (s : Subset). s.members) frontier_is ∙ ids_are in
    let start : IsReaching g source (set (replicate n false) source true) (source ∷ []) = begun g source n n_is (omega (arith, lt, n_is)) in
    let few : 1 + remaining (set (replicate n false) source true) (source ∷ []) ≤ n + 1 = begun_few n source (omega (arith, lt, n_is)) in
    record {
      reaching = subst (λ xs. IsReaching g source (set marks source true) xs) (sym members_are) (subst (λ b. IsReaching g source (set b source true) (source ∷ [])) (sym marks_are) start);
      n = ap (λ (s : Subset). s.n) frontier_is ∙ m_is;
      stamps = stamps;
      few = omega (arith, few, n_is, ap length members_are, ap (λ b. count_by not (set b source true)) marks_are);
    }

-- it ends where the frontier is empty
pub ended : (g : RawGraph) (source : ℕ) (marks : List Bool) (frontier : List ℕ) → length frontier ≤ 0 → IsReaching g source marks frontier → (v : ℕ) → (mark_at marks v ≡ true) ↔ IsReached g source v
ended g source marks [] none h = marks_reached g source marks h
ended g source marks (x ∷ xs) none h = absurd (omega (arith, none))
