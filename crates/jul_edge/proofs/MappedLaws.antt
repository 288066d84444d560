-- What an edge map that was made gives an engine: an application to each wanted place, and the vertices whose words fell.
use Rattle.std.proofs.Common.{◌≡◌, ℕ, ◌<◌, ◌≤◌, Bool, true, List, [], ◌∷◌, ◌++◌, map, cond, eqb, refl, sym, ap, ◌∙◌, subst, arith, inl, inr, suc, zero, length}
use Rattle.std.specs.List.{Contains, All}
use Rattle.std.proofs.lemmas.Bool.{cases_Bool, cases_lt, eqb-true}
use Rattle.std.proofs.lemmas.List.Elements.{All-contains, All-append, All-weaker, All-map}
use Rattle.jul_base.specs.declared.graphs.RawGraph.{RawGraph}
use Rattle.jul_base.specs.Graph.{target, weight, IsPlaceOf, IsLawful}
use Rattle.jul_base.specs.Logs.{Log, Entry, STAMP}
use Rattle.jul_base.proofs.RowLaws.{IsPlaceOf-unique}
use Rattle.jul_base.proofs.SetLaws.{Contains-cons, Contains-cons_cases}
use Rattle.jul_base.specs.Times.{times}
use Rattle.jul_pool.specs.Added.{first_part, entries_of}
use Rattle.jul_pool.proofs.PartLaws.{HasOnePart, one_part}
use Rattle.jul_words.specs.Weights.{weigh}
use Rattle.jul_words.specs.Marks.{is_marked}
use Rattle.jul_words.specs.Seats.{Seat}
use Rattle.jul_words.specs.Least.{least, Marks}
use Rattle.jul_words.proofs.Sums.{weigh-append}
use Rattle.jul_words.proofs.LaterLaws.{fell_marked}
use Rattle.jul_subset.specs.Applications.{Done, answered_true, AppliedBy}
use Rattle.jul_edge.specs.declared.functions.Direction.{Direction}
use Rattle.jul_edge.specs.Edges.{Application, IsWanted, AreWantedOnce, places_of}
use Rattle.jul_edge.specs.EdgeMaps.{CanStamp, HasStamped}
use Rattle.jul_subset.proofs.ApplicationLaws.{All-from_map}

-- one application to a place, with its answer and what it added
abbrev pub EdgeDone : Type 0
EdgeDone = Done Application

-- to what they were, what they added, and the targets that were answered true
abbrev pub apps_of : List EdgeDone → List Application
apps_of done = map (λ (d : EdgeDone). d.to) done

abbrev pub added_of : List EdgeDone → List Log
added_of done = map (λ (d : EdgeDone). d.added) done

abbrev pub hits_of : List EdgeDone → List ℕ
hits_of done = answered_true (λ (a : Application). a.target) done

-- one of the applications, of which P holds
pub record OneOf (done : List EdgeDone) (P : EdgeDone → Type 0) : Type 0 where
  pub one : EdgeDone
  pub there : Contains done one
  pub holds : P one

pub done_first : (d : EdgeDone) (ds : List EdgeDone) → Contains (d ∷ ds) d
done_first d ds = (zero, omega arith, refl)

pub done_later : (d : EdgeDone) (ds : List EdgeDone) (e : EdgeDone) → Contains ds e → Contains (d ∷ ds) e
done_later d ds e (k, lt, is) = (suc k, omega arith, is)

later : (P : EdgeDone → Type 0) (d : EdgeDone) (ds : List EdgeDone) → OneOf ds P → OneOf (d ∷ ds) P
later P d ds h = record { one = h.one; there = done_later d ds h.one h.there; holds = h.holds }

-- ---- an application to each wanted place

at_place : (done : List EdgeDone) (p : ℕ) → 0 < times p (places_of (apps_of done)) → OneOf done (λ d. d.to.place ≡ p)
at_place [] p some = absurd (omega (arith, some))
at_place (d ∷ ds) p some =
    elim (cases_Bool (eqb d.to.place p)) [
      | inl e ↦ record { one = d; there = done_first d ds; holds = eqb-true d.to.place p e }
      | inr ne ↦
          let none : cond {A = ℕ} (eqb d.to.place p) 1 0 ≡ 0 = ap (λ b. cond {A = ℕ} b 1 0) ne in
          later (λ e. e.to.place ≡ p) d ds (at_place ds p (omega (arith, some, none)))
    ]

same_application : (a b : Application) → a.by ≡ b.by → a.source ≡ b.source → a.place ≡ b.place → a.target ≡ b.target → a.weight ≡ b.weight → a ≡ b
same_application a b h i j k l = parts a.by b.by a.source b.source a.place b.place a.target b.target a.weight b.weight h i j k l where
  parts : (d d' : Direction) (u u' p p' v v' w w' : ℕ) → d ≡ d' → u ≡ u' → p ≡ p' → v ≡ v' → w ≡ w' →
      ◌≡◌ {A = Application} (record { by = d; source = u; place = p; target = v; weight = w }) (record { by = d'; source = u'; place = p'; target = v'; weight = w' })
  parts d d' u u' p p' v v' w w' h i j k l = cc

All-apps : (P : Application → Type 0) (done : List EdgeDone) → All P (apps_of done) → (d : EdgeDone) → Contains done d → P d.to
All-apps P done h d there = All-contains (λ (e : EdgeDone). P e.to) done d (All-from_map P (λ (e : EdgeDone). e.to) done h) there

-- each wanted application was made
pub applied_to : (by : Direction) (g : RawGraph) (members : List ℕ) (wanted : ℕ → Bool) (done : List EdgeDone) → IsLawful g →
    AreWantedOnce by g members wanted (apps_of done) → (a : Application) → IsWanted by g members wanted a → OneOf done (λ d. d.to ≡ a)
applied_to by g members wanted done lawful are a w =
    let found : OneOf done (λ d. d.to.place ≡ a.place) = at_place done a.place (omega (arith, are.once a w)) in
    let b : Application = found.one.to in
    let v : IsWanted by g members wanted b = All-apps (IsWanted by g members wanted) done are.no_other found.one found.there in
    let p : b.place ≡ a.place = found.holds in
    let from_b : IsPlaceOf g b.source a.place = subst (IsPlaceOf g b.source) p v.place in
    record {
      one = found.one;
      there = found.there;
      holds = same_application b a (v.by_is ∙ sym w.by_is) (IsPlaceOf-unique g lawful b.source a.source a.place from_b w.place) p
          (v.target_is ∙ ap (target g) p ∙ sym w.target_is) (v.weight_is ∙ ap (weight g) p ∙ sym w.weight_is);
    }

-- each application that was made is a wanted one
pub made_wanted : (by : Direction) (g : RawGraph) (members : List ℕ) (wanted : ℕ → Bool) (done : List EdgeDone) →
    AreWantedOnce by g members wanted (apps_of done) → (d : EdgeDone) → Contains done d → IsWanted by g members wanted d.to
made_wanted by g members wanted done are d there = All-apps (IsWanted by g members wanted) done are.no_other d there

-- ---- the targets that were answered true

pub hit : (done : List EdgeDone) (d : EdgeDone) → Contains done d → d.answer ≡ true → Contains (hits_of done) d.to.target
hit [] d (k, lt, is) yes' = absurd (omega (arith, lt))
hit (x ∷ xs) d (zero, lt, is) yes' =
    let own : x.answer ≡ true = ap (λ (e : EdgeDone). e.answer) is ∙ yes' in
    rw own (zero, omega arith, ap (λ (e : EdgeDone). e.to.target) is)
hit (x ∷ xs) d (suc k, lt, is) yes' =
    let rest : Contains (hits_of xs) d.to.target = hit xs d (k, omega arith, is) yes' in
    elim (cases_Bool x.answer) [
      | inl own ↦ rw own (Contains-cons x.to.target (hits_of xs) d.to.target rest)
      | inr own ↦ rw own rest
    ]

-- a vertex that was hit is the target of an application that was answered true
pub hit_by : (done : List EdgeDone) (v : ℕ) → Contains (hits_of done) v → OneOf done (λ d. (d.answer ≡ true) × (d.to.target ≡ v))
hit_by [] v (k, lt, is) = absurd (omega (arith, lt))
hit_by (x ∷ xs) v there =
    elim (cases_Bool x.answer) [
      | inl own ↦ elim (Contains-cons_cases x.to.target (hits_of xs) v (rw own at there)) [
        | inl e ↦ record { one = x; there = done_first x xs; holds = (own, e) }
        | inr rest ↦ later (λ d. (d.answer ≡ true) × (d.to.target ≡ v)) x xs (hit_by xs v rest)
      ]
      | inr own ↦ later (λ d. (d.answer ≡ true) × (d.to.target ≡ v)) x xs (hit_by xs v (rw own at there))
    ]

-- ---- the entries

-- an application added each entry
pub added_by : (f : Entry → ℕ) (done : List EdgeDone) → 0 < weigh f (entries_of (added_of done)) → OneOf done (λ d. 0 < weigh f (first_part d.added))
added_by f [] some = absurd (omega (arith, some))
added_by f (d ∷ ds) some = elim (cases_lt 0 (weigh f (first_part d.added))) [
  | inl here ↦ record { one = d; there = done_first d ds; holds = here }
  | inr none ↦ later (λ e. 0 < weigh f (first_part e.added)) d ds
      (added_by f ds (omega (arith, some, none, weigh-append f (first_part d.added) (entries_of (added_of ds)))))
]

-- and each entry of an application is among them
pub entries_have : (f : Entry → ℕ) (done : List EdgeDone) (d : EdgeDone) → Contains done d → weigh f (first_part d.added) ≤ weigh f (entries_of (added_of done))
entries_have f [] d (k, lt, is) = absurd (omega (arith, lt))
entries_have f (x ∷ xs) d (zero, lt, is) =
    let same : weigh f (first_part x.added) ≡ weigh f (first_part d.added) = ap (λ (e : EdgeDone). weigh f (first_part e.added)) is in
    omega (arith, same, weigh-append f (first_part x.added) (entries_of (added_of xs)))
entries_have f (x ∷ xs) d (suc k, lt, is) =
    let rest : weigh f (first_part d.added) ≤ weigh f (entries_of (added_of xs)) = entries_have f xs d (k, omega arith, is) in
    omega (arith, rest, weigh-append f (first_part x.added) (entries_of (added_of xs)))

-- the log of a token of one part has the entries of all applications behind it
pub log_grew : (gives : Application → Bool → Log → Type 0) (old new : List Entry) (done : List EdgeDone) → AppliedBy gives (old ∷ []) (new ∷ []) done →
    All (λ (d : EdgeDone). length d.added ≤ 1) done → new ≡ old ++ entries_of (added_of done)
log_grew gives old new done by parts =
    ap first_part (by.log_is ∙ one_part old (added_of done) (All-map HasOnePart (λ (d : EdgeDone). d.added) done parts))

-- ---- the vertices whose words fell

-- the answer says whether the application's entry is marked, and the entry is of its target
abbrev pub TellsMarks : (Application → Bool → Log → Type 0) → Type 0
TellsMarks gives = (a : Application) (answer : Bool) (added : Log) → gives a answer added → (v c : ℕ) → 0 < weigh (is_marked v c) (first_part added) → (answer ≡ true) × (a.target ≡ v)

-- a vertex whose word fell during an edge map stands in the subset
pub fell_hit : (gives : Application → Bool → Log → Type 0) → TellsMarks gives → (done : List EdgeDone) → All (λ (d : EdgeDone). gives d.to d.answer d.added) done →
    (v start : ℕ) (old : List Entry) → Marks start v (old ++ entries_of (added_of done)) → least v start (old ++ entries_of (added_of done)) < least v start old →
    Contains (hits_of done) v
fell_hit gives tells done each v start old m fell =
    let new : List Entry = entries_of (added_of done) in
    let c : ℕ = least v start (old ++ new) in
    let by_one : OneOf done (λ d. 0 < weigh (is_marked v c) (first_part d.added)) = added_by (is_marked v c) done (fell_marked v start old new m fell) in
    let d : EdgeDone = by_one.one in
    let told : (d.answer ≡ true) × (d.to.target ≡ v) = tells d.to d.answer d.added (All-contains (λ (e : EdgeDone). gives e.to e.answer e.added) done d each by_one.there) v c by_one.holds in
    subst (Contains (hits_of done)) told.1 (hit done d by_one.there told.0)

-- ---- rounds

-- a seat that may stamp in a round may as well stamp in a later one
pub stamps_on : (n : ℕ) (table : List ℕ) (round next : ℕ) (s : Seat) → round ≤ next → CanStamp n table round s → CanStamp n table next s
stamps_on n table round next s le can = record {
  of_table = can.of_table;
  words = can.words;
  alone = can.alone;
  some = omega (arith, can.some);
  above = All-weaker (λ (e : Entry). e.number < round) (λ (e : Entry). e.number < next) (λ e lt. omega (arith, lt)) s.log can.above;
}

-- the seat may stamp with each later round
pub stamps_later : (n : ℕ) (table : List ℕ) (round next : ℕ) (by : Direction) (old new : Seat) → round < next → CanStamp n table round old → HasStamped by round old new → CanStamp n table next new
stamps_later n table round next by old new later_on can has = record {
  of_table = ap (λ (s : Seat). s.home.table) has.seat_is ∙ can.of_table;
  words = ap (λ (s : Seat). length s.home.starts) has.seat_is ∙ can.words;
  alone = (ap (λ (s : Seat). s.root) has.seat_is ∙ can.alone.0, ap (λ (s : Seat). s.out) has.seat_is ∙ can.alone.1);
  some = omega arith;
  above = subst (All (λ (e : Entry). e.number < next)) (sym (ap (λ (s : Seat). s.log) has.seat_is))
      (All-append (λ (e : Entry). e.number < next) old.log has.entries
      (All-weaker (λ (e : Entry). e.number < round) (λ (e : Entry). e.number < next) (λ e lt. omega (arith, lt)) old.log can.above)
      (All-weaker (λ (e : Entry). (e.kind ≡ STAMP) × (e.number ≡ round)) (λ (e : Entry). e.number < next) (λ e is. omega (arith, is.1)) has.entries has.of_round));
}
