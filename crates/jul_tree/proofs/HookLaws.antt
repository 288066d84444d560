-- What a round over tight places leaves of the words, and which vertices it hits.
use Rattle.std.proofs.Common.{◌≡◌, ◌≢◌, ◌⊎◌, ℕ, ◌+◌, ◌<◌, ◌≤◌, Bool, true, not, eqb, List, [], ◌∷◌, ◌++◌, length, get_or, refl, sym, ap, ◌∙◌, subst, eq-eqb, arith, inl, inr}
use Rattle.std.specs.Prelude.{nat_lt}
use Rattle.std.specs.List.{Contains, All}
use Rattle.std.proofs.lemmas.Bool.{cases_eq, cases_lt, both_ways, and_parts, and_from, eqb-true, ne_eqb}
use Rattle.std.proofs.lemmas.List.Elements.{All-contains}
use Rattle.jul_base.specs.declared.graphs.RawGraph.{RawGraph}
use Rattle.jul_base.specs.declared.limits.TheConstants.{NONE}
use Rattle.jul_base.specs.Graph.{target, weight, IsLawful}
use Rattle.jul_base.specs.Logs.{Log, Entry, LOWER}
use Rattle.jul_pool.specs.Added.{HasAdded, first_part, entries_of}
use Rattle.jul_words.specs.Weights.{counted, weigh}
use Rattle.jul_words.specs.Marks.{is_at}
use Rattle.jul_words.specs.Seats.{Seat, IsAlone, start_of, entry, logs}
use Rattle.jul_words.specs.Least.{least, word_of, lowering}
use Rattle.jul_words.proofs.Marking.{at_here, at_parts}
use Rattle.jul_words.proofs.LaterLaws.{least_falls, least_offered, least_fell}
use Rattle.jul_subset.specs.Subsets.{Subset}
use Rattle.jul_edge.specs.declared.functions.Direction.{Direction}
use Rattle.jul_edge.specs.Edges.{Application, application, IsWanted}
use Rattle.jul_edge.specs.EdgeMaps.{IsMapped}
use Rattle.jul_edge.proofs.MappedLaws.{EdgeDone, added_of, hits_of, OneOf, hit, hit_by as answered_by, applied_to, made_wanted, added_by, entries_have, log_grew}
use Rattle.jul_tree.specs.Hooking.{key, is_free, IsTightTo, Hooks, IsHooked, IsHook, HasHooked}

-- ---- one application

-- a lowering to the key is what an application over a tight place gives
pub lowered_hooks : (dist : List ℕ) (hop : ℕ) (a : Application) (old new : Seat) (x n : ℕ) → IsTightTo dist a → x ≡ key hop a.source → new ≡ logs old (lowering a.target x n) →
    HasAdded (Hooks dist hop a) (old.log ∷ []) (new.log ∷ []) true
lowered_hooks dist hop a old new x n tight is logged = record {
  added = (lowering a.target x n ∷ []) ∷ [];
  gives_out = record {
    mark = counted (nat_lt x n);
    made = λ _. (refl, ap (λ y. (entry LOWER a.target y (counted (nat_lt x n)) ∷ []) ∷ []) is);
    withheld = λ loose. absurd (loose tight);
  };
  log_is = ap (λ (s : Seat). s.log ∷ []) logged;
}

pub free_is : (dist hops : List ℕ) (v : ℕ) → get_or hops v 0 ≡ NONE → get_or dist v 0 ≢ NONE → is_free dist hops v ≡ true
free_is dist hops v free some = and_from _ _ (eq-eqb (get_or hops v 0) NONE free) (ap not (ne_eqb (get_or dist v 0) NONE some))

pub is_free-parts : (dist hops : List ℕ) (v : ℕ) → is_free dist hops v ≡ true → (get_or hops v 0 ≡ NONE) × (get_or dist v 0 ≢ NONE)
is_free-parts dist hops v is =
    let parts : (eqb (get_or hops v 0) NONE ≡ true) × (not (eqb (get_or dist v 0) NONE) ≡ true) = and_parts _ _ is in
    (eqb-true _ _ parts.0, λ none. absurd (both_ways (not (eqb (get_or dist v 0) NONE)) (ap not (eq-eqb _ _ none)) parts.1))

module _ (dist : List ℕ) (hop : ℕ) where
  tight_cases : (a : Application) → IsTightTo dist a ⊎ (IsTightTo dist a → ⊥)
  tight_cases a = cases_eq (get_or dist a.source 0 + a.weight) (get_or dist a.target 0)

  -- an entry of an application shows that the place is tight, and is its key
  shown : (f : Entry → ℕ) (a : Application) (answer : Bool) (added : Log) (r : Hooks dist hop a answer added) → 0 < weigh f (first_part added) →
      IsTightTo dist a × (0 < f (entry LOWER a.target (key hop a.source) r.mark))
  shown f a answer added r some = elim (tight_cases a) [
    | inl tight ↦
        let one : weigh f (first_part added) ≡ f (entry LOWER a.target (key hop a.source) r.mark) + 0 = ap (λ l. weigh f (first_part l)) (r.made tight).1 in
        (tight, omega (arith, one, some))
    | inr loose ↦ let none : weigh f (first_part added) ≡ 0 = ap (λ l. weigh f (first_part l)) (r.withheld loose).1 in absurd (omega (arith, none, some))
  ]

  -- what was offered is an entry
  made_entry : (a : Application) (answer : Bool) (added : Log) → Hooks dist hop a answer added → IsTightTo dist a → 0 < weigh (is_at a.target (key hop a.source)) (first_part added)
  made_entry a answer added r tight =
      let v : ℕ = a.target in
      let c : ℕ = key hop a.source in
      let e : Entry = entry LOWER v c r.mark in
      let one : weigh (is_at v c) (first_part added) ≡ is_at v c e + 0 = ap (λ l. weigh (is_at v c) (first_part l)) (r.made tight).1 in
      omega (arith, one, at_here v c e refl refl)

  true_tight : (a : Application) (answer : Bool) (added : Log) → Hooks dist hop a answer added → answer ≡ true → IsTightTo dist a
  true_tight a answer added r yes' = elim (tight_cases a) [ inl tight ↦ tight | inr loose ↦ absurd (both_ways answer (r.withheld loose).0 yes') ]

-- ---- all of them

module _ (by : Direction) (g : RawGraph) (lawful : IsLawful g) (members dist hops : List ℕ) (hop : ℕ) (old new : Seat) (subset : Subset) (home : new.home ≡ old.home) (mapped : IsMapped by g members (is_free dist hops) (λ a answer added. Hooks dist hop a answer added) (old.log ∷ []) (new.log ∷ []) subset) (parts : All (λ (d : EdgeDone). length d.added ≤ 1) mapped.done) where
  abbrev entries : List Entry
  entries = entries_of (added_of mapped.done)

  gave : (d : EdgeDone) → Contains mapped.done d → Hooks dist hop d.to d.answer d.added
  gave d there = All-contains (λ (e : EdgeDone). Hooks dist hop e.to e.answer e.added) mapped.done d mapped.applied.each there

  grew : new.log ≡ old.log ++ entries
  grew = log_grew (λ a answer added. Hooks dist hop a answer added) old.log new.log mapped.done mapped.applied parts

  word_is : (v : ℕ) → word_of new v ≡ least v (start_of old.home v) (old.log ++ entries)
  word_is v = ap (λ h. least v (start_of h v) new.log) home ∙ ap (least v (start_of old.home v)) grew

  -- the application that a hook asks for
  abbrev app_to : ℕ → ℕ → Application
  app_to u p = application by u p (target g p) (weight g p)

  wanted_to : (v u p : ℕ) → IsHooked g members dist hops v u p → IsWanted by g members (is_free dist hops) (app_to u p)
  wanted_to v u p h = record {
    by_is = refl;
    member = h.member;
    place = h.from;
    target_is = refl;
    weight_is = refl;
    target_wanted = subst (λ x. is_free dist hops x ≡ true) (sym h.to) (free_is dist hops v h.free h.some);
  }

  tight_to : (v u p : ℕ) → IsHooked g members dist hops v u p → IsTightTo dist (app_to u p)
  tight_to v u p h = h.sum ∙ ap (λ x. get_or dist x 0) (sym h.to)

  -- it was made
  made_to : (v u p : ℕ) → IsHooked g members dist hops v u p → OneOf mapped.done (λ d. d.to ≡ app_to u p)
  made_to v u p h = applied_to by g members (is_free dist hops) mapped.done lawful mapped.once (app_to u p) (wanted_to v u p h)

  -- what an application over a tight place is
  hooked_by : (d : EdgeDone) → Contains mapped.done d → IsTightTo dist d.to → IsHook g members dist hops d.to.target d.to.source
  hooked_by d there tight =
      let w : IsWanted by g members (is_free dist hops) d.to = made_wanted by g members (is_free dist hops) mapped.done mapped.once d there in
      let f : (get_or hops d.to.target 0 ≡ NONE) × (get_or dist d.to.target 0 ≢ NONE) = is_free-parts dist hops d.to.target w.target_wanted in (
        d.to.place,
        record {
          from = w.place;
          member = w.member;
          to = sym w.target_is;
          sum = ap (λ x. get_or dist d.to.source 0 + x) (sym w.weight_is) ∙ tight;
          free = f.0;
          some = f.1;
        },
      )

  hit_by : (v : ℕ) → Contains subset.members v → (u : ℕ) × IsHook g members dist hops v u
  hit_by v there =
      let o : OneOf mapped.done (λ d. (d.answer ≡ true) × (d.to.target ≡ v)) = answered_by mapped.done v ((mapped.members_are v).0 there) in
      let tight : IsTightTo dist o.one.to = true_tight dist hop o.one.to o.one.answer o.one.added (gave o.one o.there) o.holds.0 in
      (o.one.to.source, subst (λ x. IsHook g members dist hops x o.one.to.source) o.holds.1 (hooked_by o.one o.there tight))

  hits : (v u : ℕ) → IsHook g members dist hops v u → Contains subset.members v
  hits v u (p, h) =
      let o : OneOf mapped.done (λ d. d.to ≡ app_to u p) = made_to v u p h in
      let tight : IsTightTo dist o.one.to = subst (IsTightTo dist) (sym o.holds) (tight_to v u p h) in
      let yes' : o.one.answer ≡ true = ((gave o.one o.there).made tight).0 in
      let at : o.one.to.target ≡ v = ap (λ (a : Application). a.target) o.holds ∙ h.to in
      (mapped.members_are v).1 (subst (Contains (hits_of mapped.done)) at (hit mapped.done o.one o.there yes'))

  lower : (v u : ℕ) → IsHook g members dist hops v u → word_of new v ≤ key hop u
  lower v u (p, h) =
      let o : OneOf mapped.done (λ d. d.to ≡ app_to u p) = made_to v u p h in
      let r : Hooks dist hop (app_to u p) o.one.answer o.one.added = subst (λ b. Hooks dist hop b o.one.answer o.one.added) o.holds (gave o.one o.there) in
      let c : ℕ = key hop u in
      let some : 0 < weigh (is_at (target g p) c) (first_part o.one.added) = made_entry dist hop (app_to u p) o.one.answer o.one.added r (tight_to v u p h) in
      let le : least (target g p) (start_of old.home (target g p)) (old.log ++ entries) ≤ c =
      least_offered (target g p) (start_of old.home (target g p)) c old.log entries (omega (arith, some, entries_have (is_at (target g p) c) mapped.done o.one o.there)) in
      let here : word_of new (target g p) ≤ c = omega (arith, word_is (target g p), le) in
      subst (λ x. word_of new x ≤ c) h.to here

  each : (v : ℕ) → (word_of new v ≡ word_of old v) ⊎ ((u : ℕ) × IsHook g members dist hops v u × (word_of new v ≡ key hop u))
  each v =
      let start : ℕ = start_of old.home v in
      let n : ℕ = least v start (old.log ++ entries) in
      let is : word_of new v ≡ n = word_is v in
      elim (cases_lt n (word_of old v)) [
        | inr same ↦ inl (omega (arith, is, same, least_falls v start old.log entries))
        | inl fell ↦
            let entered : 0 < weigh (is_at v n) entries = least_fell v start old.log entries fell in
            let by_one : OneOf mapped.done (λ d. 0 < weigh (is_at v n) (first_part d.added)) = added_by (is_at v n) mapped.done entered in
            let d : EdgeDone = by_one.one in
            let r : Hooks dist hop d.to d.answer d.added = gave d by_one.there in
            let seen : IsTightTo dist d.to × (0 < is_at v n (entry LOWER d.to.target (key hop d.to.source) r.mark)) = shown dist hop (is_at v n) d.to d.answer d.added r by_one.holds in
            let parts : (d.to.target ≡ v) × (key hop d.to.source ≡ n) = at_parts v n (entry LOWER d.to.target (key hop d.to.source) r.mark) seen.1 in
            inr (d.to.source, subst (λ x. IsHook g members dist hops x d.to.source) parts.0 (hooked_by d by_one.there seen.0), is ∙ sym parts.1)
      ]

  pub has_hooked : IsAlone new → HasHooked g members dist hops hop old new subset
  has_hooked alone = record { n = mapped.n; home = home; alone = alone; hit_by = hit_by; hits = hits; lower = lower; each = each }

-- the same from what an edge map says of its tokens
pub round_hooked : (by : Direction) (g : RawGraph) (members dist hops : List ℕ) (hop : ℕ) (old new : Seat) (subset : Subset) → IsLawful g → (mapped : IsMapped by g members (is_free dist hops) (λ a answer added. Hooks dist hop a answer added) (old.log ∷ []) (new.log ∷ []) subset) →
    All (λ (d : EdgeDone). length d.added ≤ 1) mapped.done → new.home ∷ [] ≡ old.home ∷ [] → new.root ≡ true → new.out ≡ 0 → HasHooked g members dist hops hop old new subset
round_hooked by g members dist hops hop old new subset lawful mapped parts homes root out =
    let home : new.home ≡ old.home = cc in
    has_hooked by g lawful members dist hops hop old new subset home mapped parts (root, out)
