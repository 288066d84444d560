-- The stamps of one round, behind those of earlier rounds: each target that was answered true has a first stamp.
use Rattle.std.proofs.Common.{◌≡◌, ℕ, ◌+◌, ◌<◌, ◌≤◌, ◌≢◌, List, [], ◌∷◌, ◌++◌, length, map, refl, ap, sym, ◌∙◌, subst, arith, All, Bool, true, false, inl, inr, ⊎_elim}
use Rattle.std.specs.Prelude.{Contains, ◌↔◌}
use Rattle.std.proofs.lemmas.Bool.{cases_Bool, cases_lt, cases_eq}
use Rattle.std.proofs.lemmas.List.Elements.{All-map, All-nil, All-cons, All-head, All-tail, Contains-get_or, All-append, All-weaker}
use Rattle.jul_base.specs.declared.graphs.RawGraph.{RawGraph}
use Rattle.jul_base.specs.Graph.{vertices, IsLawful}
use Rattle.jul_base.specs.Logs.{Log, Entry, Home, STAMP}
use Rattle.jul_base.proofs.SetLaws.{Contains-cons, Contains-cons_cases}
use Rattle.jul_pool.specs.Added.{followed_by_all}
use Rattle.jul_words.specs.Weights.{weigh, counted}
use Rattle.jul_words.specs.Seats.{Seat, entry}
use Rattle.jul_words.specs.Marks.{is_at, is_marked}
use Rattle.jul_words.specs.Stamps.{greatest, Firsts, AllFirsts}
use Rattle.jul_words.proofs.Marking.{at_here, mark_parts}
use Rattle.jul_words.proofs.Maxima.{greatest_over, greatest_here, greatest_else}
use Rattle.jul_words.proofs.Sums.{weigh-append}
use Rattle.jul_subset.specs.Subsets.{Subset}
use Rattle.jul_subset.specs.Applications.{Done, answered_true}
use Rattle.jul_edge.specs.declared.functions.Direction.TheVariants.{Push}
use Rattle.jul_edge.specs.Edges.{Application, IsWanted, AreWantedOnce}
use Rattle.jul_edge.specs.EdgeMaps.{IsMapped, CanStamp, HasStamped}
use Rattle.jul_edge.proofs.ApplyingLaws.{answered_true-below, wanted_target}
use Rattle.jul_edge.proofs.PushLaws.{All-to}
use Rattle.jul_edge.specs.Pushes.{Stamped, stamps, firsts, PushedAll}

abbrev answered : List Stamped → List ℕ
answered xs = answered_true (λ (a : Application). a.target) (map (λ (x : Stamped). x.done) xs)

-- entries of earlier rounds have no mark of this one
no_mark_below : (v round : ℕ) (log : List Entry) → All (λ (e : Entry). e.number < round) log → weigh (is_marked v round) log ≡ 0
no_mark_below v round [] h = refl
no_mark_below v round (e ∷ es) h =
    let below : e.number < round = All-head (λ (e : Entry). e.number < round) e es h in
    let rest : weigh (is_marked v round) es ≡ 0 = no_mark_below v round es (All-tail (λ (e : Entry). e.number < round) e es h) in
    ⊎_elim
    (λ (some : 0 < is_marked v round e). absurd (let p = mark_parts v round e some in omega (arith, p.1)))
    (λ (none : is_marked v round e ≤ 0). omega arith)
    (cases_lt 0 (is_marked v round e))

greatest-le : (v round : ℕ) (log : List Entry) → All (λ (e : Entry). e.number ≤ round) log → greatest v log ≤ round
greatest-le v round [] h = omega arith
greatest-le v round (e ∷ es) h =
    let here : e.number ≤ round = All-head (λ (e : Entry). e.number ≤ round) e es h in
    let rest : greatest v es ≤ round = greatest-le v round es (All-tail (λ (e : Entry). e.number ≤ round) e es h) in
    ⊎_elim
    (λ (same : e.vertex ≡ v). omega (arith, greatest_here v e es same))
    (λ (other : e.vertex ≢ v). omega (arith, greatest_else v e es other))
    (cases_eq e.vertex v)

counted_one : (b : Bool) → counted b ≡ 1 → b ≡ true
counted_one true e = refl
counted_one false e = absurd (omega arith)

-- a marked stamp is that of a first
marked_first : (v round : ℕ) (xs : List Stamped) → 0 < weigh (is_marked v round) (stamps round xs) → Contains (firsts xs) v
marked_first v round [] h = absurd (omega arith)
marked_first v round (x ∷ xs) h =
    let t = x.done.to.target in
    let e : Entry = entry STAMP t round (counted x.first) in
    let later : 0 < weigh (is_marked v round) (stamps round xs) → Contains (firsts (x ∷ xs)) v = λ more.
    let rest : Contains (firsts xs) v = marked_first v round xs more in
    elim (cases_Bool x.first) [
      | inl is ↦ rw is (Contains-cons t (firsts xs) v rest)
      | inr not ↦ rw not rest
    ] in
    elim (cases_Bool x.done.answer) [
      | inl is ↦
          let h' : 0 < is_marked v round e + weigh (is_marked v round) (stamps round xs) = rw is at h in
          ⊎_elim
          (λ (some : 0 < is_marked v round e).
          let p = mark_parts v round e some in
          let first : x.first ≡ true = counted_one x.first p.2 in
          rw first (0, omega arith, p.0))
          (λ (none : is_marked v round e ≤ 0). later (omega arith))
          (cases_lt 0 (is_marked v round e))
      | inr not ↦ later (rw not at h)
    ]

-- a target that was answered true has a stamp
answered_stamp : (v round : ℕ) (xs : List Stamped) → Contains (answered xs) v → 0 < weigh (is_at v round) (stamps round xs)
answered_stamp v round [] (k, lt, at) = absurd (omega arith)
answered_stamp v round (x ∷ xs) h =
    let t = x.done.to.target in
    let e : Entry = entry STAMP t round (counted x.first) in
    elim (cases_Bool x.done.answer) [
      | inl is ↦
          let h' : Contains (t ∷ answered xs) v = rw is at h in
          rw is
          (⊎_elim
          (λ (here : t ≡ v). let one : is_at v round e ≡ 1 = at_here v round e here refl in omega arith)
          (λ (later : Contains (answered xs) v). let some : 0 < weigh (is_at v round) (stamps round xs) = answered_stamp v round xs later in omega arith)
          (Contains-cons_cases t (answered xs) v h'))
      | inr not ↦ rw not (answered_stamp v round xs (rw not at h))
    ]

first_answered : (gives : Application → Bool → Log → Type 0) (v : ℕ) (xs : List Stamped) → All (λ (x : Stamped). gives x.done.to x.done.answer x.done.added × (x.done.answer ≡ false → x.first ≡ false)) xs → Contains (firsts xs) v → Contains (answered xs) v
first_answered gives v [] each h = h
first_answered gives v (x ∷ xs) each h =
    let t = x.done.to.target in
    let Each : Stamped → Type 0 = λ x. gives x.done.to x.done.answer x.done.added × (x.done.answer ≡ false → x.first ≡ false) in
    let one : Each x = All-head Each x xs each in
    let rest : Contains (firsts xs) v → Contains (answered xs) v = first_answered gives v xs (All-tail Each x xs each) in
    elim (cases_Bool x.done.answer) [
      | inl is ↦
          rw is
          (elim (cases_Bool x.first) [
            | inl first ↦
                ⊎_elim
                (λ (here : t ≡ v). (0, omega arith, here))
                (λ (later : Contains (firsts xs) v). Contains-cons t (answered xs) v (rest later))
                (Contains-cons_cases t (firsts xs) v (rw first at h))
            | inr other ↦ Contains-cons t (answered xs) v (rest (rw other at h))
          ])
      | inr not ↦ rw not (rest (rw (one.1 not) at h))
    ]

stamp_of-round : (round : ℕ) (xs : List Stamped) → All (λ (e : Entry). (e.kind ≡ STAMP) × (e.number ≡ round)) (stamps round xs)
stamp_of-round round [] = All-nil _
stamp_of-round round (x ∷ xs) =
    let P : Entry → Type 0 = λ e. (e.kind ≡ STAMP) × (e.number ≡ round) in
    let e : Entry = entry STAMP x.done.to.target round (counted x.first) in
    elim (cases_Bool x.done.answer) [
      | inl is ↦ rw is (All-cons P e (stamps round xs) (refl, refl) (stamp_of-round round xs))
      | inr not ↦ rw not (stamp_of-round round xs)
    ]

-- a target that was answered true has a first stamp, by what a seat with none out knows of the marks in its log
answered_first : (v round : ℕ) (old : List Entry) (xs : List Stamped) → All (λ (e : Entry). e.number < round) old → 1 ≤ round → Firsts v (old ++ stamps round xs) → Contains (answered xs) v → Contains (firsts xs) v
answered_first v round old xs above some marks h =
    let log = old ++ stamps round xs in
    let stamped : 0 < weigh (is_at v round) (stamps round xs) = answered_stamp v round xs h in
    let there : round ≤ greatest v log = greatest_over v round log (omega (arith, weigh-append (is_at v round) old (stamps round xs))) in
    let P : Entry → Type 0 = λ e. e.number ≤ round in
    let low : All P old = λ k d lt. let lower = above k d lt in omega arith in
    let high : All P (stamps round xs) = λ k d lt. let same = (stamp_of-round round xs k d lt).1 in omega arith in
    let most : greatest v log ≤ round = greatest-le v round log (All-append P old (stamps round xs) low high) in
    let is : greatest v log ≡ round = omega arith in
    let one : weigh (is_marked v round) log ≡ 1 = subst (λ r. weigh (is_marked v r) log ≡ 1) is (marks.reached (omega arith)) in
    marked_first v round xs (omega (arith, one, weigh-append (is_marked v round) old (stamps round xs), no_mark_below v round old above))

map-map : (f : Done Application → Log) (h : Done Application → Application) (xs : List Stamped) → (map f (map (λ (x : Stamped). x.done) xs) ≡ map (λ (x : Stamped). f x.done) xs) × (map h (map (λ (x : Stamped). x.done) xs) ≡ map (λ (x : Stamped). h x.done) xs)
map-map f h [] = (refl, refl)
map-map f h (x ∷ xs) = let r = map-map f h xs in (ap (λ l. f x.done ∷ l) r.0, ap (λ l. h x.done ∷ l) r.1)

module _ (gives : Application → Bool → Log → Type 0) (g : RawGraph) (lawful : IsLawful g) (round : ℕ) (members : List ℕ) (wanted : ℕ → Bool) (old new : Log) (seat_old seat_new : Seat) (noted : List ℕ) (p : PushedAll gives g round members wanted old new seat_old seat_new noted) where
  answered_in : (v : ℕ) → Contains (answered p.stamped) v → v < vertices g
  answered_in v h =
      let done = map (λ (x : Stamped). x.done) p.stamped in
      let P : Application → Type 0 = λ a. a.target < vertices g in
      let each = All-weaker (IsWanted Push g members wanted) P (λ a w. wanted_target Push g members wanted a lawful w) _ p.once.no_other in
      answered_true-below (vertices g) v done (All-to P done _ (map-map (λ (d : Done Application). d.added) (λ (d : Done Application). d.to) p.stamped).1 each) h

  pub noted_in : All (λ v. v < vertices g) noted
  noted_in k d lt = answered_in _ (first_answered gives _ p.stamped p.each ((p.noted_are _).0 (Contains-get_or noted k d lt)))

  pub has_stamped : seat_new.home ≡ seat_old.home → seat_new.root ≡ seat_old.root → seat_new.out ≡ seat_old.out → HasStamped Push round seat_old seat_new
  has_stamped h r o = record {
    entries = stamps round p.stamped;
    seat_is = λ i. record { home = h i; root = r i; out = o i; log = p.stamps_are i };
    of_round = stamp_of-round round p.stamped;
    none = λ e. absurd (cc);
  }

  pub is_mapped : (table : List ℕ) → CanStamp (vertices g) table round seat_old → seat_new.home ≡ seat_old.home → AllFirsts seat_new.home seat_new.log → (subset : Subset) → subset.n ≡ vertices g → subset.dense ≡ false
      → ((v : ℕ) → Contains subset.members v ↔ Contains noted v) → IsMapped Push g members wanted gives old new subset
  is_mapped table can home marks subset n form has =
      let maps = map-map (λ (d : Done Application). d.added) (λ (d : Done Application). d.to) p.stamped in
      let apps_is = maps.1 in record {
        done = map (λ (x : Stamped). x.done) p.stamped;
        applied = record {
          each = All-map (λ (d : Done Application). gives d.to d.answer d.added) (λ (x : Stamped). x.done) p.stamped (λ k d lt. (p.each k d lt).0);
          log_is = p.log_is ∙ ap (followed_by_all old) (sym maps.0);
        };
        once = subst (AreWantedOnce Push g members wanted) (sym apps_is) p.once;
        n = n;
        form = form;
        members_are = λ v. (
          (λ h. first_answered gives v p.stamped p.each ((p.noted_are v).0 ((has v).0 h))),
          (λ h.
              let small : v < vertices g = answered_in v h in
              let word : v < length seat_new.home.starts = omega (arith, ap (λ (z : Home). length z.starts) home, can.words) in
              let here : Firsts v (seat_old.log ++ stamps round p.stamped) = subst (Firsts v) p.stamps_are (marks v word) in
              (has v).1 ((p.noted_are v).1 (answered_first v round seat_old.log p.stamped can.above can.some here h))),
        );
      }
