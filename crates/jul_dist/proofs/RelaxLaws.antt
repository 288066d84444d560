-- What relaxations over the places of members leave of the words.
use Rattle.std.proofs.Common.{◌≡◌, ◌⊎◌, ℕ, ◌+◌, ◌<◌, ◌≤◌, Bool, true, false, List, [], ◌∷◌, ◌++◌, length, map, get_or, refl, sym, ap, ◌∙◌, subst, arith, inl, inr}
use Rattle.std.specs.Prelude.{nat_lt}
use Rattle.std.specs.List.{Contains, All}
use Rattle.std.proofs.lemmas.Bool.{cases_lt, lt-ltb}
use Rattle.std.proofs.lemmas.List.Elements.{All-nil, All-cons, All-head, All-tail, All-append, All-contains, All-weaker, All-from_get_or, Contains-get_or}
use Rattle.jul_base.specs.declared.graphs.RawGraph.{RawGraph}
use Rattle.jul_base.specs.Graph.{vertices, target, weight, IsPlaceOf, IsLawful}
use Rattle.jul_base.specs.Logs.{Log, Entry, LOWER}
use Rattle.jul_pool.specs.Added.{HasAdded, first_part, entries_of}
use Rattle.jul_pool.proofs.PartLaws.{HasOnePart}
use Rattle.jul_words.specs.Weights.{counted, weigh}
use Rattle.jul_words.specs.Marks.{is_at, is_marked}
use Rattle.jul_words.specs.Seats.{Seat, IsAlone, floor_of, start_of, entry, logs}
use Rattle.jul_words.specs.Least.{least, lowering, Marks, IsSettled, word_of}
use Rattle.jul_words.proofs.Marking.{at_here, at_parts, mark_parts}
use Rattle.jul_words.proofs.LaterLaws.{least_falls, least_offered, least_fell}
use Rattle.jul_edge.specs.declared.functions.Direction.{Direction}
use Rattle.jul_edge.specs.Edges.{Application, application, IsWanted}
use Rattle.jul_edge.specs.EdgeMaps.{IsMapped, listed}
use Rattle.jul_subset.proofs.ApplicationLaws.{All-from_map}
use Rattle.jul_edge.proofs.ApplyingLaws.{answered_true-below, wanted_target}
use Rattle.jul_edge.proofs.MappedLaws.{EdgeDone, added_of, log_grew as log_behind, OneOf, applied_to, made_wanted, added_by, entries_have, TellsMarks, fell_hit}
use Rattle.jul_dist.specs.declared.limits.TheConstants.{MAX_SUM}
use Rattle.jul_dist.specs.Relaxing.{offer, offer_of, Relaxes, AreSums, IsOffered, HasRelaxed, may_fall}

-- ---- one application

-- a lowering is what an application may give
pub lowered_gives : (values : List ℕ) (a : Application) (old new : Seat) (x n : ℕ) → x ≡ offer_of values a → x ≤ MAX_SUM → new ≡ logs old (lowering a.target x n) →
    HasAdded (Relaxes values a) (old.log ∷ []) (new.log ∷ []) (nat_lt x n)
lowered_gives values a old new x n is within logged = record {
  added = (lowering a.target x n ∷ []) ∷ [];
  gives_out = record {
    made = λ _. ap (λ y. (entry LOWER a.target y (counted (nat_lt x n)) ∷ []) ∷ []) is;
    withheld = λ more. absurd (omega (arith, more, within, is));
  };
  log_is = ap (λ (s : Seat). s.log ∷ []) logged;
}

module _ (values : List ℕ) where
  -- an application logs its offer, or nothing
  made_or_none : (a : Application) (answer : Bool) (added : Log) → Relaxes values a answer added →
      ((offer_of values a ≤ MAX_SUM) × (added ≡ (entry LOWER a.target (offer_of values a) (counted answer) ∷ []) ∷ [])) ⊎ (added ≡ [])
  made_or_none a answer added r = elim (cases_lt MAX_SUM (offer_of values a)) [
    | inl more ↦ inr (r.withheld more).1
    | inr within ↦ inl (within, r.made within)
  ]

  one_part_each : (a : Application) (answer : Bool) (added : Log) → Relaxes values a answer added → HasOnePart added
  one_part_each a answer added r = elim (made_or_none a answer added r) [
    | inl (within, one) ↦ let e : length added ≡ 1 = ap length one in omega arith
    | inr none ↦ let e : length added ≡ 0 = ap length none in omega arith
  ]

  -- an entry of an application shows that it was made, and is its offer
  shown : (f : Entry → ℕ) (a : Application) (answer : Bool) (added : Log) → Relaxes values a answer added → 0 < weigh f (first_part added) →
      (offer_of values a ≤ MAX_SUM) × (0 < f (entry LOWER a.target (offer_of values a) (counted answer)))
  shown f a answer added r some = elim (made_or_none a answer added r) [
    | inl (within, one) ↦
        let e : weigh f (first_part added) ≡ f (entry LOWER a.target (offer_of values a) (counted answer)) + 0 = ap (λ l. weigh f (first_part l)) one in
        (within, omega arith)
    | inr none ↦ let e : weigh f (first_part added) ≡ 0 = ap (λ l. weigh f (first_part l)) none in absurd (omega arith)
  ]

  counted_true : (b : Bool) → counted b ≡ 1 → b ≡ true
  counted_true true e = refl
  counted_true false e = absurd (omega arith)

  tells : TellsMarks (Relaxes values)
  tells a answer added r v c some =
      let e : Entry = entry LOWER a.target (offer_of values a) (counted answer) in
      let parts : (e.vertex ≡ v) × (e.number ≡ c) × (e.mark ≡ 1) = mark_parts v c e (shown (is_marked v c) a answer added r some).1 in
      (counted_true answer parts.2, parts.0)

  -- what was offered is an entry
  made_entry : (a : Application) (answer : Bool) (added : Log) → Relaxes values a answer added → offer_of values a ≤ MAX_SUM →
      0 < weigh (is_at a.target (offer_of values a)) (first_part added)
  made_entry a answer added r within =
      let v : ℕ = a.target in
      let c : ℕ = offer_of values a in
      let e : Entry = entry LOWER v c (counted answer) in
      let one : weigh (is_at v c) (first_part added) ≡ is_at v c e + 0 = ap (λ l. weigh (is_at v c) (first_part l)) (r.made within) in
      omega (arith, one, at_here v c e refl refl)

  -- nothing above MAX_SUM is offered
  sums_each : (a : Application) (answer : Bool) (added : Log) → Relaxes values a answer added → AreSums (first_part added)
  sums_each a answer added r = elim (made_or_none a answer added r) [
    | inl (within, one) ↦
        let e : Entry = entry LOWER a.target (offer_of values a) (counted answer) in
        subst (λ l. AreSums (first_part l)) (sym one) (All-cons (λ (e : Entry). e.number ≤ MAX_SUM) e [] within (All-nil (λ (e : Entry). e.number ≤ MAX_SUM)))
    | inr none ↦ subst (λ l. AreSums (first_part l)) (sym none) (All-nil (λ (e : Entry). e.number ≤ MAX_SUM))
  ]

  sums_all : (done : List EdgeDone) → All (λ (d : EdgeDone). Relaxes values d.to d.answer d.added) done → AreSums (entries_of (added_of done))
  sums_all [] each = All-nil (λ (e : Entry). e.number ≤ MAX_SUM)
  sums_all (d ∷ ds) each =
      All-append (λ (e : Entry). e.number ≤ MAX_SUM) (first_part d.added) (entries_of (added_of ds))
      (sums_each d.to d.answer d.added (All-head (λ (d : EdgeDone). Relaxes values d.to d.answer d.added) d ds each))
      (sums_all ds (All-tail (λ (d : EdgeDone). Relaxes values d.to d.answer d.added) d ds each))

-- ---- all of them

-- a vertex that has more than the least is wanted
wanted_more : (every : Bool) (least' : ℕ) (values : List ℕ) (v : ℕ) → least' < get_or values v 0 → may_fall every least' values v ≡ true
wanted_more true least' values v more = refl
wanted_more false least' values v more = lt-ltb least' (get_or values v 0) more

abbrev pub IsRelaxed : Direction → RawGraph → List ℕ → List ℕ → Bool → ℕ → Seat → Seat → List ℕ → Type 0
IsRelaxed by g members values every least old new lowered =
    IsMapped by g members (may_fall every least values) (λ a answer added. Relaxes values a answer added) (old.log ∷ []) (new.log ∷ []) (listed by (vertices g) lowered)

module _ (by : Direction) (g : RawGraph) (lawful : IsLawful g) (members values : List ℕ) (every : Bool) (least' : ℕ) (old new : Seat) (lowered : List ℕ) (home : new.home ≡ old.home)
    (mapped : IsRelaxed by g members values every least' old new lowered) where
  abbrev entries : List Entry
  entries = entries_of (added_of mapped.done)

  gave : (d : EdgeDone) → Contains mapped.done d → Relaxes values d.to d.answer d.added
  gave d there = All-contains (λ (e : EdgeDone). Relaxes values e.to e.answer e.added) mapped.done d mapped.applied.each there

  -- the new entries stand behind the old ones
  pub log_grew : new.log ≡ old.log ++ entries
  log_grew =
      log_behind (Relaxes values) old.log new.log mapped.done mapped.applied
      (All-weaker (λ (d : EdgeDone). Relaxes values d.to d.answer d.added) (λ (d : EdgeDone). length d.added ≤ 1)
      (λ d r. one_part_each values d.to d.answer d.added r) mapped.done mapped.applied.each)

  -- the words are those of the home with the entries behind
  word_is : (v : ℕ) → word_of new v ≡ least v (start_of old.home v) (old.log ++ entries)
  word_is v = ap (λ h. least v (start_of h v) new.log) home ∙ ap (least v (start_of old.home v)) log_grew

  pub word_falls : (v : ℕ) → word_of new v ≤ word_of old v
  word_falls v = omega (arith, word_is v, least_falls v (start_of old.home v) old.log entries)

  -- what a member offers to a vertex that has more than the least was offered
  pub word_reached : (u p : ℕ) → IsPlaceOf g u p → Contains members u → least' < get_or values (target g p) 0 → offer values u (weight g p) ≤ MAX_SUM →
      word_of new (target g p) ≤ offer values u (weight g p)
  word_reached u p at member more within =
      let v : ℕ = target g p in
      let c : ℕ = offer values u (weight g p) in
      let a : Application = application by u p v (weight g p) in
      let w : IsWanted by g members (may_fall every least' values) a =
      record { by_is = refl; member = member; place = at; target_is = refl; weight_is = refl; target_wanted = wanted_more every least' values v more } in
      let found : OneOf mapped.done (λ d. d.to ≡ a) = applied_to by g members (may_fall every least' values) mapped.done lawful mapped.once a w in
      let r : Relaxes values a found.one.answer found.one.added = subst (λ b. Relaxes values b found.one.answer found.one.added) found.holds (gave found.one found.there) in
      let some : 0 < weigh (is_at v c) (first_part found.one.added) = made_entry values a found.one.answer found.one.added r within in
      omega (arith, word_is v, least_offered v (start_of old.home v) c old.log entries (omega (arith, some, entries_have (is_at v c) mapped.done found.one found.there)))

  -- a word that fell is what a member offered
  pub fell_offered : (v : ℕ) → word_of new v < word_of old v → IsOffered g members values v (word_of new v)
  fell_offered v fell =
      let start : ℕ = start_of old.home v in
      let n : ℕ = least v start (old.log ++ entries) in
      let is : word_of new v ≡ n = word_is v in
      let entered : 0 < weigh (is_at v n) entries = least_fell v start old.log entries (omega (arith, fell, is)) in
      let by_one : OneOf mapped.done (λ d. 0 < weigh (is_at v n) (first_part d.added)) = added_by (is_at v n) mapped.done entered in
      let d : EdgeDone = by_one.one in
      let seen : (offer_of values d.to ≤ MAX_SUM) × (0 < is_at v n (entry LOWER d.to.target (offer_of values d.to) (counted d.answer))) =
      shown values (is_at v n) d.to d.answer d.added (gave d by_one.there) by_one.holds in
      let parts : (d.to.target ≡ v) × (offer_of values d.to ≡ n) = at_parts v n (entry LOWER d.to.target (offer_of values d.to) (counted d.answer)) seen.1 in
      let w : IsWanted by g members (may_fall every least' values) d.to = made_wanted by g members (may_fall every least' values) mapped.done mapped.once d by_one.there in
      record {
        source = d.to.source;
        place = d.to.place;
        is_place = w.place;
        member = w.member;
        target_is = sym w.target_is ∙ parts.0;
        number_is = is ∙ sym parts.1 ∙ ap (λ x. get_or values d.to.source 0 + x) w.weight_is;
        within = omega (arith, is, parts.1, seen.0);
      }

  -- and the vertex is in the subset
  pub fell_member : (v : ℕ) → IsSettled new.home new.log → v < length old.home.starts → word_of new v < word_of old v → Contains lowered v
  fell_member v settled lt fell =
      let start : ℕ = start_of old.home v in
      let here : v < length new.home.starts = subst (λ h. v < length h.starts) (sym home) lt in
      let marks : Marks (start_of new.home v) v new.log = (settled v here).1 in
      let marks' : Marks start v (old.log ++ entries) = subst (Marks start v) log_grew (subst (λ h. Marks (start_of h v) v new.log) home marks) in
      (mapped.members_are v).1
      (fell_hit (λ a answer added. Relaxes values a answer added) (tells values) mapped.done mapped.applied.each v start old.log marks' (omega (arith, fell, word_is v)))

  -- what is listed are vertices
  lowered_in : (v : ℕ) → Contains lowered v → v < vertices g
  lowered_in v there =
      answered_true-below (vertices g) v mapped.done
      (All-from_map (λ (a : Application). a.target < vertices g) (λ (d : EdgeDone). d.to) mapped.done
      (All-weaker (IsWanted by g members (may_fall every least' values)) (λ (a : Application). a.target < vertices g) (λ a w. wanted_target by g members (may_fall every least' values) a lawful w) (map (λ (d : EdgeDone). d.to) mapped.done) mapped.once.no_other))
      ((mapped.members_are v).0 there)

  pub has_relaxed : IsAlone new → IsSettled new.home new.log → length old.home.starts ≡ vertices g → All (λ u. least' ≤ get_or values u 0) members →
      HasRelaxed g members values least' old new lowered
  has_relaxed alone settled words ahead = record {
    within = All-from_get_or (λ v. v < vertices g) lowered 0 (λ k lt. lowered_in (get_or lowered k 0) (Contains-get_or lowered k 0 lt));
    home = home;
    alone = alone;
    settled = settled;
    falls = word_falls;
    floors = λ v lt.
        let here : v < length new.home.starts = subst (λ h. v < length h.starts) (sym home) (omega (arith, lt, words)) in
        subst (λ h. floor_of h v ≤ word_of new v) home (settled v here).0;
    reached = word_reached;
    fell = λ v lt fell. (fell_member v settled (omega (arith, lt, words)) fell, fell_offered v fell);
    ahead = λ v lt fell.
        let o : IsOffered g members values v (word_of new v) = fell_offered v fell in
        omega (arith, All-contains (λ u. least' ≤ get_or values u 0) members o.source ahead o.member, o.number_is);
    offers = λ few. subst AreSums (sym log_grew) (All-append (λ (e : Entry). e.number ≤ MAX_SUM) old.log entries few (sums_all values mapped.done mapped.applied.each));
  }

-- the same after a step that left the root as it was, which told that it is settled
pub round_relaxed : (by : Direction) (g : RawGraph) (members values : List ℕ) (every : Bool) (least' : ℕ) (old mid new : Seat) (lowered : List ℕ) → IsLawful g →
    IsRelaxed by g members values every least' old mid lowered → mid.home ∷ [] ≡ old.home ∷ [] → mid.root ≡ true → mid.out ≡ 0 →
    new ≡ mid → (IsAlone new → IsSettled new.home new.log) → length old.home.starts ≡ vertices g → All (λ u. least' ≤ get_or values u 0) members →
    HasRelaxed g members values least' old new lowered
round_relaxed by g members values every least' old mid new lowered lawful mapped homes root out same settles words ahead =
    let home : mid.home ≡ old.home = cc in
    let alone : IsAlone mid = (root, out) in
    let settles' : IsAlone mid → IsSettled mid.home mid.log = subst (λ (s : Seat). IsAlone s → IsSettled s.home s.log) same settles in
    subst (λ s. HasRelaxed g members values least' old s lowered) (sym same)
    (has_relaxed by g lawful members values every least' old mid lowered home mapped alone (settles' alone) words ahead)
