-- What all chunks of a push did together.
use Rattle.std.proofs.Common.{suc, ◌≡◌, ℕ, ◌+◌, ◌*◌, ◌<◌, ◌≤◌, List, [], ◌∷◌, ◌++◌, length, map, drop, get_or, refl, ap, sym, ◌∙◌, subst, arith, All, Bool, false, if◌then◌else◌, Vec, Global, append-nil, ⊎_elim}
use Rattle.std.specs.Prelude.{Contains, sum_by, ◌↔◌}
use Rattle.std.specs.List.{flat_map}
use Rattle.std.specs.List.Sorted.{IsStrictlyIncreasing}
use Rattle.std.proofs.lemmas.List.{append_assoc}
use Rattle.std.proofs.lemmas.List.Sums.{sum_by-append}
use Rattle.std.proofs.lemmas.List.Elements.{All-map, All-nil, All-cons, All-head, All-tail}
use Rattle.std.proofs.lemmas.List.Kept.{AllPairs-from_increasing}
use Rattle.jul_base.specs.declared.graphs.RawGraph.{RawGraph}
use Rattle.jul_base.specs.Graph.{vertices, IsLawful}
use Rattle.jul_base.specs.Logs.{Log, Entry, followed_by}
use Rattle.jul_base.specs.Numbers.{below}
use Rattle.jul_base.proofs.LogLaws.{append-equal}
use Rattle.jul_base.proofs.SetLaws.{Contains-cons_cases}
use Rattle.jul_pool.specs.Added.{followed_by_all}
use Rattle.jul_pool.specs.Runs.{EachRunOnce}
use Rattle.jul_base.specs.Times.{times}
use Rattle.jul_base.proofs.TimesLaws.{times-append, times_here, times_other}
use Rattle.jul_words.specs.Seats.{Seat}
use Rattle.jul_subset.specs.Applications.{Done, answered_true}
use Rattle.jul_subset.specs.Chunks.{chunk_of}
use Rattle.jul_subset.proofs.ApplicationLaws.{NotesChunk, notes_hits, all_gathered}
use Rattle.jul_subset.proofs.PickingLaws.{chunks_weigh}
use Rattle.jul_edge.specs.declared.functions.Direction.{Direction}
use Rattle.jul_edge.specs.declared.functions.Direction.TheVariants.{Push}
use Rattle.jul_edge.specs.Edges.{Application, IsWanted, places_of}
use Rattle.jul_edge.specs.Covers.{Covers, key_of, WantedGives}
use Rattle.jul_edge.specs.Pushes.{StampedGives, Stamped, stamps, stamp_of, firsts, pushed_apps, PushedAll}
use Rattle.jul_edge.proofs.CoverLaws.{push_covers}
use Rattle.jul_edge.proofs.PushLaws.{chunk_members, followed_by-both, length-kept}

-- how often x stands in a list, as a sum
pub times_sum : (x : ℕ) (xs : List ℕ) → sum_by (λ y. times x (y ∷ [])) xs ≡ times x xs
times_sum x [] = refl
times_sum x (y ∷ ys) = omega (arith, sum_by-append (λ y. times x (y ∷ [])) (y ∷ []) ys, times_sum x ys, times-append x (y ∷ []) ys)

pub places_sum : (p : ℕ) (apps : List Application) → sum_by (λ (a : Application). times p (a.place ∷ [])) apps ≡ times p (places_of apps)
places_sum p [] = refl
places_sum p (a ∷ apps) = omega (arith, sum_by-append (λ (a : Application). times p (a.place ∷ [])) (a ∷ []) apps, places_sum p apps, times-append p (a.place ∷ []) (places_of apps))

pub sum_by_same : (f h : ℕ → ℕ) (xs : List ℕ) → ((x : ℕ) → f x ≡ h x) → sum_by f xs ≡ sum_by h xs
sum_by_same f h [] same = refl
sum_by_same f h (x ∷ xs) same = omega (arith, sum_by-append f (x ∷ []) xs, sum_by-append h (x ∷ []) xs, same x, sum_by_same f h xs same)

times_above : (x : ℕ) (xs : List ℕ) → All (λ y. x < y) xs → times x xs ≡ 0
times_above x [] h = refl
times_above x (y ∷ ys) h =
    let above : x < y = All-head (λ y. x < y) y ys h in
    omega (arith, times-append x (y ∷ []) ys, times_other x y (λ e. omega arith), times_above x ys (All-tail (λ y. x < y) y ys h))

-- a member of an increasing list stands in it once
pub times_increasing : (x : ℕ) (xs : List ℕ) → IsStrictlyIncreasing xs → Contains xs x → times x xs ≡ 1
times_increasing x [] up (k, lt, at) = absurd (omega arith)
times_increasing x (y ∷ ys) up held =
    let rest_up : IsStrictlyIncreasing ys = λ k lt. let s : suc k + 1 ≡ suc (k + 1) = omega arith in omega (arith, up (suc k) (omega arith), ap (λ i. get_or (y ∷ ys) i 0) s) in
    let above : All (λ z. y < z) ys = λ k d lt. let pair = AllPairs-from_increasing (y ∷ ys) up 0 (suc k) d (omega arith) (omega arith) in pair in
    ⊎_elim
    (λ (here : y ≡ x). let above_x : All (λ z. x < z) ys = subst (λ w. All (λ z. w < z) ys) here above in omega (arith, times-append x (y ∷ []) ys, times_here x y (sym here), times_above x ys above_x))
    (λ (later : Contains ys x).
    let past : y < x = let (k, lt, at) = later in omega (arith, above k x lt, at) in
    omega (arith, times-append x (y ∷ []) ys, times_other x y (λ e. omega arith), times_increasing x ys rest_up later))
    (Contains-cons_cases y ys x held)

drop_none : (xs : List ℕ) → drop 0 xs ≡ xs
drop_none [] = refl
drop_none (x ∷ xs) = refl

module _ (by : Direction) (g : RawGraph) (members : List ℕ) (wanted : ℕ → Bool) (items : List ℕ) (size : ℕ) (apps : ℕ → List Application) (covers : (c : ℕ) → Covers by g members wanted (chunk_of items size c) (apps c)) where
  -- where the chunks of some keys are covered, a wanted place is among all applications as often as its key is among the keys
  pub cover_chunks : (chunks : ℕ) → length items ≤ chunks * size → (a : Application) → IsWanted by g members wanted a → times (key_of by a) items ≡ 1 → sum_by (λ c. sum_by (λ (b : Application). times a.place (b.place ∷ [])) (apps c)) (below chunks) ≡ 1
  cover_chunks chunks enough a w one =
      let h = λ (u : ℕ). times (key_of by a) (u ∷ []) in
      let zero_plus : 0 + chunks ≡ chunks = omega arith in
      let none : 0 * size ≡ 0 = omega arith in
      let enough' : length items ≤ (0 + chunks) * size = subst (λ n. length items ≤ n * size) (sym zero_plus) enough in
      sum_by_same _ (λ c. sum_by h (chunk_of items size c)) (below chunks) (λ c. places_sum a.place (apps c) ∙ (covers c).once a w ∙ sym (times_sum (key_of by a) (chunk_of items size c)))
      ∙ chunks_weigh h items size 0 chunks enough' ∙ ap (λ n. sum_by h (drop n items)) none ∙ ap (sum_by h) (drop_none items) ∙ times_sum (key_of by a) items ∙ one

module _ (gives : Application → Bool → Log → Type 0) (g : RawGraph) (round parts : ℕ) (members : List ℕ) (wanted : ℕ → Bool) where
  abbrev Gives : Application → Bool → Log → Type 0
  Gives = WantedGives Push g members wanted (StampedGives gives round parts)

  abbrev Given : Done Application → Type 0
  Given d = Gives d.to d.answer d.added

  abbrev Each : Stamped → Type 0
  Each x = gives x.done.to x.done.answer x.done.added × (x.done.answer ≡ false → x.first ≡ false)

  -- applications with their stamps, taken apart, from a log of two pieces on
  record Apart (log : Log) (s : List Entry) (done : List (Done Application)) : Type 0 where
    pub stamped : List Stamped
    pub each : All Each stamped
    pub to_is : map (λ (x : Stamped). x.done.to) stamped ≡ map (λ (d : Done Application). d.to) done
    pub firsts_are : firsts stamped ≡ answered_true (λ (a : Application). a.target) done
    pub size : length (followed_by_all log (map (λ (x : Stamped). x.done.added) stamped)) ≡ parts
    pub log_is : followed_by_all (log ++ s ∷ []) (map (λ (d : Done Application). d.added) done) ≡ followed_by_all log (map (λ (x : Stamped). x.done.added) stamped) ++ (s ++ stamps round stamped) ∷ []

  apart : (done : List (Done Application)) → All Given done → (log : Log) (s : List Entry) → length log ≡ parts → Apart log s done
  apart [] h log s size = record { stamped = []; each = All-nil _; to_is = refl; firsts_are = refl; size = size; log_is = ap (λ t. log ++ t ∷ []) (sym (append-nil s)) }
  apart (d ∷ done) h log s size =
      let one = (All-head Given d done h).0 in
      let x : Stamped = record { done = record { to = d.to; answer = one.answer; added = one.own }; first = d.answer } in
      let stamp = stamp_of round one.answer d.to.target d.answer in
      let next : followed_by (log ++ s ∷ []) d.added ≡ followed_by log one.own ++ (s ++ stamp) ∷ [] = ap (followed_by (log ++ s ∷ [])) one.added_is ∙ followed_by-both log one.own parts s stamp size one.own_parts in
      let rest : Apart (followed_by log one.own) (s ++ stamp) done = apart done (All-tail Given d done h) (followed_by log one.own) (s ++ stamp) (length-kept log one.own parts size one.own_parts) in record {
        stamped = x ∷ rest.stamped;
        each = All-cons Each x rest.stamped (one.gives_answer, one.unanswered) rest.each;
        to_is = ap (λ l. d.to ∷ l) rest.to_is;
        firsts_are = ap (λ l. if d.answer then d.to.target ∷ l else l) rest.firsts_are;
        size = rest.size;
        log_is = ap (λ l. followed_by_all l (map (λ (d : Done Application). d.added) done)) next ∙ rest.log_is
            ∙ ap (λ t. followed_by_all (followed_by log one.own) (map (λ (x : Stamped). x.done.added) rest.stamped) ++ t ∷ []) (append_assoc s stamp (stamps round rest.stamped));
      }

  module _ (lawful : IsLawful g) (members_in : All (λ u. u < vertices g) members) (increasing : IsStrictlyIncreasing members) (size : ℕ) where
    abbrev Wanted : ℕ → List Application
    Wanted c = pushed_apps g wanted (chunk_of members size c)

    chunk_covers : (c : ℕ) → Covers Push g members wanted (chunk_of members size c) (Wanted c)
    chunk_covers c = push_covers g lawful members wanted (chunk_of members size c) (chunk_members (λ u. u < vertices g) members size c members_in)

    pub pushed_all : (chunks : ℕ) (old new : Log) (seat_old seat_new : Seat) (outs : List (Vec ℕ Global)) (order : List ℕ) (noted : List ℕ) →
        EachRunOnce (NotesChunk Gives (λ (a : Application). a.target) Wanted) chunks (old ++ seat_old.log ∷ []) (new ++ seat_new.log ∷ []) outs order →
        length members ≤ chunks * size → length old ≡ parts → length new ≡ parts → noted ≡ flat_map (λ (o : Vec ℕ Global). o.items) outs →
        PushedAll gives g round members wanted old new seat_old seat_new noted
    pushed_all chunks old new seat_old seat_new outs order noted ran enough size_old size_new noted_is =
        let target = λ (a : Application). a.target in
        let all = all_gathered Gives target Wanted (NotesChunk Gives target Wanted) (notes_hits Gives target Wanted) chunks _ _ outs order ran in
        let a : Apart old seat_old.log all.done = apart all.done all.by.each old seat_old.log size_old in
        let own = followed_by_all old (map (λ (x : Stamped). x.done.added) a.stamped) in
        let both : (new ≡ own) × (seat_new.log ∷ [] ≡ (seat_old.log ++ stamps round a.stamped) ∷ []) = append-equal new own (seat_new.log ∷ []) ((seat_old.log ++ stamps round a.stamped) ∷ []) (size_new ∙ sym a.size) (all.by.log_is ∙ a.log_is) in
        let to = λ (d : Done Application). d.to in
        let to_wanted : All (λ (d : Done Application). IsWanted Push g members wanted d.to) all.done = λ k d lt. (all.by.each k d lt).1 in record {
          stamped = a.stamped;
          each = a.each;
          once = record {
            no_other = subst (All (IsWanted Push g members wanted)) (sym a.to_is) (All-map (IsWanted Push g members wanted) to all.done to_wanted);
            once = λ b w. ap (λ l. times b.place (places_of l)) a.to_is ∙ sym (places_sum b.place (map to all.done)) ∙ all.once (λ (e : Application). times b.place (e.place ∷ [])) ∙ cover_chunks Push g members wanted members size Wanted chunk_covers chunks enough b w (times_increasing b.source members increasing w.member);
          };
          log_is = both.0;
          stamps_are = let e : seat_new.log ∷ [] ≡ (seat_old.log ++ stamps round a.stamped) ∷ [] = both.1 in cc;
          noted_are = λ v.
              let same : Contains (flat_map (λ (o : Vec ℕ Global). o.items) outs) v ↔ Contains (answered_true (λ (a : Application). a.target) all.done) v = all.noted v in
              let P : List ℕ → Type 0 = λ l. Contains l v in (
                (λ h. subst P (sym a.firsts_are) (same.0 (subst P noted_is h))),
                (λ h. subst P (sym noted_is) (same.1 (subst P a.firsts_are h))),
              );
        }
