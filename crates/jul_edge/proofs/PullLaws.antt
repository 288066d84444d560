-- A pull: the wanted places by their targets, its condition at each place, and what all chunks did together.
use Rattle.std.proofs.Common.{zero, suc, ◌≡◌, ℕ, ◌+◌, ◌-◌, ◌*◌, ◌<◌, ◌≤◌, List, [], ◌∷◌, ◌++◌, length, map, take, drop, refl, ap, sym, ◌∙◌, subst, arith, All, Bool, true, false, inl, inr, ⊎_elim, Vec, Global}
use Rattle.std.specs.Prelude.{Contains, slice_index, min}
use Rattle.std.specs.List.{flat_map, range_with_len, slice_index_or}
use Rattle.std.proofs.lemmas.Bool.{cases_Bool, cases_eq}
use Rattle.std.proofs.lemmas.List.{map-append, get_or_default}
use Rattle.std.proofs.lemmas.List.Elements.{All-take, All-drop, All-nil, All-head, All-tail, All-map}
use Rattle.jul_base.specs.declared.graphs.RawGraph.{RawGraph}
use Rattle.jul_base.specs.Graph.{vertices, places, target, IsPlaceOf, IsLawful}
use Rattle.jul_base.specs.InRows.{InEdges, IsFlip, in_places}
use Rattle.jul_base.specs.Logs.{Log, Home, followed_by}
use Rattle.jul_base.specs.Numbers.{below}
use Rattle.jul_base.specs.Sets.{has}
use Rattle.jul_base.proofs.GraphLaws.{place_in_range}
use Rattle.jul_base.proofs.RowLaws.{IsPlaceOf-unique}
use Rattle.jul_base.proofs.InRowLaws.{Contains-in_places, in_places-at, IsStrictlyIncreasing-in_places}
use Rattle.jul_base.proofs.SetLaws.{Contains-from_has, has-from_Contains, Contains-below, IsStrictlyIncreasing-below}
use Rattle.jul_base.specs.Times.{times}
use Rattle.jul_base.proofs.TimesLaws.{times_here, times_other}
use Rattle.jul_subset.proofs.IncreasingLaws.{apart}
use Rattle.std.proofs.lemmas.List.FromFn.{length-range_with_len, get_or-range_with_len}
use Rattle.jul_pool.specs.Runs.{EachRunOnce}
use Rattle.jul_subset.specs.Subsets.{Subset}
use Rattle.jul_subset.specs.Applications.{Done, NotesHits}
use Rattle.jul_subset.specs.Picks.{picked}
use Rattle.jul_subset.proofs.ApplicationLaws.{all_gathered}
use Rattle.jul_subset.proofs.PickingLaws.{chunks_pick, IsStrictlyIncreasing-picked, All-picked}
use Rattle.jul_edge.specs.declared.functions.Direction.TheVariants.{Pull}
use Rattle.jul_edge.specs.Edges.{Application, IsWanted}
use Rattle.jul_rows.specs.Visits.{Step, step}
use Rattle.jul_edge.specs.Pulls.{IsPulled, pull_steps, wanted_steps}
use Rattle.std.specs.List.Sorted.{IsStrictlyIncreasing}
use Rattle.jul_subset.specs.Chunks.{chunk_of}
use Rattle.jul_edge.specs.Covers.{app_of, Applies, Covers, WantedGives}
use Rattle.jul_edge.specs.EdgeMaps.{IsMapped}
use Rattle.jul_edge.proofs.ApplyingLaws.{wanted_target}
use Rattle.jul_edge.proofs.PushedLaws.{places_sum, times_increasing, cover_chunks}
use Rattle.jul_edge.specs.Pulls.{MayPull, HasPulled, PulledChunk, pulled_apps}
use Rattle.jul_edge.proofs.PushLaws.{applied_run}
use Rattle.jul_edge.proofs.CoverLaws.{chosen_all, chosen_none, chosen_once, covers_none, covers_append}

module _ (g : RawGraph) (lawful : IsLawful g) (edges : InEdges) (flip : IsFlip g edges) (members : List ℕ) (wanted : ℕ → Bool) where
  abbrev Us : ℕ → List ℕ
  Us v = slice_index_or edges.sources v []

  abbrev Ps : ℕ → List ℕ
  Ps v = slice_index_or edges.places v []

  -- what stands in the in-row of v
  source_at : (v : ℕ) → v < vertices g → (k : ℕ) → k < length (Ps v) → IsPlaceOf g (slice_index (Us v) k) (slice_index (Ps v) k)
  source_at v vertex k lt =
      let is : Ps v ≡ in_places g v = flip.places v vertex in
      let P : List ℕ → Type 0 = λ l. IsPlaceOf g (slice_index (Us v) k) (slice_index l k) in
      subst P (sym is) ((flip.sources v vertex).each k (omega (arith, ap length is)))

  target_at : (v : ℕ) → v < vertices g → (k : ℕ) → k < length (Ps v) → target g (slice_index (Ps v) k) ≡ v
  target_at v vertex k lt =
      let is : Ps v ≡ in_places g v = flip.places v vertex in
      ap (λ l. target g (slice_index l k)) is ∙ (in_places-at g v k (omega (arith, ap length is))).1

  pub pulled_wanted : (v : ℕ) → v < vertices g → wanted v ≡ true → (s : Step) → IsPulled edges members v s → IsWanted Pull g members wanted (app_of Pull g s)
  pulled_wanted v vertex w s at = record {
    by_is = refl;
    member = at.member;
    place =
        let P : ℕ → ℕ → Type 0 = λ u p. IsPlaceOf g u p in
        subst (λ u. P u s.place) (sym at.source_is) (subst (P (slice_index (Us v) at.index)) (sym at.place_is) (source_at v vertex at.index at.in_row));
    target_is = at.target_is ∙ sym (target_at v vertex at.index at.in_row) ∙ ap (target g) (sym at.place_is);
    weight_is = refl;
    target_wanted = ap wanted at.target_is ∙ w;
  }

  pull_row_covers : (v : ℕ) → v < vertices g → wanted v ≡ true → Covers Pull g members wanted (v ∷ []) (map (app_of Pull g) (pull_steps edges members v))
  pull_row_covers v vertex w =
      let f = λ (k : ℕ). step (slice_index (Us v) k) (slice_index (Ps v) k) v in
      let q = λ (s : Step). has members s.source in
      let n = length (Ps v) in
      let is : Ps v ≡ in_places g v = flip.places v vertex in
      let rises = subst IsStrictlyIncreasing (sym is) (IsStrictlyIncreasing-in_places g v) in record {
        no_other = chosen_all Pull g f q (IsWanted Pull g members wanted) 0 n (λ k lo hi t. pulled_wanted v vertex w (f k) (record {
          target_is = refl;
          index = k;
          in_row = omega arith;
          place_is = refl;
          source_is = refl;
          member = Contains-from_has members (slice_index (Us v) k) t;
        }));
        once = λ a at.
            ⊎_elim
            (λ (here : a.target ≡ v).
            let in_range : a.place < places g = place_in_range g lawful a.source a.place at.place in
            let held : Contains (Ps v) a.place = let P : List ℕ → Type 0 = λ l. Contains l a.place in subst P (sym is) (Contains-in_places g v a.place in_range (sym at.target_is ∙ here)) in
            let j = held.0 in
            let lt : j < length (Ps v) = held.1 in
            let place_is : slice_index (Ps v) j ≡ a.place = get_or_default (Ps v) j 0 a.place lt ∙ held.2 in
            let own : IsPlaceOf g (slice_index (Us v) j) a.place = let P : ℕ → Type 0 = λ p. IsPlaceOf g (slice_index (Us v) j) p in subst P place_is (source_at v vertex j lt) in
            let source_is : slice_index (Us v) j ≡ a.source = IsPlaceOf-unique g lawful (slice_index (Us v) j) a.source a.place own at.place in
            chosen_once Pull g f q a.place j 0 n (omega arith) (omega arith) place_is (ap (has members) source_is ∙ has-from_Contains members a.source at.member) (λ i lo hi e. apart (Ps v) rises i j (omega arith) lt (e ∙ sym place_is))
            ∙ sym (times_here a.target v here))
            (λ (other : a.target ≡ v → ⊥).
            chosen_none Pull g f q a.place 0 n (λ i lo hi e. other (at.target_is ∙ ap (target g) (sym e) ∙ target_at v vertex i (omega arith))) ∙ sym (times_other a.target v other))
            (cases_eq a.target v);
      }

  wanted_row_covers : (v : ℕ) → v < vertices g → Covers Pull g members wanted (v ∷ []) (map (app_of Pull g) (wanted_steps edges members wanted v))
  wanted_row_covers v vertex =
      elim (cases_Bool (wanted v)) [
        | inl is ↦ rw is (pull_row_covers v vertex is)
        | inr not ↦
            let none : Covers Pull g members wanted (v ∷ []) [] = record {
              no_other = All-nil _;
              once = λ a at. sym (times_other a.target v (λ e. let t : true ≡ false = sym at.target_wanted ∙ ap wanted e ∙ not in cc));
            } in
            rw not none
      ]

  pub pull_covers : (vs : List ℕ) → All (λ v. v < vertices g) vs → Covers Pull g members wanted vs (pulled_apps g edges members wanted vs)
  pull_covers [] h = covers_none Pull g members wanted
  pull_covers (v ∷ vs) h =
      let P : ℕ → Type 0 = λ v. v < vertices g in
      subst (Covers Pull g members wanted (v ∷ vs)) (sym (map-append (app_of Pull g) (wanted_steps edges members wanted v) (flat_map (wanted_steps edges members wanted) vs)))
      (covers_append Pull g members wanted (v ∷ []) vs _ _ (wanted_row_covers v (All-head P v vs h)) (pull_covers vs (All-tail P v vs h)))

pub may_pull : (can_want : ℕ → Type 0) (can_apply : Application → List Home → Type 0) (g : RawGraph) (edges : InEdges) (members : List ℕ) (wanted : ℕ → Bool) (home : List Home) → MayPull can_want can_apply g edges members wanted home →
    (v : ℕ) → v < length edges.places → wanted v ≡ true → (s : Step) → IsPulled edges members v s → (s.place < places g) × can_apply (app_of Pull g s) home
may_pull can_want can_apply g edges members wanted home may v near w s at =
    let a = pulled_wanted g may.lawful edges may.flip members wanted v (omega (arith, may.flip.size)) w s at in
    (place_in_range g may.lawful s.source s.place a.place, may.apply (app_of Pull g s) a)

-- a part of the numbers below n
take_range : (a n k : ℕ) → take k (range_with_len a n) ≡ range_with_len a (min k n)
take_range a zero zero = refl
take_range a zero (suc k) = let e : 0 ≡ min (suc k) 0 = omega arith in ap (range_with_len a) e
take_range a (suc n) zero = let e : 0 ≡ min 0 (suc n) = omega arith in ap (range_with_len a) e
take_range a (suc n) (suc k) = let e : suc (min k n) ≡ min (suc k) (suc n) = omega arith in ap (λ l. a ∷ l) (take_range (a + 1) n k) ∙ ap (range_with_len a) e

drop_range : (a n k : ℕ) → drop k (range_with_len a n) ≡ range_with_len (a + k) (n - k)
drop_range a zero zero = refl
drop_range a zero (suc k) = let e : 0 ≡ 0 - suc k = omega arith in ap (range_with_len (a + suc k)) e
drop_range a (suc n) zero = let e : a ≡ a + 0 = omega arith in let m : suc n ≡ suc n - 0 = omega arith in ap (λ b. range_with_len b (suc n)) e ∙ ap (range_with_len (a + 0)) m
drop_range a (suc n) (suc k) = let e : a + 1 + k ≡ a + suc k = omega arith in let m : n - k ≡ suc n - suc k = omega arith in drop_range (a + 1) n k ∙ ap (λ b. range_with_len b (n - k)) e ∙ ap (range_with_len (a + suc k)) m

pub chunk-below : (n size c first last : ℕ) → first ≡ c * size → first < n → last ≡ min n (first + size) → range_with_len first (last - first) ≡ chunk_of (below n) size c
chunk-below n size c first last is lt end =
    let start : first ≡ 0 + c * size = omega arith in
    let count : last - first ≡ min size (n - c * size) = omega arith in
    ap (λ b. range_with_len b (last - first)) start ∙ ap (range_with_len (0 + c * size)) count
    ∙ sym (take_range (0 + c * size) (n - c * size) size) ∙ ap (take size) (sym (drop_range 0 n (c * size)))

pub below_in : (n : ℕ) → All (λ v. v < n) (below n)
below_in n k d lt = let size : length (below n) ≡ n = length-range_with_len 0 n in omega (arith, size, get_or-range_with_len 0 n k d (omega (arith, size)))

pub chunk_in : (n size c : ℕ) → All (λ v. v < n) (chunk_of (below n) size c)
chunk_in n size c = All-take (λ v. v < n) size (drop (c * size) (below n)) (All-drop (λ v. v < n) (c * size) (below n) (below_in n))

-- what the pull of a chunk gives
pub pulled_chunk : {T : Type 0} (g : RawGraph) (edges : InEdges) (members : List ℕ) (wanted : ℕ → Bool) (gives : Application → Bool → Log → Type 0) (log : T → Log) (vs vs' : List ℕ) (old new : T) (before after : List ℕ) →
    HasPulled (Applies Pull g gives log) (flat_map (wanted_steps edges members wanted) vs) vs old new before after → before ≡ [] → vs ≡ vs' → All (IsWanted Pull g members wanted) (pulled_apps g edges members wanted vs') →
    (added : Log) × PulledChunk gives g edges members wanted vs' added after × (log new ≡ followed_by (log old) added)
pulled_chunk g edges members wanted gives log vs vs' old new before after h none same each =
    let r = applied_run Pull g members wanted gives log (flat_map (wanted_steps edges members wanted) vs) (pulled_apps g edges members wanted vs') old new h.visited h.has_visited (ap (pulled_apps g edges members wanted) same) each in
    let is : after ≡ h.noted = h.after_is ∙ ap (λ l. l ++ h.noted) none in
    let hits : NotesHits (WantedGives Pull g members wanted gives) (λ (a : Application). a.target) (pulled_apps g edges members wanted vs') r.added after = record {
      done = r.done;
      applied = r.applied;
      noted_are = λ v. (
        (λ c. subst (λ l. Contains l v) r.noted_are ((h.holds v).0 (subst (λ l. Contains l v) is c))),
        (λ c. subst (λ l. Contains l v) (sym is) ((h.holds v).1 (subst (λ l. Contains l v) (sym r.noted_are) c))),
      );
    } in
    (r.added, (hits, (h.picks.0, h.picks.1 ∙ ap length same, is ∙ h.picks.2 ∙ ap (picked h.picks.0) same)), r.log_is)

module _ (gives : Application → Bool → Log → Type 0) (g : RawGraph) (lawful : IsLawful g) (edges : InEdges) (flip : IsFlip g edges) (members : List ℕ) (wanted : ℕ → Bool) (size chunks : ℕ) (old new : Log) (outs : List (Vec ℕ Global)) (order noted : List ℕ) where
  abbrev Gives : Application → Bool → Log → Type 0
  Gives = WantedGives Pull g members wanted gives

  abbrev Wanted : ℕ → List Application
  Wanted c = pulled_apps g edges members wanted (chunk_of (below (vertices g)) size c)

  abbrev Ran : ℕ → Vec ℕ Global → Log → Type 0
  Ran c out added = PulledChunk gives g edges members wanted (chunk_of (below (vertices g)) size c) added out.items

  module _ (ran : EachRunOnce Ran chunks old new outs order) (noted_is : noted ≡ flat_map (λ (o : Vec ℕ Global). o.items) outs) where
    -- the targets of all chunks are some of all vertices, in their order
    noted_pick : (bs : List Bool) × (noted ≡ picked bs (below (vertices g)))
    noted_pick =
        let p = chunks_pick Ran (below (vertices g)) size chunks old new outs order (λ c o added r. r.1) ran in
        (p.0, noted_is ∙ p.1)

    pub pull_increasing : IsStrictlyIncreasing noted
    pull_increasing =
        let p = noted_pick in
        subst IsStrictlyIncreasing (sym p.1) (IsStrictlyIncreasing-picked p.0 (below (vertices g)) (IsStrictlyIncreasing-below (vertices g)))

    pub pull_within : All (λ v. v < vertices g) noted
    pull_within =
        let p = noted_pick in
        let P : ℕ → Type 0 = λ v. v < vertices g in
        subst (All P) (sym p.1) (All-picked P p.0 (below (vertices g)) (below_in (vertices g)))

    pub pulled_all : vertices g ≤ chunks * size → (subset : Subset) → subset.n ≡ vertices g → subset.dense ≡ true → subset.members ≡ noted → IsMapped Pull g members wanted gives old new subset
    pulled_all enough subset n form members_is =
        let all = all_gathered Gives (λ (a : Application). a.target) Wanted Ran (λ c o added r. r.0) chunks old new outs order ran in
        let to = λ (d : Done Application). d.to in
        let to_wanted : All (λ (d : Done Application). IsWanted Pull g members wanted d.to) all.done = λ k d lt. (all.by.each k d lt).1 in
        let covers : (c : ℕ) → Covers Pull g members wanted (chunk_of (below (vertices g)) size c) (Wanted c) = λ c. pull_covers g lawful edges flip members wanted (chunk_of (below (vertices g)) size c) (chunk_in (vertices g) size c) in
        let whole : length (below (vertices g)) ≤ chunks * size = omega (arith, length-range_with_len 0 (vertices g)) in
        let held = members_is ∙ noted_is in record {
          done = all.done;
          applied = record { each = λ k d lt. (all.by.each k d lt).0; log_is = all.by.log_is };
          once = record {
            no_other = All-map (IsWanted Pull g members wanted) to all.done to_wanted;
            once = λ b w.
                let small : b.target < vertices g = wanted_target Pull g members wanted b lawful w in
                sym (places_sum b.place (map to all.done)) ∙ all.once (λ (e : Application). times b.place (e.place ∷ []))
                ∙ cover_chunks Pull g members wanted (below (vertices g)) size Wanted covers chunks whole b w (times_increasing b.target (below (vertices g)) (IsStrictlyIncreasing-below (vertices g)) (Contains-below (vertices g) b.target small));
          };
          n = n;
          form = form;
          members_are = λ v. (
            (λ h. (all.noted v).0 (subst (λ l. Contains l v) held h)),
            (λ h. subst (λ l. Contains l v) (sym held) ((all.noted v).1 h)),
          );
        }
