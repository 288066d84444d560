-- A push: its condition at each place.
use Rattle.std.proofs.Common.{zero, suc, ◌≡◌, ℕ, ◌*◌, ◌<◌, ◌≤◌, List, [], ◌∷◌, ◌++◌, length, map, drop, refl, ap, sym, ◌∙◌, subst, arith, All, Bool, false}
use Rattle.std.specs.Prelude.{Contains}
use Rattle.std.proofs.Common.{append-nil}
use Rattle.std.proofs.lemmas.List.{length-replicate}
use Rattle.std.proofs.lemmas.List.Elements.{All-take, All-drop, Contains-get_or}
use Rattle.jul_base.specs.declared.graphs.RawGraph.{RawGraph}
use Rattle.jul_base.specs.Graph.{vertices, places, IsPlaceOf}
use Rattle.jul_base.specs.Logs.{Log, Home, Entry, followed_by}
use Rattle.jul_base.proofs.LogLaws.{append-equal, followed_by-assoc, followed_by-append}
use Rattle.jul_base.proofs.GraphLaws.{place_in_range, target_in_range}
use Rattle.jul_pool.specs.Added.{followed_by_all, HasAdded}
use Rattle.jul_pool.proofs.PartLaws.{length-followed_by, length-followed_by_right}
use Rattle.jul_subset.specs.Applications.{Done, answered_true, AppliedInOrder}
use Rattle.jul_subset.specs.Chunks.{chunk_of}
use Rattle.jul_subset.proofs.ApplicationLaws.{All-from_map, applied_from_nil}
use Rattle.jul_edge.specs.declared.functions.Direction.{Direction}
use Rattle.jul_edge.specs.declared.functions.Direction.TheVariants.{Push}
use Rattle.jul_edge.specs.Edges.{Application, IsWanted}
use Rattle.jul_rows.specs.Visits.{Step, Visited, IsPushed, HasVisited, HasPushed, noted_of}
use Rattle.jul_edge.specs.Covers.{app_of, Applies, WantedGives}
use Rattle.jul_edge.specs.Pushes.{MayPush, StampedGives, stamp_of, no_entries}
use Rattle.jul_edge.proofs.ApplyingLaws.{applied_steps}

pub may_visit : (can_want : ℕ → Type 0) (can_apply : Application → List Home → Type 0) (g : RawGraph) (members : List ℕ) (wanted : ℕ → Bool) (parts round : ℕ) (home : List Home) (seat : Home) →
    MayPush can_want can_apply g members wanted parts round (home ++ seat ∷ []) → length home ≡ parts → (u : ℕ) → Contains members u → (s : Step) → IsPushed g wanted u s →
    (s.place < places g) × (s.target < length seat.starts) × (1 ≤ round) × can_apply (app_of Push g s) home
may_visit can_want can_apply g members wanted parts round home seat may size u member s at =
    let same : (home ≡ may.own) × (seat ∷ [] ≡ may.seat ∷ []) = append-equal home may.own (seat ∷ []) (may.seat ∷ []) (omega (arith, size, may.own_parts)) may.home_is in
    let seat_is : seat ≡ may.seat = cc in
    let in_range : s.place < places g = place_in_range g may.lawful u s.place at.place in
    let small : s.target < vertices g = omega (arith, at.target_is, target_in_range g may.lawful s.place in_range) in
    let words : length seat.starts ≡ vertices g = ap (λ (h : Home). length h.starts) seat_is ∙ may.words in (
      in_range,
      omega (arith, small, words),
      may.some_round,
      subst (can_apply (app_of Push g s)) (sym same.0) (may.apply (app_of Push g s) (record {
        by_is = refl;
        member = subst (Contains members) (sym at.source_is) member;
        place = let P : ℕ → Type 0 = λ v. IsPlaceOf g v s.place in subst P (sym at.source_is) at.place;
        target_is = at.target_is;
        weight_is = refl;
        target_wanted = at.target_wanted;
      })),
    )

-- the members of a chunk are members
pub chunk_members : (P : ℕ → Type 0) (members : List ℕ) (size c : ℕ) → All P members → All (λ u. P u × Contains members u) (chunk_of members size c)
chunk_members P members size c each =
    let Q : ℕ → Type 0 = λ u. P u × Contains members u in
    All-take Q size (drop (c * size) members) (All-drop Q (c * size) members (λ k d lt. (each k d lt, Contains-get_or members k d lt)))

pub All-to : (P : Application → Type 0) (done : List (Done Application)) (apps : List Application) → map (λ (d : Done Application). d.to) done ≡ apps → All P apps → All (λ (d : Done Application). P d.to) done
All-to P done apps e all = All-from_map P (λ (d : Done Application). d.to) done (subst (All P) (sym e) all)

-- what visits to wanted places applied, from an empty log on
pub record AppliedRun {T : Type 0} (by : Direction) (g : RawGraph) (members : List ℕ) (wanted : ℕ → Bool) (gives : Application → Bool → Log → Type 0) (log : T → Log) (apps : List Application) (old new : T) (visited : List Visited) : Type 0 where
  pub done : List (Done Application)
  pub added : Log
  pub applied : AppliedInOrder (WantedGives by g members wanted gives) apps [] added done
  pub noted_are : noted_of visited ≡ answered_true (λ (a : Application). a.target) done
  pub log_is : log new ≡ followed_by (log old) added

pub applied_run : {T : Type 0} (by : Direction) (g : RawGraph) (members : List ℕ) (wanted : ℕ → Bool) (gives : Application → Bool → Log → Type 0) (log : T → Log) (steps : List Step) (apps : List Application) (old new : T) (visited : List Visited) →
    HasVisited (Applies by g gives log) steps old new visited → map (app_of by g) steps ≡ apps → All (IsWanted by g members wanted) apps → AppliedRun by g members wanted gives log apps old new visited
applied_run by g members wanted gives log steps apps old new visited h same each =
    let a = applied_steps by g gives log steps visited old new h in
    let b = applied_from_nil gives (map (app_of by g) steps) (log old) (log new) a.0 a.1 in
    let to_wanted : All (λ (d : Done Application). IsWanted by g members wanted d.to) a.0 = All-to (IsWanted by g members wanted) a.0 apps (b.0.to_is ∙ same) each in
    record {
      done = a.0;
      added = followed_by_all [] (map (λ (d : Done Application). d.added) a.0);
      applied = record { by = record { each = λ k d lt. (b.0.by.each k d lt, to_wanted k d lt); log_is = b.0.by.log_is }; to_is = b.0.to_is ∙ same };
      noted_are = a.2;
      log_is = b.1;
    }

-- what the push of a chunk gives
pub run_gives : {T : Type 0} (by : Direction) (g : RawGraph) (members : List ℕ) (wanted : ℕ → Bool) (gives : Application → Bool → Log → Type 0) (log : T → Log) (steps : List Step) (apps : List Application) (old new : T) (before after : List ℕ) →
    HasPushed (Applies by g gives log) steps old new before after → before ≡ [] → map (app_of by g) steps ≡ apps → All (IsWanted by g members wanted) apps →
    (added : Log) × ((done : List (Done Application)) × AppliedInOrder (WantedGives by g members wanted gives) apps [] added done × (after ≡ answered_true (λ (a : Application). a.target) done)) × (log new ≡ followed_by (log old) added)
run_gives by g members wanted gives log steps apps old new before after h none same each =
    let r = applied_run by g members wanted gives log steps apps old new h.visited h.has_visited same each in
    (r.added, (r.done, r.applied, h.noted_are ∙ ap (λ l. l ++ noted_of h.visited) none ∙ r.noted_are), r.log_is)

-- logs without an entry, and with more parts than they need
followed_by-no_entries : (xs : Log) (parts : ℕ) → length xs ≡ parts → followed_by xs (no_entries parts) ≡ xs
followed_by-no_entries [] zero e = refl
followed_by-no_entries [] (suc n) e = absurd (omega arith)
followed_by-no_entries (x ∷ xs) zero e = absurd (omega arith)
followed_by-no_entries (x ∷ xs) (suc n) e =
    let rest : followed_by xs (no_entries n) ≡ xs = followed_by-no_entries xs n (omega arith) in
    let first : x ++ [] ≡ x = append-nil x in cc

-- a log is followed by a shorter one as by that one with more parts
followed_by-padded : (xs ys : Log) (parts : ℕ) → length xs ≡ parts → followed_by xs (followed_by (no_entries parts) ys) ≡ followed_by xs ys
followed_by-padded xs ys parts e = sym (followed_by-assoc xs (no_entries parts) ys) ∙ ap (λ l. followed_by l ys) (followed_by-no_entries xs parts e)

length-padded : (ys : Log) (parts : ℕ) → length ys ≤ parts → length (followed_by (no_entries parts) ys) ≡ parts
length-padded ys parts few =
    let size : length (no_entries parts) ≡ parts = length-replicate {A = List Entry} parts [] in
    omega (arith, size, length-followed_by (no_entries parts) ys (omega (arith, size)))

-- a log of two pieces, followed by a stamp in its last part
pub followed_by-both : (xs ys : Log) (parts : ℕ) (s t : List Entry) → length xs ≡ parts → length ys ≤ parts → followed_by (xs ++ s ∷ []) (followed_by (no_entries parts) ys ++ t ∷ []) ≡ followed_by xs ys ++ (s ++ t) ∷ []
followed_by-both xs ys parts s t size few =
    followed_by-append xs (followed_by (no_entries parts) ys) (s ∷ []) (t ∷ []) (size ∙ sym (length-padded ys parts few))
    ∙ ap (λ l. l ++ (s ++ t) ∷ []) (followed_by-padded xs ys parts size)

pub length-kept : (xs ys : Log) (parts : ℕ) → length xs ≡ parts → length ys ≤ parts → length (followed_by xs ys) ≡ parts
length-kept xs ys parts size few = omega (arith, length-followed_by xs ys (omega arith))

-- what an application and its stamp give together
pub stamped_gives : (gives : Application → Bool → Log → Type 0) (round parts : ℕ) (a : Application) (answer first : Bool) (old new : Log) (s t : List Entry) → HasAdded (gives a) old new answer → length old ≡ parts → length new ≡ parts →
    (answer ≡ false → first ≡ false) → t ≡ s ++ stamp_of round answer a.target first → HasAdded (StampedGives gives round parts a) (old ++ s ∷ []) (new ++ t ∷ []) first
stamped_gives gives round parts a answer first old new s t h size size_new unanswered is =
    let few : length h.added ≤ parts = omega (arith, length-followed_by_right old h.added, ap length h.log_is, size_new) in record {
      added = followed_by (no_entries parts) h.added ++ stamp_of round answer a.target first ∷ [];
      gives_out = record { answer = answer; own = h.added; gives_answer = h.gives_out; own_parts = few; unanswered = unanswered; added_is = refl };
      log_is = ap (λ l. l ++ t ∷ []) h.log_is ∙ ap (λ l. followed_by old h.added ++ l ∷ []) is ∙ sym (followed_by-both old h.added parts s (stamp_of round answer a.target first) size few);
    }
