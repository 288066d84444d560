-- A push without stamps, by one thread or in chunks.
use Rattle.std.proofs.Common.{◌≡◌, ℕ, ◌*◌, ◌<◌, ◌≤◌, List, [], ◌∷◌, ◌++◌, length, map, refl, ap, sym, ◌∙◌, subst, All, Bool, Vec, Global}
use Rattle.std.specs.Prelude.{Contains}
use Rattle.std.specs.List.{flat_map}
use Rattle.std.specs.List.Sorted.{IsStrictlyIncreasing}
use Rattle.std.proofs.lemmas.List.Elements.{All-map, Contains-get_or}
use Rattle.jul_base.specs.declared.graphs.RawGraph.{RawGraph}
use Rattle.jul_base.specs.Graph.{vertices, places, IsPlaceOf, IsLawful}
use Rattle.jul_base.specs.Logs.{Log, Home}
use Rattle.jul_base.specs.Times.{times}
use Rattle.jul_base.proofs.GraphLaws.{place_in_range}
use Rattle.jul_pool.specs.Runs.{EachRunOnce}
use Rattle.jul_subset.specs.Applications.{Done, answered_true}
use Rattle.jul_subset.specs.Chunks.{chunk_of}
use Rattle.jul_subset.proofs.ApplicationLaws.{NotesChunk, notes_hits, all_gathered}
use Rattle.jul_rows.specs.Visits.{Step, IsPushed, HasPushed, noted_of, push_steps}
use Rattle.jul_edge.specs.declared.functions.Direction.TheVariants.{Push}
use Rattle.jul_edge.specs.Edges.{Application, IsWanted, places_of}
use Rattle.jul_edge.specs.Covers.{app_of, Applies, Covers, WantedGives}
use Rattle.jul_edge.specs.EdgeMaps.{IsMapped, listed}
use Rattle.jul_edge.specs.Pushes.{MayNote, pushed_apps}
use Rattle.jul_edge.proofs.ApplyingLaws.{applied_steps}
use Rattle.jul_edge.proofs.CoverLaws.{push_covers}
use Rattle.jul_edge.proofs.PushLaws.{chunk_members}
use Rattle.jul_edge.proofs.PushedLaws.{places_sum, cover_chunks, times_increasing}

-- a place of a member may be visited
pub may_note : (can_want : ℕ → Type 0) (can_apply : Application → List Home → Type 0) (g : RawGraph) (members : List ℕ) (wanted : ℕ → Bool) (home : List Home) →
    MayNote can_want can_apply g members wanted home → (u : ℕ) → Contains members u → (s : Step) → IsPushed g wanted u s → (s.place < places g) × can_apply (app_of Push g s) home
may_note can_want can_apply g members wanted home may u member s at = (
  place_in_range g may.lawful u s.place at.place,
  may.apply (app_of Push g s) (record {
    by_is = refl;
    member = subst (Contains members) (sym at.source_is) member;
    place = let P : ℕ → Type 0 = λ v. IsPlaceOf g v s.place in subst P (sym at.source_is) at.place;
    target_is = at.target_is;
    weight_is = refl;
    target_wanted = at.target_wanted;
  }),
)

module _ (gives : Application → Bool → Log → Type 0) (g : RawGraph) (lawful : IsLawful g) (members : List ℕ) (members_in : All (λ u. u < vertices g) members) (increasing : IsStrictlyIncreasing members) (wanted : ℕ → Bool) where
  -- all rows walked in order
  pub noted_alone : {T : Type 0} (log : T → Log) (old new : T) (before after : List ℕ) → HasPushed (Applies Push g gives log) (flat_map (push_steps g wanted) members) old new before after → before ≡ [] →
      IsMapped Push g members wanted gives (log old) (log new) (listed Push (vertices g) after)
  noted_alone log old new before after h none =
      let a = applied_steps Push g gives log (flat_map (push_steps g wanted) members) h.visited old new h.has_visited in
      let covers : Covers Push g members wanted members (pushed_apps g wanted members) = push_covers g lawful members wanted members (λ k d lt. (members_in k d lt, Contains-get_or members k d lt)) in
      let is : after ≡ answered_true (λ (a : Application). a.target) a.0 = h.noted_are ∙ ap (λ l. l ++ noted_of h.visited) none ∙ a.2 in record {
        done = a.0;
        applied = a.1.by;
        once = record {
          no_other = subst (All (IsWanted Push g members wanted)) (sym a.1.to_is) covers.no_other;
          once = λ b w. ap (λ l. times b.place (places_of l)) a.1.to_is ∙ covers.once b w ∙ times_increasing b.source members increasing w.member;
        };
        n = refl;
        form = refl;
        members_are = λ v. (subst (λ l. Contains l v) is, subst (λ l. Contains l v) (sym is));
      }

  -- the rows of chunks walked by several
  module _ (size chunks : ℕ) (enough : length members ≤ chunks * size) where
    abbrev Gives : Application → Bool → Log → Type 0
    Gives = WantedGives Push g members wanted gives

    abbrev Wanted : ℕ → List Application
    Wanted c = pushed_apps g wanted (chunk_of members size c)

    chunk_covers : (c : ℕ) → Covers Push g members wanted (chunk_of members size c) (Wanted c)
    chunk_covers c = push_covers g lawful members wanted (chunk_of members size c) (chunk_members (λ u. u < vertices g) members size c members_in)

    pub noted_together : (old new : Log) (outs : List (Vec ℕ Global)) (order noted : List ℕ) → EachRunOnce (NotesChunk Gives (λ (a : Application). a.target) Wanted) chunks old new outs order →
        noted ≡ flat_map (λ (o : Vec ℕ Global). o.items) outs → IsMapped Push g members wanted gives old new (listed Push (vertices g) noted)
    noted_together old new outs order noted ran noted_is =
        let target = λ (a : Application). a.target in
        let all = all_gathered Gives target Wanted (NotesChunk Gives target Wanted) (notes_hits Gives target Wanted) chunks old new outs order ran in
        let to = λ (d : Done Application). d.to in
        let to_wanted : All (λ (d : Done Application). IsWanted Push g members wanted d.to) all.done = λ k d lt. (all.by.each k d lt).1 in record {
          done = all.done;
          applied = record { each = λ k d lt. (all.by.each k d lt).0; log_is = all.by.log_is };
          once = record {
            no_other = All-map (IsWanted Push g members wanted) to all.done to_wanted;
            once = λ b w.
                sym (places_sum b.place (map to all.done)) ∙ all.once (λ (e : Application). times b.place (e.place ∷ []))
                ∙ cover_chunks Push g members wanted members size Wanted chunk_covers chunks enough b w (times_increasing b.source members increasing w.member);
          };
          n = refl;
          form = refl;
          members_are = λ v. (
            (λ h. (all.noted v).0 (subst (λ l. Contains l v) noted_is h)),
            (λ h. subst (λ l. Contains l v) (sym noted_is) ((all.noted v).1 h)),
          );
        }
