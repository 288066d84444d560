-- Visits that apply a function: what was applied, in order, and what is noted.
use Rattle.std.proofs.Common.{◌≡◌, ℕ, ◌<◌, List, [], ◌∷◌, map, refl, ap, ◌∙◌, arith, All, Bool, if◌then◌else◌}
use Rattle.std.proofs.Common.{inl, inr, ⊎_elim}
use Rattle.std.specs.Prelude.{Contains}
use Rattle.std.proofs.lemmas.Bool.{cases_Bool}
use Rattle.std.proofs.lemmas.List.Elements.{All-nil, All-cons, All-head, All-tail}
use Rattle.jul_base.proofs.SetLaws.{Contains-cons_cases}
use Rattle.jul_base.specs.declared.graphs.RawGraph.{RawGraph}
use Rattle.jul_base.specs.Graph.{vertices, IsLawful}
use Rattle.jul_base.specs.Logs.{Log}
use Rattle.jul_base.proofs.GraphLaws.{place_in_range, target_in_range}
use Rattle.jul_pool.specs.Added.{followed_by_all}
use Rattle.jul_subset.specs.Applications.{Done, answered_true, AppliedInOrder}
use Rattle.jul_edge.specs.declared.functions.Direction.{Direction}
use Rattle.jul_edge.specs.Edges.{Application, IsWanted}
use Rattle.jul_rows.specs.Visits.{Step, Visited, noted_of, VisitedInOrder, HasVisited}
use Rattle.jul_edge.specs.Covers.{app_of, Applies}

module _ {T : Type 0} (by : Direction) (g : RawGraph) (gives : Application → Bool → Log → Type 0) (log : T → Log) where
  pub record AppliedVisits (visited : List Visited) (old new : T) : Type 0 where
    pub done : List (Done Application)
    pub applied : AppliedInOrder gives (map (λ (x : Visited). app_of by g x.step) visited) (log old) (log new) done
    pub noted_are : noted_of visited ≡ answered_true (λ (a : Application). a.target) done

  pub applied_visits : (visited : List Visited) (old new : T) → VisitedInOrder (Applies by g gives log) visited old new → AppliedVisits visited old new
  applied_visits [] old new e = record { done = []; applied = record { by = record { each = All-nil _; log_is = ap log e }; to_is = refl }; noted_are = refl }
  applied_visits (x ∷ xs) old new v =
      let mid = v.0 in
      let one = v.1 in
      let rest : AppliedVisits xs mid new = applied_visits xs mid new v.2 in
      let d : Done Application = record { to = app_of by g x.step; answer = x.noted; added = one.added } in record {
        done = d ∷ rest.done;
        applied = record {
          by = record {
            each = All-cons (λ (d : Done Application). gives d.to d.answer d.added) d rest.done one.gives_out rest.applied.by.each;
            log_is = rest.applied.by.log_is ∙ ap (λ l. followed_by_all l (map (λ (d : Done Application). d.added) rest.done)) one.log_is;
          };
          to_is = ap (λ l. app_of by g x.step ∷ l) rest.applied.to_is;
        };
        noted_are = ap (λ l. if x.noted then x.step.target ∷ l else l) rest.noted_are;
      }

  apps-map : (visited : List Visited) → map (λ (x : Visited). app_of by g x.step) visited ≡ map (app_of by g) (map (λ (x : Visited). x.step) visited)
  apps-map [] = refl
  apps-map (x ∷ xs) = ap (λ l. app_of by g x.step ∷ l) (apps-map xs)

  -- the same by the places that were visited
  pub applied_steps : (steps : List Step) (visited : List Visited) (old new : T) → HasVisited (Applies by g gives log) steps old new visited
      → (done : List (Done Application)) × AppliedInOrder gives (map (app_of by g) steps) (log old) (log new) done × (noted_of visited ≡ answered_true (λ (a : Application). a.target) done)
  applied_steps steps visited old new h =
      let a : AppliedVisits visited old new = applied_visits visited old new h.in_order in (
        a.done,
        record { by = a.applied.by; to_is = a.applied.to_is ∙ apps-map visited ∙ ap (map (app_of by g)) h.steps_are },
        a.noted_are,
      )

-- the targets that were answered true are below n where all targets are
pub answered_true-below : (n v : ℕ) (done : List (Done Application)) → All (λ (d : Done Application). d.to.target < n) done → Contains (answered_true (λ (a : Application). a.target) done) v → v < n
answered_true-below n v [] each (k, lt, at) = absurd (omega arith)
answered_true-below n v (d ∷ done) each h =
    let P : Done Application → Type 0 = λ d. d.to.target < n in
    let here : d.to.target < n = All-head P d done each in
    let rest : Contains (answered_true (λ (a : Application). a.target) done) v → v < n = answered_true-below n v done (All-tail P d done each) in
    elim (cases_Bool d.answer) [
      | inl is ↦
          ⊎_elim
          (λ (same : d.to.target ≡ v). omega arith)
          (λ (later : Contains (answered_true (λ (a : Application). a.target) done) v). rest later)
          (Contains-cons_cases d.to.target (answered_true (λ (a : Application). a.target) done) v (rw is at h))
      | inr not ↦ rest (rw not at h)
    ]

-- the target of a wanted place is a vertex
pub wanted_target : (by : Direction) (g : RawGraph) (members : List ℕ) (wanted : ℕ → Bool) (a : Application) → IsLawful g → IsWanted by g members wanted a → a.target < vertices g
wanted_target by g members wanted a lawful w = omega (arith, w.target_is, target_in_range g lawful a.place (place_in_range g lawful a.source a.place w.place))
