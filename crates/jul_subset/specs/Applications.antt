-- What applications of a function answered, and what they added to a log.
use Rattle.std.specs.Prelude.{ℕ, ◌≤◌, List, [], ◌∷◌, ◌≡◌, ◌↔◌, Bool, length, map, All, Contains, sum_by, if◌then◌else◌}
use Rattle.jul_base.specs.Logs.{Log}
use Rattle.jul_pool.specs.Added.{followed_by_all}

-- each as often in the one list as in the other, however they are weighed
abbrev pub SameItems : {X : Type 0} → List X → List X → Type 0
SameItems {X} xs ys = (weight : X → ℕ) → sum_by weight xs ≡ sum_by weight ys

-- one application: to what, its answer, and what it added to the log
pub record Done (X : Type 0) : Type 0 where
  pub to : X
  pub answer : Bool
  pub added : Log

-- the vertices of the applications that were answered true, in the order of the applications
abbrev pub answered_true : {X : Type 0} → (X → ℕ) → List (Done X) → List ℕ
answered_true vertex [] = []
answered_true vertex (d ∷ ds) =
    if d.answer then vertex d.to ∷ answered_true vertex ds else answered_true vertex ds

-- `gives` is what the function may do: to what it is applied, its answer and the entries that it adds
module _ {X : Type 0} (gives : X → Bool → Log → Type 0) where
  -- these applications were made, and the log gained what each added, together and in this order
  pub record AppliedBy (old new : Log) (done : List (Done X)) : Type 0 where
    pub each : All (λ (d : Done X). gives d.to d.answer d.added) done
    pub log_is : new ≡ followed_by_all old (map (λ (d : Done X). d.added) done)

  -- the function was applied to these in this order
  pub record AppliedInOrder (to : List X) (old new : Log) (done : List (Done X)) : Type 0 where
    pub by : AppliedBy old new done
    pub to_is : map (λ (d : Done X). d.to) done ≡ to

  -- the same from an empty log on, and the vertices answered true were noted, in whatever order and as often as it may be
  pub record NotesHits (vertex : X → ℕ) (to : List X) (added : Log) (noted : List ℕ) : Type 0 where
    pub done : List (Done X)
    pub applied : AppliedInOrder to [] added done
    pub noted_are : (v : ℕ) → Contains noted v ↔ Contains (answered_true vertex done) v

  -- the function was applied to each of these once, and to no other; no application added more parts than the log has,
  -- and these vertices are those answered true
  pub record AppliedOnce (vertex : X → ℕ) (to : List X) (old new : Log) (members : List ℕ) : Type 0 where
    pub done : List (Done X)
    pub by : AppliedBy old new done
    pub parts : All (λ (d : Done X). length d.added ≤ length old) done
    pub once : SameItems (map (λ (d : Done X). d.to) done) to
    pub members_are : (v : ℕ) → Contains members v ↔ Contains (answered_true vertex done) v
