-- What a push does: at each place, in each chunk, and what it asks of its caller.
use Rattle.std.specs.Prelude.{ℕ, ◌<◌, ◌≤◌, List, [], ◌∷◌, ◌++◌, ◌≡◌, Bool, false, length, map, replicate, All, Contains, ◌↔◌, if◌then◌else◌}
use Rattle.std.specs.List.{flat_map}
use Rattle.jul_base.specs.declared.graphs.RawGraph.{RawGraph}
use Rattle.jul_base.specs.Graph.{vertices, IsLawful}
use Rattle.jul_base.specs.Logs.{Log, Entry, Home, STAMP, followed_by}
use Rattle.jul_pool.specs.Added.{followed_by_all}
use Rattle.jul_words.specs.Weights.{counted}
use Rattle.jul_words.specs.Seats.{Seat, entry}
use Rattle.jul_subset.specs.Applications.{Done}
use Rattle.jul_edge.specs.declared.functions.Direction.TheVariants.{Push}
use Rattle.jul_edge.specs.Edges.{Application, IsWanted, AreWantedOnce}
use Rattle.jul_rows.specs.Visits.{push_steps}
use Rattle.jul_edge.specs.Covers.{app_of}

-- a log of so many parts without an entry
abbrev pub no_entries : ℕ → Log
no_entries parts = replicate parts []

-- what is stamped where a target was answered true; the mark says whether it is the first
abbrev pub stamp_of : ℕ → Bool → ℕ → Bool → List Entry
stamp_of round answer v first = if answer then entry STAMP v round (counted first) ∷ [] else []

-- an application, and the stamp of its target. Together they answer whether it was answered true and its stamp is the
-- first. They add to a log that has the function's parts and then that of the stamps
pub record StampedGives (gives : Application → Bool → Log → Type 0) (round parts : ℕ) (a : Application) (first : Bool) (added : Log) : Type 0 where
  pub answer : Bool
  pub own : Log
  pub gives_answer : gives a answer own
  pub own_parts : length own ≤ parts
  pub unanswered : answer ≡ false → first ≡ false
  pub added_is : added ≡ followed_by (no_entries parts) own ++ stamp_of round answer a.target first ∷ []

-- the applications of a push to the rows of these members, in order
abbrev pub pushed_apps : RawGraph → (ℕ → Bool) → List ℕ → List Application
pushed_apps g wanted us = map (app_of Push g) (flat_map (push_steps g wanted) us)

-- an application, and whether the stamp of its target was the first
pub record Stamped : Type 0 where
  pub done : Done Application
  pub first : Bool

abbrev pub stamps : ℕ → List Stamped → List Entry
stamps round [] = []
stamps round (x ∷ xs) = stamp_of round x.done.answer x.done.to.target x.first ++ stamps round xs

-- the targets whose stamp was the first
abbrev pub firsts : List Stamped → List ℕ
firsts [] = []
firsts (x ∷ xs) = if x.first then x.done.to.target ∷ firsts xs else firsts xs

-- what the push of all rows gave: the logs, the stamps, and what the chunks noted
pub record PushedAll (gives : Application → Bool → Log → Type 0) (g : RawGraph) (round : ℕ) (members : List ℕ) (wanted : ℕ → Bool) (old new : Log) (seat_old seat_new : Seat) (noted : List ℕ) : Type 0 where
  pub stamped : List Stamped
  pub each : All (λ (x : Stamped). gives x.done.to x.done.answer x.done.added × (x.done.answer ≡ false → x.first ≡ false)) stamped
  pub once : AreWantedOnce Push g members wanted (map (λ (x : Stamped). x.done.to) stamped)
  pub log_is : new ≡ followed_by_all old (map (λ (x : Stamped). x.done.added) stamped)
  pub stamps_are : seat_new.log ≡ seat_old.log ++ stamps round stamped
  pub noted_are : (v : ℕ) → Contains noted v ↔ Contains (firsts stamped) v

-- a push may be made with a token of this home, whose last part is that of the stamps
pub record MayPush (can_want : ℕ → Type 0) (can_apply : Application → List Home → Type 0) (g : RawGraph) (members : List ℕ) (wanted : ℕ → Bool) (parts round : ℕ) (home : List Home) : Type 0 where
  pub lawful : IsLawful g
  pub members_in : All (λ u. u < vertices g) members
  pub some_round : 1 ≤ round
  pub own : List Home
  pub seat : Home
  pub home_is : home ≡ own ++ seat ∷ []
  pub own_parts : length own ≡ parts
  pub words : length seat.starts ≡ vertices g
  pub want : (v : ℕ) → v < vertices g → can_want v
  pub apply : (a : Application) → IsWanted Push g members wanted a → can_apply a own

-- a push without stamps may be made with a token of this home
pub record MayNote (can_want : ℕ → Type 0) (can_apply : Application → List Home → Type 0) (g : RawGraph) (members : List ℕ) (wanted : ℕ → Bool) (home : List Home) : Type 0 where
  pub lawful : IsLawful g
  pub members_in : All (λ u. u < vertices g) members
  pub want : (v : ℕ) → v < vertices g → can_want v
  pub apply : (a : Application) → IsWanted Push g members wanted a → can_apply a home
