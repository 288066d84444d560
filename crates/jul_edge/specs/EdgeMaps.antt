-- What an edge map does, and which direction is chosen.
use Rattle.std.specs.Prelude.{ℕ, ◌/◌, ◌≤◌, ◌<◌, List, [], ◌++◌, ◌≡◌, ◌↔◌, Bool, true, false, length, map, All, Contains, Option, Some, None, nat_lt, if◌then◌else◌}
use Rattle.jul_base.specs.declared.graphs.RawGraph.{RawGraph}
use Rattle.jul_base.specs.Graph.{vertices, places}
use Rattle.jul_base.specs.Logs.{Log, Entry, Home, STAMP}
use Rattle.jul_rows.specs.Reach.{reach}
use Rattle.jul_words.specs.Seats.{Seat, IsSeatOf, IsAlone}
use Rattle.jul_subset.specs.Subsets.{Subset}
use Rattle.jul_subset.specs.Applications.{Done, answered_true, AppliedBy}
use Rattle.jul_edge.specs.declared.functions.Direction.{Direction}
use Rattle.jul_edge.specs.declared.functions.Direction.TheVariants.{Push, Pull}
use Rattle.jul_edge.specs.Edges.{Application, AreWantedOnce}

-- a pull gives a dense subset, a push a sparse one
abbrev pub is_pull : Direction → Bool
is_pull Push = false
is_pull Pull = true

-- a list of vertices as the subset that such a walk gave
abbrev pub listed : Direction → ℕ → List ℕ → Subset
listed by n ids = record { n = n; members = ids; dense = is_pull by }

-- the function was applied to each wanted place once and to no other, the log gained what each application added,
-- together and in this order, and the subset has the targets that were answered true
pub record IsMapped (by : Direction) (g : RawGraph) (members : List ℕ) (wanted : ℕ → Bool) (gives : Application → Bool → Log → Type 0) (old new : Log) (subset : Subset) : Type 0 where
  pub done : List (Done Application)
  pub applied : AppliedBy gives old new done
  pub once : AreWantedOnce by g members wanted (map (λ (d : Done Application). d.to) done)
  pub n : subset.n ≡ vertices g
  pub form : subset.dense ≡ is_pull by
  pub members_are : (v : ℕ) → Contains subset.members v ↔ Contains (answered_true (λ (a : Application). a.target) done) v

-- what an edge map did through a token, of which its log, its home, whether it is a root and how many are out are told:
-- no application added more parts than the log has, and the token is a root of the same home with none out
pub record HasMapped {T : Type 0} (log_of : T → Log) (home_of : T → List Home) (is_root : T → Bool) (out_of : T → ℕ) (by : Direction) (g : RawGraph) (members : List ℕ) (wanted : ℕ → Bool) (gives : Application → Bool → Log → Type 0) (old new : T) (subset : Subset) : Type 0 where
  pub mapped : IsMapped by g members wanted gives (log_of old) (log_of new) subset
  pub parts : All (λ (d : Done Application). length d.added ≤ length (log_of old)) mapped.done
  pub root : is_root new ≡ true
  pub none_out : out_of new ≡ 0
  pub home : home_of new ≡ home_of old

-- the seat of a table with a word for each vertex, the root with none out, and the round is above all that it stamped
pub record CanStamp (n : ℕ) (table : List ℕ) (round : ℕ) (s : Seat) : Type 0 where
  pub of_table : IsSeatOf table s
  pub words : length s.home.starts ≡ n
  pub alone : IsAlone s
  pub some : 1 ≤ round
  pub above : All (λ (e : Entry). e.number < round) s.log

-- behind the log of the seat stand stamps of this round alone, and none where it was a pull
pub record HasStamped (by : Direction) (round : ℕ) (old new : Seat) : Type 0 where
  pub entries : List Entry
  pub seat_is : new ≡ record { home = old.home; root = old.root; out = old.out; log = old.log ++ entries }
  pub of_round : All (λ (e : Entry). (e.kind ≡ STAMP) × (e.number ≡ round)) entries
  pub none : by ≡ Pull → entries ≡ []

-- by pull where members and places are more than a twentieth of all places
abbrev pub direction_for : RawGraph → List ℕ → Direction
direction_for g members = if nat_lt (places g / 20) (reach g members) then Pull else Push

-- by pull where there are in-rows and the work is more than half of all places
abbrev pub direction_by_reach : {A : Type 0} → Option A → RawGraph → ℕ → Direction
direction_by_reach None g work = Push
direction_by_reach (Some in_rows) g work = if nat_lt (places g / 2) work then Pull else Push
