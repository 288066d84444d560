-- Applications to the wanted places of some sources, or in a pull to those of some targets.
use Rattle.std.specs.Prelude.{ℕ, List, ◌≡◌, Bool, All}
use Rattle.jul_base.specs.declared.graphs.RawGraph.{RawGraph}
use Rattle.jul_base.specs.Graph.{weight}
use Rattle.jul_base.specs.Times.{times}
use Rattle.jul_edge.specs.declared.functions.Direction.{Direction}
use Rattle.jul_edge.specs.declared.functions.Direction.TheVariants.{Push, Pull}
use Rattle.jul_edge.specs.Edges.{Application, application, IsWanted, places_of}
use Rattle.jul_base.specs.Logs.{Log}
use Rattle.jul_pool.specs.Added.{HasAdded}
use Rattle.jul_rows.specs.Visits.{Step, Visited}

-- the vertex by which the work is cut: the source in a push, the target in a pull
abbrev pub key_of : Direction → Application → ℕ
key_of Push a = a.source
key_of Pull a = a.target

-- the application to a place that is visited
abbrev pub app_of : Direction → RawGraph → Step → Application
app_of by g s = application by s.source s.place s.target (weight g s.place)

-- they are to wanted places alone, and to each as often as its key stands among the keys
pub record Covers (by : Direction) (g : RawGraph) (members : List ℕ) (wanted : ℕ → Bool) (keys : List ℕ) (apps : List Application) : Type 0 where
  pub no_other : All (IsWanted by g members wanted) apps
  pub once : (a : Application) → IsWanted by g members wanted a → times a.place (places_of apps) ≡ times (key_of by a) keys

-- a visit of a place: an application that may answer this, and what it adds to the log
abbrev pub Applies : {T : Type 0} → Direction → RawGraph → (Application → Bool → Log → Type 0) → (T → Log) → Visited → T → T → Type 0
Applies by g gives log x old new = HasAdded (gives (app_of by g x.step)) (log old) (log new) x.noted

-- an application that may answer this, to a wanted place
abbrev pub WantedGives : Direction → RawGraph → List ℕ → (ℕ → Bool) → (Application → Bool → Log → Type 0) → Application → Bool → Log → Type 0
WantedGives by g members wanted gives a answer added = gives a answer added × IsWanted by g members wanted a
