-- The ranges that the numbers of a query are in.
use Rattle.std.specs.Prelude.{◌≡◌, ℕ, ◌≤◌, List, Some, IfSome}
use Rattle.jul_base.specs.Sources.{AreNamedSources}
use Rattle.jul_query.specs.declared.queries.Settings.{Settings}
use Rattle.jul_query.specs.declared.queries.Query.{Query}
use Rattle.jul_query.specs.declared.queries.Input.{Input}
use Rattle.jul_query.specs.declared.queries.Input.TheVariants.{GraphFile, Generated}
use Rattle.jul_query.specs.declared.queries.Problem.{Problem}
use Rattle.jul_query.specs.declared.queries.Problem.TheVariants.{Distances, Cores, Cover}
use Rattle.jul_query.specs.declared.queries.Work.{Work}
use Rattle.jul_query.specs.declared.queries.Work.TheVariants.{Solve, Judge}
use Rattle.jul_query.specs.Splitting.{Split}
use Rattle.jul_query.specs.Words.{sources_asked}

abbrev pub IsWithin : ℕ → ℕ → ℕ → Type 0
IsWithin low high k = (low ≤ k) × (k ≤ high)

pub record AreSettingsInRange (s : Settings) : Type 0 where
  pub open_buckets : IsWithin 1 65536 s.open_buckets
  pub workers : IsWithin 1 64 s.workers
  pub chunk : IsWithin 1 65536 s.chunk

abbrev pub IsInputInRange : Input → Type 0
IsInputInRange (GraphFile name) = Unit {0}
IsInputInRange (Generated n pairs seed) = IsWithin 1 16777216 n × (pairs ≤ 67108864)

-- the sources increase, and there are some and not too many; a bucket of distances is at least 1 wide
abbrev pub IsProblemInRange : Problem → Type 0
IsProblemInRange (Distances sources delta) = AreNamedSources sources.items × (1 ≤ delta)
IsProblemInRange Cores = Unit {0}
IsProblemInRange Cover = Unit {0}

abbrev pub IsWorkInRange : Work → Type 0
IsWorkInRange (Solve problem form) = IsProblemInRange problem
IsWorkInRange (Judge purpose witness sources) = IfSome sources (λ named. AreNamedSources named.items)

-- the sources that the words mean
pub record AreSourcesOf (s : Split) (sources : List ℕ) : Type 0 where
  pub asked : sources_asked s ≡ Some sources
  pub named : AreNamedSources sources

pub record IsInRange (q : Query) : Type 0 where
  pub input : IsInputInRange q.input
  pub work : IsWorkInRange q.work
  pub settings : AreSettingsInRange q.settings
