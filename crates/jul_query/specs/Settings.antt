-- How the work is to be done, as the words say it. No answer depends on it.
use Rattle.std.specs.Prelude.{◌≡◌, ℕ, List, Option, Some}
use Rattle.std.specs.Option.{option_map, option_and_then, IsSomeAnd}
use Rattle.clap.specs.Words.{Text}
use Rattle.jul_query.specs.declared.queries.Settings.{Settings}
use Rattle.jul_query.specs.declared.queries.Query.{Query}
use Rattle.jul_query.specs.declared.queries.Problem.{Problem}
use Rattle.jul_query.specs.declared.queries.Problem.TheVariants.{Distances, Cores, Cover}
use Rattle.jul_query.specs.declared.queries.Work.{Work}
use Rattle.jul_query.specs.declared.queries.Work.TheVariants.{Solve, Judge}
use Rattle.jul_query.specs.Numbers.{number_or, open_number, workers_number, chunk_number}
use Rattle.jul_query.specs.Splitting.{Split, split}

-- the settings that the words name, and else the usual ones
abbrev pub settings_asked : Split → Option Settings
settings_asked s =
    option_and_then (λ o. option_and_then (λ w. option_map (λ c. record { open_buckets = o; workers = w; chunk = c })
    (chunk_number s.chunk)) (workers_number s.workers)) (open_number s.open_buckets)

-- the width of a bucket of distances: 1 where the words name none
abbrev pub width_asked : Split → Option ℕ
width_asked s = number_or 1 1 4294967295 s.delta

abbrev pub HasWidth : Split → Problem → Type 0
HasWidth s (Distances sources delta) = width_asked s ≡ Some delta
HasWidth s Cores = Unit {0}
HasWidth s Cover = Unit {0}

abbrev pub HasWidthOf : Split → Work → Type 0
HasWidthOf s (Solve problem form) = HasWidth s problem
HasWidthOf s (Judge purpose witness sources) = Unit {0}

pub record HasSettings (q : Query) (s : Split) : Type 0 where
  pub settings : settings_asked s ≡ Some q.settings
  pub width : HasWidthOf s q.work

-- the query has the settings that the words name, and else the usual ones
abbrev pub HasSettingsOf : List Text → Query → Type 0
HasSettingsOf words q = IsSomeAnd (split words) (HasSettings q)
