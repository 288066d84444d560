-- What is said of a graph where a problem is to be solved: a line for each problem, and a line for each form.
use Rattle.std.specs.Prelude.{◌≡◌, ◌⊎◌, ℕ, List, [], None}
use Rattle.jul_base.specs.declared.graphs.RawGraph.{RawGraph}
use Rattle.jul_base.specs.declared.results.Cover.{Cover}
use Rattle.jul_base.specs.Numbers.{IsColumn}
use Rattle.jul_base.specs.Sets.{sets_of}
use Rattle.jul_base.specs.CoverRounds.{IsCover}
use Rattle.jul_cover.specs.CoverBounds.{IsSmallCover}
use Rattle.jul_base.specs.Graph.{vertices, places}
use Rattle.jul_base.specs.Distances.{AreDistances}
use Rattle.jul_base.specs.Trees.{AreTree}
use Rattle.jul_base.specs.Coreness.{IsCoreness}
use Rattle.jul_base.specs.Levels.{IsLevel}
use Rattle.jul_witness.specs.declared.witnesses.Columns.{Columns}
use Rattle.jul_witness.specs.declared.witnesses.Columns.TheVariants as results
use Rattle.jul_witness.specs.Texts.{bare_text, columns_text}
use Rattle.jul_witness.specs.Summaries.{distances_summary, cores_summary, cover_summary}
use Rattle.jul_cmd.specs.declared.statuses.Status.{Status}
use Rattle.jul_cmd.specs.declared.statuses.Status.TheVariants.{Done}
use Rattle.jul_query.specs.Queries.{Problem, distances, cores, cover, Form, whole, bare, summary, meant}
use Rattle.jul_cmd.specs.Suited.{IsUnsuited, IsSuited}
use Rattle.jul_cmd.specs.Checking.{IsAccepted}

-- the columns are those of the cover's rounds, and few sets are chosen: at most 4 * (f + 1) times as many as any list has that
-- holds every element, where f is the floor of the base-2 logarithm of the greatest size
pub record IsFoundCover (g : RawGraph) (c : Cover) : Type 0 where
  pub rounds : IsCover (sets_of g) c
  pub small : IsSmallCover (sets_of g) c.round

-- the column has for each vertex what the problem asks
abbrev pub AreValues : RawGraph → Problem → List ℕ → Type 0
AreValues g (distances sources) column = AreDistances g sources column
AreValues g cores column = IsColumn (vertices g) (IsCoreness g) column
AreValues g cover column = (c : Cover) × IsFoundCover g c × (column ≡ c.by)

-- the columns have for each vertex what the problem asks, and the witness that bears it out
abbrev pub IsResult : RawGraph → Problem → Columns → Type 0
IsResult g (distances sources) (results.Distances d) = AreTree g sources d.dist d.hops d.parent
IsResult g cores (results.Cores c) = IsColumn (vertices g) (IsCoreness g) c.core × IsColumn (vertices g) (IsLevel g) c.level
IsResult g cover (results.Cover c) = IsFoundCover g c
IsResult g problem result = ⊥

-- the sources of a problem: vertex 0 alone where it has none
abbrev pub sources_of : Problem → List ℕ
sources_of (distances sources) = sources
sources_of cores = meant None
sources_of cover = meant None

-- the whole text of a result, which a check accepts
pub record IsWholeText (g : RawGraph) (problem : Problem) (text : List ℕ) : Type 0 where
  pub columns : Columns
  pub is_result : IsResult g problem columns
  pub is_text : text ≡ columns_text (places g) (sources_of problem) columns
  pub accepted : IsAccepted g text

-- the line sums up what the problem asks, behind the name of the task
abbrev pub IsSummary : RawGraph → Problem → List ℕ → List ℕ → Type 0
IsSummary g (distances sources) task line =
    (dist : List ℕ) × AreDistances g sources dist × (line ≡ distances_summary task (vertices g) (places g) dist)
IsSummary g cores task line =
    (core : List ℕ) × IsColumn (vertices g) (IsCoreness g) core × (line ≡ cores_summary task (vertices g) (places g) core)
IsSummary g cover task line =
    (c : Cover) × IsFoundCover g c × (line ≡ cover_summary task (vertices g) (places g) c.round c.by)

-- the text has what the problem asks, in the form
abbrev pub IsText : RawGraph → Problem → Form → List ℕ → Type 0
IsText g problem whole text = IsWholeText g problem text
IsText g problem (summary task) text = IsSummary g problem task text
IsText g problem bare text = (column : List ℕ) × AreValues g problem column × (text ≡ bare_text column)

-- the problem was solved
pub record IsDone (g : RawGraph) (problem : Problem) (form : Form) (status : Status) (text : List ℕ) : Type 0 where
  pub suited : IsSuited g problem
  pub done : status ≡ Done
  pub written : IsText g problem form text

-- the graph isn't suited and nothing is written, or the problem was solved
abbrev pub IsSolved : RawGraph → Problem → Form → Status → List ℕ → Type 0
IsSolved g problem form status text = (IsUnsuited g problem status × (text ≡ [])) ⊎ IsDone g problem form status text
