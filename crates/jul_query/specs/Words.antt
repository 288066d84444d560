-- What the words ask for.
use Rattle.std.specs.Prelude.{ℕ, Bool, not, ◌&&◌, ◌==◌, nat_lt, nat_le, List, [], ◌∷◌, length, fold, Option, Some, None, codes, if◌then◌else◌, is_some}
use Rattle.std.specs.List.{slice_split}
use Rattle.std.specs.Option.{option_map, option_and_then}
use Rattle.std.specs.Str.{bytes_eq}
use Rattle.clap.specs.Words.{Text}
use Rattle.jul_query.specs.declared.queries.Task.{Task}
use Rattle.jul_query.specs.declared.queries.Task.TheVariants.{Wbfs, Delta, Kcore, Cover}
use Rattle.jul_query.specs.Queries.{Input, graph_file, generated, Problem, distances, cores, cover, Form, whole, bare, summary}
use Rattle.jul_query.specs.Queries.{Purpose, check, upgrade, solve, judge, Asked, meant}
use Rattle.jul_query.specs.Numbers.{source_number, delta_number, n_number, pairs_number, seed_number}
use Rattle.jul_query.specs.Settings.{settings_asked}
use Rattle.jul_query.specs.Splitting.{Split, split}
use Rattle.jul_query.specs.Counting.{is_counted_twice}

abbrev pub is_absent : Option Text → Bool
is_absent text = not (is_some text)

-- ---- the sources

-- the parts of a text round its commas (44)
abbrev pub parts_of : Text → List Text
parts_of = slice_split (λ byte. byte == 44)

-- the numbers of the parts, or None where a part isn't the number of a source
abbrev pub numbers_of : List Text → Option (List ℕ)
numbers_of [] = Some []
numbers_of (part ∷ parts) =
    option_and_then (λ number. option_map (λ numbers. number ∷ numbers) (numbers_of parts)) (source_number part)

-- an increasing list with one number more, unless it has that number
abbrev pub with_number : List ℕ → ℕ → List ℕ
with_number [] number = number ∷ []
with_number (first ∷ rest) number =
    if nat_lt first number then first ∷ with_number rest number
    else if first == number then first ∷ rest
    else number ∷ first ∷ rest

-- the distinct numbers, increasing
abbrev pub distinct : List ℕ → List ℕ
distinct numbers = fold with_number [] numbers

-- the sources that a text of 1 to 1,024 numbers with a comma between each two names, or None where it is no such text
unfoldable pub sources_in : Text → Option (List ℕ)
sources_in text =
    if nat_le (length (parts_of text)) 1024 then option_map distinct (numbers_of (parts_of text)) else None

-- the sources, where they are named
abbrev pub sources_named : Option Text → Option (Option (List ℕ))
sources_named None = Some None
sources_named (Some text) = option_map (λ sources. Some sources) (sources_in text)

-- the sources that are named, or vertex 0 alone
abbrev pub sources_asked : Split → Option (List ℕ)
sources_asked s = option_map meant (sources_named s.source)

-- ---- the tasks that solve a problem

abbrev pub task_of : Text → Option Task
task_of name =
    if bytes_eq name (codes "wbfs") then Some Wbfs
    else if bytes_eq name (codes "delta") then Some Delta
    else if bytes_eq name (codes "kcore") then Some Kcore
    else if bytes_eq name (codes "cover") then Some Cover
    else None

abbrev pub task_name : Task → Text
task_name Wbfs = codes "wbfs"
task_name Delta = codes "delta"
task_name Kcore = codes "kcore"
task_name Cover = codes "cover"

-- the least distances from the nearest source
abbrev pub distances_asked : Split → Option Problem
distances_asked s = option_map distances (sources_asked s)

-- neither `--source` nor `--delta` is there
abbrev pub has_no_source : Split → Bool
has_no_source s = is_absent s.source && is_absent s.delta

-- `--delta` is for the task delta alone, which requires it
abbrev pub problem_asked : Task → Split → Option Problem
problem_asked Wbfs s = if is_absent s.delta then distances_asked s else None
problem_asked Delta s = option_and_then (λ delta. distances_asked s) (delta_number s.delta)
problem_asked Kcore s = if has_no_source s then Some cores else None
problem_asked Cover s = if has_no_source s then Some cover else None

-- ---- a run over a graph file

-- the options of a demo alone are not there
abbrev pub has_no_generator : Split → Bool
has_no_generator s = is_absent s.n && is_absent s.pairs && is_absent s.seed

abbrev pub form_asked : Split → Form
form_asked s = if s.bare then bare else whole

abbrev pub asked_solve : Split → Text → Problem → Asked
asked_solve s graph problem = record { input = graph_file graph; work = solve problem (form_asked s) }

abbrev pub asked_run : Task → Text → Split → Option Asked
asked_run task graph s =
    if is_absent s.witness && has_no_generator s then option_map (asked_solve s graph) (problem_asked task s) else None

-- ---- a check, and an upgrade

-- the options that say how to work are not there
abbrev pub has_no_settings : Split → Bool
has_no_settings s = is_absent s.open_buckets && is_absent s.workers && is_absent s.chunk

-- nothing but sources may be said of a check or an upgrade
abbrev pub is_plain_check : Split → Bool
is_plain_check s = is_absent s.delta && not s.bare && has_no_settings s && has_no_generator s

-- the names don't both stand for standard input
abbrev pub are_two_files : Text → Text → Bool
are_two_files graph witness = not (bytes_eq graph (codes "-") && bytes_eq witness (codes "-"))

abbrev pub asked_files : Purpose → Text → Text → Option (List ℕ) → Asked
asked_files purpose graph witness sources =
    record { input = graph_file graph; work = judge purpose witness sources }

abbrev pub asked_judgement : Purpose → Text → Split → Text → Option Asked
asked_judgement purpose graph s witness =
    if are_two_files graph witness then option_map (asked_files purpose graph witness) (sources_named s.source) else None

abbrev pub asked_check : Purpose → Text → Split → Option Asked
asked_check purpose graph s =
    if is_plain_check s then option_and_then (asked_judgement purpose graph s) s.witness else None

-- ---- a demo

-- the graph that is to be made
abbrev pub generated_asked : Split → Option Input
generated_asked s =
    option_and_then (λ n. option_and_then (λ pairs. option_map (generated n pairs) (seed_number s.seed)) (pairs_number s.pairs))
    (n_number s.n)

abbrev pub asked_summary : Task → Split → Problem → Option Asked
asked_summary task s problem =
    option_map (λ input. record { input = input; work = solve problem (summary (task_name task)) }) (generated_asked s)

-- the second positional names the task of the demo
abbrev pub asked_demo : Text → Split → Option Asked
asked_demo name s =
    if is_absent s.witness && not s.bare
    then option_and_then (λ task. option_and_then (asked_summary task s) (problem_asked task s)) (task_of name)
    else None

-- ---- the words

abbrev pub asked_named : Text → Text → Split → Option Asked
asked_named name graph s = option_and_then (λ task. asked_run task graph s) (task_of name)

-- the words ask for a check, for an upgrade, for a demo, or for a task over a graph file
abbrev pub asked_as : Text → Text → Split → Option Asked
asked_as task graph s =
    if bytes_eq task (codes "check") then asked_check check graph s
    else if bytes_eq task (codes "upgrade") then asked_check upgrade graph s
    else if bytes_eq task (codes "demo") then asked_demo graph s
    else asked_named task graph s

-- what the split words ask for, or None where they aren't taken, as where a number that says how to work isn't in its range
unfoldable pub asked_split : Split → Option Asked
asked_split s =
    option_and_then (λ settings. option_and_then (λ task. option_and_then (λ graph. asked_as task graph s) s.graph) s.task)
    (settings_asked s)

-- what the words ask for, or None where they aren't taken
unfoldable pub asked : List Text → Option Asked
asked words = if is_counted_twice words then None else option_and_then asked_split (split words)
