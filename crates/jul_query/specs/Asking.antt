-- A query of the code stands for what the words ask for. The answer depends on nothing else of it.
use Rattle.std.specs.Prelude.{◌≡◌, ℕ, List, Option, Some, None, Vec}
use Rattle.std.specs.Global.{Global}
use Rattle.std.specs.Option.{option_map}
use Rattle.jul_query.specs.declared.queries.Query.{Query}
use Rattle.jul_query.specs.declared.queries.Input.{Input as InputOfQuery}
use Rattle.jul_query.specs.declared.queries.Input.TheVariants.{GraphFile, Generated}
use Rattle.jul_query.specs.declared.queries.Problem.{Problem as ProblemOfQuery}
use Rattle.jul_query.specs.declared.queries.Problem.TheVariants.{Distances, Cores, Cover}
use Rattle.jul_query.specs.declared.queries.Form.{Form as FormOfQuery}
use Rattle.jul_query.specs.declared.queries.Form.TheVariants.{Whole, Bare, Summary}
use Rattle.jul_query.specs.declared.queries.Purpose.{Purpose as PurposeOfQuery}
use Rattle.jul_query.specs.declared.queries.Purpose.TheVariants.{Check, Upgrade}
use Rattle.jul_query.specs.declared.queries.Work.{Work as WorkOfQuery}
use Rattle.jul_query.specs.declared.queries.Work.TheVariants.{Solve, Judge}
use Rattle.jul_query.specs.Queries.{Input, graph_file, generated, Problem, distances, cores, cover, Form, whole, bare, summary}
use Rattle.jul_query.specs.Queries.{Purpose, check, upgrade, Work, solve, judge, Asked}
use Rattle.jul_query.specs.Words.{task_name}

abbrev pub input_of : InputOfQuery → Input
input_of (GraphFile name) = graph_file name.now
input_of (Generated n pairs seed) = generated n pairs seed

abbrev pub problem_of : ProblemOfQuery → Problem
problem_of (Distances sources delta) = distances sources.items
problem_of Cores = cores
problem_of Cover = cover

abbrev pub form_of : FormOfQuery → Form
form_of Whole = whole
form_of Bare = bare
form_of (Summary task) = summary (task_name task)

abbrev pub purpose_of : PurposeOfQuery → Purpose
purpose_of Check = check
purpose_of Upgrade = upgrade

-- the sources that the words beside a witness name
abbrev pub named_sources : Option (Vec ℕ Global) → Option (List ℕ)
named_sources = option_map (λ sources. sources.items)

abbrev pub work_of : WorkOfQuery → Work
work_of (Solve problem form) = solve (problem_of problem) (form_of form)
work_of (Judge purpose witness sources) = judge (purpose_of purpose) witness.now (named_sources sources)

abbrev pub asked_of : InputOfQuery × WorkOfQuery → Asked
asked_of r = record { input = input_of r.0; work = work_of r.1 }

abbrev pub asked_by : Query → Asked
asked_by q = record { input = input_of q.input; work = work_of q.work }

abbrev pub IsAsked : Option Query → Option Asked → Type 0
IsAsked None asked = asked ≡ None
IsAsked (Some q) asked = asked ≡ Some (asked_by q)
