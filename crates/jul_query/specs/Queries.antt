-- What is asked: where the graph comes from, and what is to be done with it.
use Rattle.std.specs.Prelude.{ℕ, List, [], ◌∷◌, Option, Some, None}

-- where the graph comes from: the file of a name, or the generator
pub data Input : Type 0 where
  graph_file : (name : List ℕ) → Input
  generated : (n : ℕ) → (pairs : ℕ) → (seed : ℕ) → Input

-- what is to be found of a graph: the least distances from the nearest of some sources, the coreness of each vertex, or a
-- cover of the elements by sets
pub data Problem : Type 0 where
  distances : (sources : List ℕ) → Problem
  cores : Problem
  cover : Problem

-- how a result is written: whole; bare, which is its first column alone; or as one line that begins with the name of a task
pub data Form : Type 0 where
  whole : Form
  bare : Form
  summary : (task : List ℕ) → Form

-- what is written of a witness that is accepted: `yes`, or its text as such texts are written today
pub data Purpose : Type 0 where
  check : Purpose
  upgrade : Purpose

-- what is to be done with a graph: a problem is solved and its result written in a form, or the witness file of a name is
-- judged, where the words may name sources
pub data Work : Type 0 where
  solve : (problem : Problem) → (form : Form) → Work
  judge : (purpose : Purpose) → (witness : List ℕ) → (sources : Option (List ℕ)) → Work

-- what the words ask for
pub record Asked : Type 0 where
  pub input : Input
  pub work : Work

-- the sources that are meant: vertex 0 alone where the words name none
abbrev pub meant : Option (List ℕ) → List ℕ
meant None = 0 ∷ []
meant (Some sources) = sources

-- ---- the files of a query

abbrev pub graph_name : Input → Option (List ℕ)
graph_name (graph_file name) = Some name
graph_name (generated n pairs seed) = None

abbrev pub witness_name : Work → Option (List ℕ)
witness_name (solve problem form) = None
witness_name (judge purpose witness sources) = Some witness
