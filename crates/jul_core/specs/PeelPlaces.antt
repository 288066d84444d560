-- The places of a graph, row by row, and those counted by a peeling.
use Rattle.jul_count.specs.Adds.{weight_from, add_weight}
use Rattle.std.specs.Prelude.{◌≡◌, ℕ, ◌<◌, ◌==◌, ◌&&◌, List, count_by}
use Rattle.std.specs.List.{sum_by}
use Rattle.jul_base.specs.declared.graphs.RawGraph.{RawGraph}
use Rattle.jul_base.specs.Numbers.{below}
use Rattle.jul_base.specs.Logs.{Entry, ADD}
use Rattle.jul_base.specs.Graph.{places, target}
use Rattle.jul_bucket.specs.declared.draws.Draw.{Draw}

-- the places from drawn vertices are all places, each once: they weigh as much, whatever the weight of each place
abbrev pub CountsEachPlace : RawGraph → List Draw → Type 0
CountsEachPlace g draws = (weight : ℕ → ℕ) → sum_by (λ (d : Draw). weight_from g weight d.ids) draws ≡ sum_by weight (below (places g))

-- the log has one add for each place from a drawn vertex
abbrev pub HasAddsOf : RawGraph → List Draw → List Entry → Type 0
HasAddsOf g draws log =
    (weight : ℕ → ℕ → ℕ) → sum_by (add_weight weight) log ≡ sum_by (λ (d : Draw). weight_from g (λ p. weight (target g p) p) d.ids) draws

-- how many adds of place p the log has, and how many of them name vertex v
abbrev pub adds_at : ℕ → List Entry → ℕ
adds_at p log = count_by (λ (e : Entry). (e.kind == ADD) && (e.number == p)) log

abbrev pub adds_of : ℕ → ℕ → List Entry → ℕ
adds_of v p log = count_by (λ (e : Entry). (e.kind == ADD) && ((e.vertex == v) && (e.number == p))) log

-- the log has exactly one add for each place, with its target, and no other add
pub record HasOneAddEach (g : RawGraph) (log : List Entry) : Type 0 where
  pub once : (p : ℕ) → p < places g → adds_at p log ≡ 1
  pub targets : (p : ℕ) → p < places g → adds_of (target g p) p log ≡ 1
  pub total : count_by (λ (e : Entry). e.kind == ADD) log ≡ places g
