-- How much there is to do along the rows of some vertices.
use Rattle.std.specs.Prelude.{ℕ, ◌+◌, List, length}
use Rattle.std.specs.List.{sum_by}
use Rattle.jul_base.specs.declared.graphs.RawGraph.{RawGraph}
use Rattle.jul_base.specs.Graph.{row}

-- the members and their places, counted
abbrev pub reach : RawGraph → List ℕ → ℕ
reach g members = length members + sum_by (λ u. length (row g u)) members
