-- The definitions on small graphs, computed.
use Rattle.std.specs.Prelude.{◌≡◌, true, false, [], ◌∷◌, refl}
use Rattle.jul_base.specs.declared.graphs.RawGraph.{RawGraph}
use Rattle.jul_base.specs.Graph.{row, row_end, count}
use Rattle.jul_base.specs.Walks.{walk_sum}

-- two ways from 0 to 1: the edge of weight 5, and by way of 2
abbrev two_ways : RawGraph
two_ways = record { weighted = true; offsets = 0 ∷ 2 ∷ 2 ∷ []; targets = 1 ∷ 2 ∷ 1 ∷ []; weights = 5 ∷ 1 ∷ 2 ∷ [] }

row_of_source : row two_ways 0 ≡ 1 ∷ 2 ∷ []
row_of_source = refl

row_of_sink : row two_ways 1 ≡ []
row_of_sink = refl

last_row_ends : row_end two_ways 2 ≡ 3
last_row_ends = refl

direct : walk_sum two_ways (0 ∷ []) ≡ 5
direct = refl

by_way_of_two : walk_sum two_ways (1 ∷ 2 ∷ []) ≡ 3
by_way_of_two = refl

-- two vertices with two edges each way, without weights
abbrev repeated : RawGraph
repeated = record { weighted = false; offsets = 0 ∷ 2 ∷ []; targets = 1 ∷ 1 ∷ 0 ∷ 0 ∷ []; weights = [] }

both_count : count repeated 0 1 ≡ 2
both_count = refl
