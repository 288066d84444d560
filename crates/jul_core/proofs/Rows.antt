-- Worked rows: rounds of small graphs, computed.
use Rattle.std.specs.Prelude.{◌≡◌, [], ◌∷◌, map, false, refl}
use Rattle.jul_base.specs.declared.graphs.RawGraph.{RawGraph}
use Rattle.jul_base.specs.declared.limits.TheConstants.{NONE}
use Rattle.jul_base.specs.Numbers.{below}
use Rattle.jul_base.specs.Levels.{peeling}
use Rattle.jul_core.specs.Peels.{place_in, draws_before}
use Rattle.jul_bucket.specs.Places.{ids_at}
use Rattle.jul_core.specs.PeelMoves.{moves_of}
use Rattle.jul_bucket.specs.Places.{emptied, set_places}

-- two triangles joined by an edge
abbrev joined : RawGraph
joined = record { weighted = false; offsets = 0 ∷ 2 ∷ 4 ∷ 7 ∷ 10 ∷ 12 ∷ []; targets = 1 ∷ 2 ∷ 0 ∷ 2 ∷ 0 ∷ 1 ∷ 3 ∷ 2 ∷ 4 ∷ 5 ∷ 3 ∷ 5 ∷ 3 ∷ 4 ∷ []; weights = [] }

-- the places before the first round, and what it does
at_first : map (place_in joined (peeling joined 0)) (below 6) ≡ 2 ∷ 2 ∷ 3 ∷ 3 ∷ 2 ∷ 2 ∷ []
at_first = refl

corners_drawn : ids_at (2 ∷ 2 ∷ 3 ∷ 3 ∷ 2 ∷ 2 ∷ []) 2 ≡ 0 ∷ 1 ∷ 4 ∷ 5 ∷ []
corners_drawn = refl

middle_moves : moves_of (NONE ∷ NONE ∷ 3 ∷ 3 ∷ NONE ∷ NONE ∷ []) 2 ((0, 1) ∷ (1, 1) ∷ (2, 2) ∷ (3, 2) ∷ (4, 1) ∷ (5, 1) ∷ []) ≡ (2, 2) ∷ (3, 2) ∷ []
middle_moves = refl

-- the middle has one place left and stays in bucket 2
then_middle : map (place_in joined (peeling joined 1)) (below 6) ≡ set_places (emptied (2 ∷ 2 ∷ 3 ∷ 3 ∷ 2 ∷ 2 ∷ []) 2) ((2, 2) ∷ (3, 2) ∷ [])
then_middle = refl

joined_draws : draws_before joined 2 ≡ record { bucket = 2; ids = 0 ∷ 1 ∷ 4 ∷ 5 ∷ [] } ∷ record { bucket = 2; ids = 2 ∷ 3 ∷ [] } ∷ []
joined_draws = refl

none_left : map (place_in joined (peeling joined 2)) (below 6) ≡ NONE ∷ NONE ∷ NONE ∷ NONE ∷ NONE ∷ NONE ∷ []
none_left = refl

-- a triangle with one vertex hanging on it: the bucket rises
abbrev hanging : RawGraph
hanging = record { weighted = false; offsets = 0 ∷ 2 ∷ 4 ∷ 7 ∷ []; targets = 1 ∷ 2 ∷ 0 ∷ 2 ∷ 0 ∷ 1 ∷ 3 ∷ 2 ∷ []; weights = [] }

hanging_draws : draws_before hanging 2 ≡ record { bucket = 1; ids = 3 ∷ [] } ∷ record { bucket = 2; ids = 0 ∷ 1 ∷ 2 ∷ [] } ∷ []
hanging_draws = refl

-- a self edge, and a repeated edge
abbrev self : RawGraph
self = record { weighted = false; offsets = 0 ∷ []; targets = 0 ∷ []; weights = [] }

self_draws : draws_before self 1 ≡ record { bucket = 1; ids = 0 ∷ [] } ∷ []
self_draws = refl

abbrev twice : RawGraph
twice = record { weighted = false; offsets = 0 ∷ 2 ∷ []; targets = 1 ∷ 1 ∷ 0 ∷ 0 ∷ []; weights = [] }

twice_draws : draws_before twice 1 ≡ record { bucket = 2; ids = 0 ∷ 1 ∷ [] } ∷ []
twice_draws = refl
