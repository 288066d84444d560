-- In-rows, distances, counts and sets of small graphs, computed.
use Rattle.std.specs.Prelude.{◌≡◌, true, false, [], ◌∷◌, refl}
use Rattle.jul_base.specs.declared.graphs.RawGraph.{RawGraph}
use Rattle.jul_base.specs.Graph.{count}
use Rattle.jul_base.specs.InRows.{in_places}
use Rattle.jul_base.specs.Sets.{set_of, sets_of}
use Rattle.jul_base.specs.declared.limits.TheConstants.{NONE}
use Rattle.jul_base.specs.Sources.{first_numbers}
use Rattle.jul_base.specs.DistanceList.{relaxed_times}

-- from 0 to 1 and 2, from 1 to 3, and from 2 to 1
abbrev diamond : RawGraph
diamond = record { weighted = true; offsets = 0 ∷ 2 ∷ 3 ∷ 4 ∷ []; targets = 1 ∷ 2 ∷ 3 ∷ 1 ∷ []; weights = 9 ∷ 1 ∷ 5 ∷ 6 ∷ [] }

into_one : in_places diamond 1 ≡ 0 ∷ 3 ∷ []
into_one = refl

into_none : in_places diamond 0 ≡ []
into_none = refl

-- from 0 vertex 1 has 9 at first, then 7 by way of 2; vertex 3 has 14, then 12
one_relaxation : relaxed_times diamond 1 (first_numbers 4 (0 ∷ [])) ≡ 0 ∷ 7 ∷ 1 ∷ 14 ∷ []
one_relaxation = refl

two_relaxations : relaxed_times diamond 2 (first_numbers 4 (0 ∷ [])) ≡ 0 ∷ 7 ∷ 1 ∷ 12 ∷ []
two_relaxations = refl

-- 3 is nearest to itself, and 0 has no walk to it from there
from_three : relaxed_times diamond 2 (first_numbers 4 (2 ∷ 3 ∷ [])) ≡ NONE ∷ 6 ∷ 0 ∷ 0 ∷ []
from_three = refl

-- one edge, and none back
abbrev one_way : RawGraph
one_way = record { weighted = false; offsets = 0 ∷ 1 ∷ []; targets = 1 ∷ []; weights = [] }

there : count one_way 0 1 ≡ 1
there = refl

not_back : count one_way 1 0 ≡ 0
not_back = refl

-- two edges each way
abbrev twice : RawGraph
twice = record { weighted = false; offsets = 0 ∷ 2 ∷ []; targets = 1 ∷ 1 ∷ 0 ∷ 0 ∷ []; weights = [] }

once_each : sets_of twice ≡ (1 ∷ []) ∷ (0 ∷ []) ∷ []
once_each = refl

-- two sets of five vertices, out of order and with a repeat
abbrev two_sets : RawGraph
two_sets = record { weighted = false; offsets = 0 ∷ 3 ∷ 5 ∷ 5 ∷ 5 ∷ []; targets = 3 ∷ 2 ∷ 3 ∷ 3 ∷ 4 ∷ []; weights = [] }

in_order : set_of two_sets 0 ≡ 2 ∷ 3 ∷ []
in_order = refl

second : set_of two_sets 1 ≡ 3 ∷ 4 ∷ []
second = refl
