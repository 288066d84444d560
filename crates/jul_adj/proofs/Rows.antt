-- The reading of small files, computed. The places were counted by hand.
use Rattle.std.specs.Prelude.{◌≡◌, ℕ, true, false, List, [], ◌∷◌, Ok, Err, codes, refl}
use Rattle.jul_adj.specs.declared.faults.FaultKind.{FaultKind}
use Rattle.jul_adj.specs.declared.faults.FaultKind.TheVariants.{Header, BadNumber, TooManyVertices, TooManyEdges, FirstOffset, OffsetRange, OffsetOrder, TargetRange, NegativeWeight, WeightRange, Truncated, Trailing, TooLong}
use Rattle.jul_adj.specs.Reading.{reads}

abbrev is_fault : List ℕ → FaultKind → ℕ → ℕ → Type 0
is_fault bytes kind token at = reads bytes 1000 ≡ Err (record { kind = kind; token = token; at = at })

empty_file : is_fault [] Truncated 0 0
empty_file = refl

no_header : is_fault (codes "adjacencygraph 1 0 0") Header 0 0
no_header = refl

minus : is_fault (codes "AdjacencyGraph -1 0") BadNumber 1 15
minus = refl

too_many_vertices : is_fault (codes "AdjacencyGraph 16777217 0") TooManyVertices 1 15
too_many_vertices = refl

too_many_edges : is_fault (codes "AdjacencyGraph 1 134217729 0") TooManyEdges 2 17
too_many_edges = refl

first_offset : is_fault (codes "AdjacencyGraph 1 0 5") FirstOffset 3 19
first_offset = refl

offset_range : is_fault (codes "AdjacencyGraph 3 2 0 9 1 0 0") OffsetRange 4 21
offset_range = refl

offset_order : is_fault (codes "AdjacencyGraph 3 2 0 2 1 0 0") OffsetOrder 5 23
offset_order = refl

target_range : is_fault (codes "AdjacencyGraph 2 1 0 1 2") TargetRange 5 23
target_range = refl

negative_weight : is_fault (codes "WeightedAdjacencyGraph 2 1 0 1 1 -3") NegativeWeight 6 33
negative_weight = refl

negative_zero : is_fault (codes "WeightedAdjacencyGraph 2 1 0 1 1 -0") NegativeWeight 6 33
negative_zero = refl

weight_range : is_fault (codes "WeightedAdjacencyGraph 2 1 0 1 1 4294967296") WeightRange 6 33
weight_range = refl

truncated : is_fault (codes "WeightedAdjacencyGraph 2 1 0 1 1") Truncated 6 32
truncated = refl

trailing : is_fault (codes "AdjacencyGraph 2 1 0 1 1 7") Trailing 6 25
trailing = refl

-- the first of two faults is named
two_faults : is_fault (codes "AdjacencyGraph 2 1 7 1 9") FirstOffset 3 19
two_faults = refl

-- a target where there are no vertices
no_vertex : is_fault (codes "AdjacencyGraph 0 1 0") TargetRange 3 19
no_vertex = refl

no_vertex_truncated : is_fault (codes "AdjacencyGraph 0 1") Truncated 3 18
no_vertex_truncated = refl

-- 18 bytes, with a limit one below and at their number
too_long : reads (codes "AdjacencyGraph 0 0") 17 ≡ Err (record { kind = TooLong; token = 0; at = 17 })
too_long = refl

empty_graph : reads (codes "AdjacencyGraph 0 0") 18 ≡ Ok (record { weighted = false; offsets = []; targets = []; weights = [] })
empty_graph = refl

-- leading zeros, and tokens spread over lines by CR, LF and tabs
weighted_graph : reads (codes "WeightedAdjacencyGraph\r\n3 3\r\n0 02 2\t1 2 1\n5 1 002") 1000 ≡ Ok (record {
  weighted = true;
  offsets = 0 ∷ 2 ∷ 2 ∷ [];
  targets = 1 ∷ 2 ∷ 1 ∷ [];
  weights = 5 ∷ 1 ∷ 2 ∷ [];
})
weighted_graph = refl
