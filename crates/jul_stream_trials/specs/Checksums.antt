-- A number that stands for the lists of a graph.
use Rattle.std.specs.Prelude.{ℕ, ◌+◌, ◌*◌, ◌%◌, List, [], ◌∷◌}
use Rattle.jul_base.specs.declared.graphs.RawGraph.{RawGraph}
use Rattle.jul_stream_trials.specs.declared.checksums.TheConstants.{MODULUS, BASE}

-- the sum of numbers behind those that gave the start
abbrev pub sum_from : ℕ → List ℕ → ℕ
sum_from start [] = start
sum_from start (x ∷ xs) = sum_from ((start * BASE + x) % MODULUS) xs

-- over the offsets, the targets and the weights
abbrev pub checksum_of : RawGraph → ℕ
checksum_of g = sum_from (sum_from (sum_from 0 g.offsets) g.targets) g.weights
