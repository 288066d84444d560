-- The graph that is generated from a seed.
use Rattle.std.specs.Prelude.{ℕ, zero, suc, true, ◌+◌, ◌-◌, ◌*◌, ◌%◌, min, List, [], ◌∷◌, ◌++◌, map}
use Rattle.rand_xoshiro.specs.SplitMix64.{mix_u64}
use Rattle.jul_base.specs.Numbers.{below}
use Rattle.jul_base.specs.declared.graphs.RawGraph.{RawGraph}
use Rattle.jul_adj.specs.declared.drawing.Entry.{Entry}
use Rattle.jul_adj.specs.Spreading.{sorted_by, start_of}

-- the word that SplitMix64 gives at a state, and its next state; it starts at the seed
unfoldable pub word : ℕ → ℕ
word state = (mix_u64 state).0

unfoldable pub next_state : ℕ → ℕ
next_state state = (mix_u64 state).1

-- three words give a pair of vertices with a weight: an entry in the row of each, that of the first vertex first
abbrev pub pair_of : ℕ → ℕ → ℕ → ℕ → List Entry
pair_of n x y z =
    record { row = x % n; target = y % n; weight = 1 + z % 100 } ∷ record { row = y % n; target = x % n; weight = 1 + z % 100 } ∷ []

-- the entries of the pair that is drawn at a state, and the state after it
abbrev pub pair_at : ℕ → ℕ → List Entry
pair_at n state = pair_of n (word state) (word (next_state state)) (word (next_state (next_state state)))

abbrev pub after_pair : ℕ → ℕ
after_pair state = next_state (next_state (next_state state))

-- the state after some pairs
unfoldable pub state_at : ℕ → ℕ → ℕ
state_at zero state = state
state_at (suc pairs) state = state_at pairs (after_pair state)

-- the entries of some pairs, in the order in which they are drawn
unfoldable pub drawn : ℕ → ℕ → ℕ → List Entry
drawn n zero state = []
drawn n (suc pairs) state = pair_at n state ++ drawn n pairs (after_pair state)

-- those of the pairs that a chunk has, where each chunk but the last has so many
abbrev pub drawn_in : ℕ → ℕ → ℕ → ℕ → ℕ → List Entry
drawn_in n pairs seed size chunk = drawn n (min size (pairs - chunk * size)) (state_at (chunk * size) seed)

-- the weighted graph of n vertices whose rows have these entries, each row in the order in which they are given
unfoldable pub graph_of : ℕ → List Entry → RawGraph
graph_of n entries = record {
  weighted = true;
  offsets = map (start_of (λ e. e.row) entries) (below n);
  targets = map (λ e. e.target) (sorted_by (λ e. e.row) n entries);
  weights = map (λ e. e.weight) (sorted_by (λ e. e.row) n entries);
}

abbrev pub generated : ℕ → ℕ → ℕ → RawGraph
generated n pairs seed = graph_of n (drawn n pairs seed)
