-- Small generated graphs, computed. The values were found by another implementation.
use Rattle.std.specs.Prelude.{◌≡◌, true, [], ◌∷◌, refl}
use Rattle.std.specs.Bool.{⊤}
use Rattle.jul_adj.specs.Spreading.{sorted_by}
use Rattle.jul_adj.specs.Generated.{word, next_state, drawn, graph_of, generated}

unfoldable on_graphs : ⊤
unfolding word next_state drawn graph_of sorted_by
on_graphs = tt

three_pairs : generated 4 3 7 ≡ record {
  weighted = true;
  offsets = 0 ∷ 1 ∷ 1 ∷ 4 ∷ [];
  targets = 3 ∷ 3 ∷ 2 ∷ 2 ∷ 0 ∷ 2 ∷ [];
  weights = 47 ∷ 6 ∷ 86 ∷ 86 ∷ 47 ∷ 6 ∷ [];
}
unfolding on_graphs
three_pairs = refl

-- the greatest seed, where the state wraps; a pair within one row stands there twice
greatest_seed : generated 3 4 18446744073709551615 ≡ record {
  weighted = true;
  offsets = 0 ∷ 3 ∷ 6 ∷ [];
  targets = 2 ∷ 0 ∷ 0 ∷ 2 ∷ 1 ∷ 1 ∷ 0 ∷ 1 ∷ [];
  weights = 2 ∷ 76 ∷ 76 ∷ 41 ∷ 28 ∷ 28 ∷ 2 ∷ 41 ∷ [];
}
unfolding on_graphs
greatest_seed = refl

no_pairs : generated 2 0 0 ≡ record { weighted = true; offsets = 0 ∷ 0 ∷ []; targets = []; weights = [] }
unfolding on_graphs
no_pairs = refl
