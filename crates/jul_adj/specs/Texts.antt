-- The text of a graph: each token of its file, on a line of its own.
use Rattle.std.specs.Prelude.{List, ℕ, ◌∷◌, ◌++◌, map, decimal, if◌then◌else◌}
use Rattle.std.specs.List.{flat_map}
use Rattle.jul_base.specs.declared.graphs.RawGraph.{RawGraph}
use Rattle.jul_base.specs.Graph.{vertices, places}
use Rattle.jul_text.specs.Lines.{line_of}
use Rattle.jul_adj.specs.Roles.{plain_word, weighted_word}

-- the word that the file begins with
abbrev pub header_word : RawGraph → List ℕ
header_word g = if g.weighted then weighted_word else plain_word

-- numbers, each on a line
abbrev pub number_lines : List ℕ → List ℕ
number_lines xs = flat_map line_of (map decimal xs)

-- the first three tokens, each on a line
abbrev pub size_lines : RawGraph → List ℕ
size_lines g = line_of (header_word g) ++ line_of (decimal (vertices g)) ++ line_of (decimal (places g))

-- the tokens of the file, in order
abbrev pub graph_tokens : RawGraph → List (List ℕ)
graph_tokens g =
    header_word g ∷ decimal (vertices g) ∷ decimal (places g)
    ∷ (map decimal g.offsets ++ (map decimal g.targets ++ map decimal g.weights))

-- the text: each token and LF behind it
unfoldable pub graph_text : RawGraph → List ℕ
graph_text g = flat_map line_of (graph_tokens g)
