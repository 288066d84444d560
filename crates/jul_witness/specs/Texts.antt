-- The texts of results.
use Rattle.std.specs.Prelude.{ℕ, List, [], ◌∷◌, ◌++◌, map, length, slice_index, Option, Some, None, codes, decimal, ◌==◌, if◌then◌else◌}
use Rattle.std.specs.List.{flat_map}
use Rattle.jul_base.specs.declared.limits.TheConstants.{NONE}
use Rattle.jul_base.specs.declared.results.Cores.{Cores}
use Rattle.jul_base.specs.declared.results.Distances.{Distances}
use Rattle.jul_base.specs.declared.results.Cover.{Cover}
use Rattle.jul_base.specs.Numbers.{below}
use Rattle.jul_text.specs.Lines.{line_of}
use Rattle.jul_witness.specs.Forms.{word_of}
use Rattle.jul_witness.specs.declared.forms.Form.{Form}
use Rattle.jul_witness.specs.declared.forms.Form.TheVariants as forms
use Rattle.jul_witness.specs.declared.witnesses.Columns.{Columns}
use Rattle.jul_witness.specs.declared.witnesses.Columns.TheVariants as results
use Rattle.jul_witness.specs.declared.witnesses.Witness.{Witness}

-- a number without leading zeros, or a dash where there is none
abbrev pub value_text : ℕ → List ℕ
value_text value = if value == NONE then codes "-" else decimal value

abbrev pub bare_line : ℕ → List ℕ
bare_line value = value_text value ++ codes "\n"

-- the numbers of one column, each on a line
unfoldable pub bare_text : List ℕ → List ℕ
bare_text column = flat_map bare_line column

-- numbers on a line: a space behind each but the last, and LF behind that
abbrev pub values_line : List ℕ → List ℕ
values_line [] = codes "\n"
values_line (x ∷ []) = value_text x ++ codes "\n"
values_line (x ∷ y ∷ ys) = (value_text x ++ codes " ") ++ values_line (y ∷ ys)

-- numbers behind a first one on a line, each with a space before it
abbrev pub spaced_value : ℕ → List ℕ
spaced_value value = codes " " ++ value_text value

abbrev pub spaced_values : List ℕ → List ℕ
spaced_values values = flat_map spaced_value values

-- the line of a vertex: its number in each column
abbrev pub vertex_line : List (List ℕ) → ℕ → List ℕ
vertex_line columns v = values_line (map (λ column. slice_index column v) columns)

-- the lines of the first n vertices
abbrev pub vertex_lines : List (List ℕ) → ℕ → List ℕ
vertex_lines columns n = flat_map (vertex_line columns) (below n)

-- the first line and the second: a word, and the numbers of vertices and places
abbrev pub head_lines : Form → ℕ → ℕ → List ℕ
head_lines form n m = line_of (word_of form) ++ values_line (n ∷ m ∷ [])

-- the number of sources, and the sources
abbrev pub sources_line : List ℕ → List ℕ
sources_line sources = values_line (length sources ∷ sources)

-- the first two lines, those of the sources, and a line for each vertex
abbrev pub result_text : Form → ℕ → ℕ → List ℕ → List (List ℕ) → List ℕ
result_text form n m named columns = head_lines form n m ++ (named ++ vertex_lines columns n)

unfoldable pub cores_text : ℕ → Cores → List ℕ
cores_text m c = result_text forms.Cores (length c.core) m [] (c.core ∷ c.level ∷ [])

unfoldable pub distances_text : ℕ → List ℕ → Distances → List ℕ
distances_text m sources d = result_text forms.Distances (length d.dist) m (sources_line sources) (d.dist ∷ d.hops ∷ d.parent ∷ [])

unfoldable pub cover_text : ℕ → Cover → List ℕ
cover_text m c = result_text forms.Cover (length c.round) m [] (c.round ∷ c.by ∷ [])

-- the text of a result, whichever it is, of a graph of m places; only distances have sources
abbrev pub columns_text : ℕ → List ℕ → Columns → List ℕ
columns_text m sources (results.Cores c) = cores_text m c
columns_text m sources (results.Distances d) = distances_text m sources d
columns_text m sources (results.Cover c) = cover_text m c

-- what such a text is read back as
abbrev pub sources_of : List ℕ → Columns → Option (List ℕ)
sources_of sources (results.Cores c) = None
sources_of sources (results.Distances d) = Some sources
sources_of sources (results.Cover c) = None

abbrev pub witness_of_columns : ℕ → List ℕ → Columns → Witness
witness_of_columns m sources result = record { places = Some m; sources = sources_of sources result; columns = result }
