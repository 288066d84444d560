-- Vertices that walks from a source lead to.
use Rattle.std.specs.Prelude.{ℕ, Bool, false, List}
use Rattle.std.specs.List.{slice_index_or}
use Rattle.jul_base.specs.declared.graphs.RawGraph.{RawGraph}
use Rattle.jul_base.specs.Walks.{IsWalk}

-- whether v has a mark
abbrev pub mark_at : List Bool → ℕ → Bool
mark_at marks v = slice_index_or marks v false

-- a walk leads from the source to v
abbrev pub IsReached : RawGraph → ℕ → ℕ → Type 0
IsReached g source v = (ps : List ℕ) × IsWalk g source ps v
