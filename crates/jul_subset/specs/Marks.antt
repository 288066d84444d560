-- A mark for each vertex.
use Rattle.std.specs.Prelude.{ℕ, Bool, false, List, length}
use Rattle.std.specs.List.{filter, slice_index_or}
use Rattle.jul_base.specs.Numbers.{below}

-- whether v has a mark
abbrev pub mark_at : List Bool → ℕ → Bool
mark_at marks v = slice_index_or marks v false

-- the vertices that have a mark, in increasing order
abbrev pub marked : List Bool → List ℕ
marked marks = filter (mark_at marks) (below (length marks))
