-- The marks of a cover's check, row by row.
use Rattle.std.specs.Prelude.{ℕ, Bool, ◌&&◌, ◌||◌, List, take, nat_lt, ◌==◌}
use Rattle.std.specs.List.{list_any}
use Rattle.jul_base.specs.declared.graphs.RawGraph.{RawGraph}
use Rattle.jul_base.specs.declared.results.Cover.{Cover}
use Rattle.jul_base.specs.Numbers.{below}
use Rattle.jul_base.specs.Graph.{vertices, row}
use Rattle.jul_base.specs.Sets.{has}
use Rattle.jul_check.specs.declared.cover_marks.Marks.{Marks}
use Rattle.jul_check.specs.CoverChecks.{by_of}
use Rattle.jul_check.specs.Marks.{AreMarks}

-- whether v stands in one of the first s rows, or in the list behind them
abbrev pub is_seen : RawGraph → ℕ → List ℕ → ℕ → Bool
is_seen g s ws v = list_any (λ r. has (row g r) v) (take s (below (vertices g))) || has ws v

-- the same of the row alone that is said to cover v, where the list behind the first s rows is of row s
abbrev pub is_held : RawGraph → Cover → ℕ → List ℕ → ℕ → Bool
is_held g c s ws v = (nat_lt (by_of c v) s && has (row g (by_of c v)) v) || ((by_of c v == s) && has ws v)

-- two marks for each vertex, as the first s rows and a part of row s have them
pub record AreCoverMarks (g : RawGraph) (c : Cover) (s : ℕ) (ws : List ℕ) (elements helds : List Bool) : Type 0 where
  pub element : AreMarks (vertices g) (is_seen g s ws) elements
  pub held : AreMarks (vertices g) (is_held g c s ws) helds

abbrev pub HasMarked : RawGraph → Cover → ℕ → List ℕ → Marks → Type 0
HasMarked g c s ws marks = AreCoverMarks g c s ws marks.element.items marks.held.items
