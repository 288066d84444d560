-- Places that are found mirrored: each place from u to w takes an entry u in the row of w.
use Rattle.std.specs.Prelude.{◌≡◌, ◌≢◌, ℕ, ◌+◌, ◌-◌, ◌<◌, ◌≤◌, List, All, length, slice_index, slice_range, count_by, ◌==◌}
use Rattle.jul_base.specs.declared.graphs.RawGraph.{RawGraph}
use Rattle.jul_base.specs.Graph.{vertices, places, row_start, row_end, count}

-- how often x stands in the list from i to j
abbrev pub count_in : List ℕ → ℕ → ℕ → ℕ → ℕ
count_in xs i j x = count_by (λ y. y == x) (slice_range xs i j)

-- where the row of v starts and ends among the rows from that of `from` on
abbrev pub start_in : RawGraph → ℕ → ℕ → ℕ
start_in g from v = row_start g v - row_start g from

abbrev pub end_in : RawGraph → ℕ → ℕ → ℕ
end_in g from v = row_end g v - row_start g from

-- the list has the rows of a window, the vertices from `from` up to but not including `to`, one behind another, each in some order
pub record IsRearranged (g : RawGraph) (from to : ℕ) (mirror : List ℕ) : Type 0 where
  pub size : to < vertices g → row_start g from + length mirror ≡ row_start g to
  pub whole : vertices g ≤ to → row_start g from + length mirror ≡ places g
  pub counts : (v x : ℕ) → from ≤ v → v < to → v < vertices g → count_in mirror (start_in g from v) (end_in g from v) x ≡ count g v x

-- where each row of a window starts
pub record AreStarts (g : RawGraph) (from to : ℕ) (starts : List ℕ) : Type 0 where
  pub size : from + length starts ≡ to
  pub each : (k : ℕ) → k < length starts → slice_index starts k ≡ start_in g from (from + k)

-- marks of a window, the vertices from `from` on. Each of them above u took as many entries u of its row as it stands in this one:
-- those from its old mark to its new one, and no other entry is there
pub record HasTaken (u from : ℕ) (row mirror old new : List ℕ) : Type 0 where
  pub size : length new ≡ length old
  pub grows : (k : ℕ) → k < length old → slice_index old k ≤ slice_index new k
  pub within : (k : ℕ) → k < length old → slice_index new k ≤ length mirror
  pub taken :
      (k : ℕ) → k < length old → u < from + k → count_by (λ x. x == from + k) row ≡ count_in mirror (slice_index old k) (slice_index new k) u
  pub others : (k x : ℕ) → k < length old → x ≢ u → count_in mirror (slice_index old k) (slice_index new k) x ≡ 0

-- the places of the rows before v to greater vertices of the window took entries: of each those from the start of its row to its mark
pub record HaveTaken (g : RawGraph) (from to : ℕ) (mirror : List ℕ) (v : ℕ) (next : List ℕ) : Type 0 where
  pub size : from + length next ≡ to
  pub starts : (k : ℕ) → k < length next → start_in g from (from + k) ≤ slice_index next k
  pub within : (k : ℕ) → k < length next → slice_index next k ≤ length mirror
  pub taken :
      (u k : ℕ) → u < v → u < from + k → k < length next → count g u (from + k) ≡ count_in mirror (start_in g from (from + k)) (slice_index next k) u
  pub later : (u k : ℕ) → v ≤ u → k < length next → count_in mirror (start_in g from (from + k)) (slice_index next k) u ≡ 0

-- of each of so many vertices of the window no mark is past the end of its row, and what stands from there on is not below it
pub record AreUsedUp (g : RawGraph) (from : ℕ) (mirror next : List ℕ) (many : ℕ) : Type 0 where
  pub stay : (k : ℕ) → k < many → slice_index next k ≤ end_in g from (from + k)
  pub above : (k : ℕ) → k < many → All (λ x. from + k ≤ x) (slice_range mirror (slice_index next k) (end_in g from (from + k)))

-- each vertex of the window from `from` up to `to` and each lesser one stand in one another's row equally often
abbrev pub AreMirrored : RawGraph → ℕ → ℕ → Type 0
AreMirrored g from to = (u w : ℕ) → u < w → from ≤ w → w < to → w < vertices g → count g u w ≡ count g w u
