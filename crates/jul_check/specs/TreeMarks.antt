-- Marks on the vertices whose parents bear them out, as far as the rows were read.
use Rattle.std.specs.Prelude.{ℕ, ◌+◌, Bool, not, ◌&&◌, slice_index, nat_lt, ◌==◌}
use Rattle.std.specs.List.{list_any, range_with_len}
use Rattle.jul_base.specs.declared.graphs.RawGraph.{RawGraph}
use Rattle.jul_base.specs.declared.results.Distances.{Distances}
use Rattle.jul_base.specs.Graph.{row_start, target, weight}
use Rattle.jul_check.specs.Verdicts.{is_none}
use Rattle.jul_check.specs.DistanceChecks.{is_parent}

abbrev pub parent_of : Distances → ℕ → ℕ
parent_of d v = slice_index d.parent v

abbrev pub has_numbers : Distances → ℕ → Bool
has_numbers d u = not (is_none (slice_index d.dist u)) && not (is_none (slice_index d.hops u))

-- u is named as the parent of v, is one hop before it, and v's distance is w more
abbrev pub is_borne : Distances → ℕ → ℕ → ℕ → Bool
is_borne d u v w =
    (parent_of d v == u) && (slice_index d.dist u + w == slice_index d.dist v)
    && (slice_index d.hops u + 1 == slice_index d.hops v)

-- the parent of v is below u and bears v out
abbrev pub is_marked : RawGraph → Distances → ℕ → ℕ → Bool
is_marked g d u v = nat_lt (parent_of d v) u && is_parent g d v (parent_of d v)

-- u is the parent of v, and one of its first k places bears v out
abbrev pub is_marked_in_row : RawGraph → Distances → ℕ → ℕ → ℕ → Bool
is_marked_in_row g d u k v =
    list_any (λ p. (target g p == v) && is_borne d u v (weight g p)) (range_with_len (row_start g u) k)
