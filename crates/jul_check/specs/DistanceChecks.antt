-- What the checker tests of distances from a list of sources. No sum wraps.
use Rattle.std.specs.Prelude.{ℕ, ◌+◌, ◌-◌, Bool, false, not, ◌&&◌, ◌||◌, List, [], ◌∷◌, slice_index, nat_lt, ◌==◌}
use Rattle.std.specs.List.{list_any, range_with_len}
use Rattle.jul_base.specs.declared.graphs.RawGraph.{RawGraph}
use Rattle.jul_base.specs.declared.results.Distances.{Distances}
use Rattle.jul_base.specs.Graph.{vertices, row_start, row_end, target, weight}
use Rattle.jul_base.specs.Sets.{has}
use Rattle.jul_check.specs.declared.verdicts.Reason.{Reason}
use Rattle.jul_check.specs.declared.verdicts.Reason.TheVariants as reasons
use Rattle.jul_check.specs.declared.verdicts.Verdict.{Verdict}
use Rattle.jul_check.specs.Verdicts.{is_none, verdict_by}

-- the places of a vertex
abbrev pub places_of : RawGraph → ℕ → List ℕ
places_of g v = range_with_len (row_start g v) (row_end g v - row_start g v)

-- place p of v leads to a vertex that has no number, or a greater one than along p
abbrev pub is_lowered : RawGraph → List ℕ → ℕ → ℕ → Bool
is_lowered g dist v p =
    is_none (slice_index dist (target g p)) || nat_lt (slice_index dist v + weight g p) (slice_index dist (target g p))

-- some place of v lowers the number of its target
abbrev pub is_lowerable : RawGraph → List ℕ → ℕ → Bool
is_lowerable g dist v = list_any (is_lowered g dist v) (places_of g v)

-- place p of u leads to v, and v's number is that along p
abbrev pub is_tight : RawGraph → List ℕ → ℕ → ℕ → ℕ → Bool
is_tight g dist u v p = (target g p == v) && (slice_index dist u + weight g p == slice_index dist v)

-- u is a vertex with numbers, and one of its places ends a walk of v's distance and hops
abbrev pub is_parent : RawGraph → Distances → ℕ → ℕ → Bool
is_parent g d v u =
    nat_lt u (vertices g) && not (is_none (slice_index d.dist u)) && not (is_none (slice_index d.hops u))
    && list_any (is_tight g d.dist u v) (places_of g u) && (slice_index d.hops u + 1 == slice_index d.hops v)

abbrev pub is_reached : Distances → ℕ → Bool
is_reached d v = not (is_none (slice_index d.dist v))

-- whether hops and parent of v bear its distance out
abbrev pub has_parent : RawGraph → Distances → ℕ → Bool
has_parent g d v =
    not (is_none (slice_index d.hops v)) && not (is_none (slice_index d.parent v)) && is_parent g d v (slice_index d.parent v)

-- each line says where v fails a reason; is_source tells whether it is a source
abbrev pub fails_as : RawGraph → Bool → Distances → ℕ → Reason → Bool
fails_as g is_source d v reasons.Source =
    is_source && not ((slice_index d.dist v == 0) && (slice_index d.hops v == 0) && is_none (slice_index d.parent v))
fails_as g is_source d v reasons.Lowerable = is_reached d v && is_lowerable g d.dist v
fails_as g is_source d v reasons.Parent = not is_source && is_reached d v && not (has_parent g d v)
fails_as g is_source d v reasons.Unreached =
    not is_source && not (is_reached d v) && not (is_none (slice_index d.hops v) && is_none (slice_index d.parent v))
fails_as g is_source d v _ = false

abbrev pub fails_distances : RawGraph → List ℕ → Distances → ℕ → Reason → Bool
fails_distances g sources d v = fails_as g (has sources v) d v

-- the reasons in the order in which they are tried
abbrev pub distance_reasons : List Reason
distance_reasons = reasons.Source ∷ reasons.Lowerable ∷ reasons.Parent ∷ reasons.Unreached ∷ []

-- the least vertex that fails, and its first reason
abbrev pub distances_verdict : RawGraph → List ℕ → Distances → Verdict
distances_verdict g sources d = verdict_by (vertices g) distance_reasons (fails_distances g sources d)
