-- What the checker tests of cores.
use Rattle.std.specs.Prelude.{ℕ, Bool, false, not, ◌&&◌, ◌||◌, List, [], ◌∷◌, slice_index, count_by, nat_lt, nat_le, ◌==◌}
use Rattle.std.specs.List.{list_any}
use Rattle.jul_base.specs.declared.graphs.RawGraph.{RawGraph}
use Rattle.jul_base.specs.declared.results.Cores.{Cores}
use Rattle.jul_base.specs.Numbers.{below}
use Rattle.jul_base.specs.Graph.{vertices, row}
use Rattle.jul_check.specs.declared.verdicts.Reason.{Reason}
use Rattle.jul_check.specs.declared.verdicts.Reason.TheVariants as reasons
use Rattle.jul_check.specs.declared.verdicts.Verdict.{Verdict}
use Rattle.jul_check.specs.Verdicts.{verdict_by}

abbrev pub core_of : Cores → ℕ → ℕ
core_of c v = slice_index c.core v

abbrev pub level_of : Cores → ℕ → ℕ
level_of c v = slice_index c.level v

-- by level, and by id where levels are equal
abbrev pub is_before : Cores → ℕ → ℕ → Bool
is_before c u v = nat_lt (level_of c u) (level_of c v) || ((level_of c u == level_of c v) && nat_lt u v)

-- how many entries of a row lead to vertices whose core is at least that of v
abbrev pub at_least : Cores → ℕ → List ℕ → ℕ
at_least c v ws = count_by (λ w. nat_le (core_of c v) (core_of c w)) ws

-- how many entries of a row lead to vertices that aren't before v
abbrev pub not_before : Cores → ℕ → List ℕ → ℕ
not_before c v ws = count_by (λ w. not (is_before c w v)) ws

-- whether some vertex below n stands before v and has a greater core
abbrev pub is_outranked : Cores → ℕ → ℕ → Bool
is_outranked c n v = list_any (λ u. is_before c u v && nat_lt (core_of c v) (core_of c u)) (below n)

abbrev pub fails_cores : RawGraph → Cores → ℕ → Reason → Bool
fails_cores g c v reasons.LowerBound = nat_lt (at_least c v (row g v)) (core_of c v)
fails_cores g c v reasons.UpperBound = nat_lt (core_of c v) (not_before c v (row g v))
fails_cores g c v reasons.Order = is_outranked c (vertices g) v
fails_cores g c v _ = false

-- the reasons in the order in which they are tried
abbrev pub core_reasons : List Reason
core_reasons = reasons.LowerBound ∷ reasons.UpperBound ∷ reasons.Order ∷ []

abbrev pub cores_verdict : RawGraph → Cores → Verdict
cores_verdict g c = verdict_by (vertices g) core_reasons (fails_cores g c)
