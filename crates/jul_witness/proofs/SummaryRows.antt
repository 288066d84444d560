-- Summaries of small columns, computed. The lines were written by hand.
use Rattle.std.specs.Prelude.{◌≡◌, [], ◌∷◌, codes, refl}
use Rattle.std.specs.Bool.{⊤}
use Rattle.std.specs.Fmt.{digits}
use Rattle.jul_base.specs.declared.limits.TheConstants.{NONE}
use Rattle.jul_witness.specs.Summaries.{cores_summary, distances_summary, cover_summary}

unfoldable on_columns : ⊤
unfolding digits cores_summary distances_summary cover_summary
on_columns = tt

one_reached : distances_summary (codes "delta") 5 0 (0 ∷ NONE ∷ NONE ∷ NONE ∷ NONE ∷ []) ≡ codes "delta n 5 m 0 reached 1 max 0\n"
unfolding on_columns
one_reached = refl

greatest_distance : distances_summary (codes "wbfs") 4 6 (0 ∷ 120 ∷ NONE ∷ 13 ∷ []) ≡ codes "wbfs n 4 m 6 reached 3 max 120\n"
unfolding on_columns
greatest_distance = refl

top_core : cores_summary (codes "kcore") 4 8 (2 ∷ 2 ∷ 2 ∷ 1 ∷ []) ≡ codes "kcore n 4 m 8 max 2 top 3\n"
unfolding on_columns
top_core = refl

no_edges : cores_summary (codes "kcore") 2 0 (0 ∷ 0 ∷ []) ≡ codes "kcore n 2 m 0 max 0 top 2\n"
unfolding on_columns
no_edges = refl

two_chosen : cover_summary (codes "cover") 5 4 (0 ∷ 1 ∷ NONE ∷ NONE ∷ NONE ∷ []) (NONE ∷ NONE ∷ 0 ∷ 0 ∷ 1 ∷ []) ≡ codes "cover n 5 m 4 chosen 2 covered 3\n"
unfolding on_columns
two_chosen = refl
