use Rattle.std.proofs.Common.{ℕ, ◌<◌, length}
use Rattle.std.specs.List.{All}
use Rattle.std.proofs.lemmas.List.Filters.{FiltersInPlace}
use Rattle.jul_cover.specs.PackedSets.{is_open}
use Rattle.jul_cover.proofs.packing.keep_open.Given as goal

abbrev pub invariant-loop-i : goal.invariant-loop-i
invariant-loop-i l = FiltersInPlace (is_open l.by) l.initial.elements l.elements l.kept l.i × All (λ (e : ℕ). e < length l.by) l.elements
