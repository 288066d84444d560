use Rattle.std.proofs.Common.{◌==◌, ℕ, ◌<◌, length, slice_index, All}
use Rattle.std.proofs.lemmas.List.Filters.{FiltersInPlace}
use Rattle.jul_bucket.proofs.gathering.keep_current.Given as goal

abbrev pub invariant-loop-i : goal.invariant-loop-i
invariant-loop-i l = FiltersInPlace (λ (id : ℕ). slice_index l.ranks id == l.rank) l.initial.copies l.copies l.kept l.i × All (λ (id : ℕ). id < length l.ranks) l.copies
