-- How the members of a subset are kept.
use Rattle.std.specs.Prelude.{ℕ, ◌≡◌, List, Bool, true, false, length}
use Rattle.jul_subset.specs.Subsets.{Subset}
use Rattle.jul_subset.specs.Marks.{marked}
use Rattle.jul_subset.specs.declared.subsets.Kept.{Kept}
use Rattle.jul_subset.specs.declared.subsets.Kept.TheVariants.{Sparse, Dense}
use Rattle.jul_subset.specs.declared.subsets.VertexSubset.TheInside.{Inside}

abbrev pub members_of : Kept → List ℕ
members_of (Sparse ids) = ids.items
members_of (Dense len marks) = marked marks.items

abbrev pub is_marks : Kept → Bool
is_marks (Sparse ids) = false
is_marks (Dense len marks) = true

-- marks are as many as there are vertices, and their count is kept
abbrev pub FitsMarks : ℕ → Kept → Type 0
FitsMarks n (Sparse ids) = Unit {0}
FitsMarks n (Dense len marks) = (length marks.items ≡ n) × (len ≡ length (marked marks.items))

abbrev pub subset_of : Inside → Subset
subset_of s = record { n = s.n; members = members_of s.kept; dense = is_marks s.kept }
