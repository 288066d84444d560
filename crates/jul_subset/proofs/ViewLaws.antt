-- Subsets by their parts.
use Rattle.std.proofs.Common.{◌≡◌, ℕ, Bool, List}
use Rattle.jul_subset.specs.Subsets.{Subset}

-- a subset of equal parts
pub same_parts : (s : Subset) (n m : ℕ) (xs ys : List ℕ) (dense : Bool) → s ≡ record { n = n; members = xs; dense = dense } → n ≡ m → xs ≡ ys → s ≡ record { n = m; members = ys; dense = dense }
same_parts s n m xs ys dense is same_n same_xs = cc
