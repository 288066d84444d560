-- Symmetric graphs.
use Rattle.std.specs.Prelude.{◌≡◌, ℕ, ◌<◌}
use Rattle.jul_base.specs.declared.graphs.RawGraph.{RawGraph}
use Rattle.jul_base.specs.Numbers.{IsLeast}
use Rattle.jul_base.specs.Graph.{vertices, target, count, IsPlaceOf}

-- w stands in the row of u as often as u stands in that of w
abbrev pub IsSymmetric : RawGraph → Type 0
IsSymmetric g = (u w : ℕ) → u < vertices g → w < vertices g → count g u w ≡ count g w u

-- the place leads from some u to a w, and w stands in the row of u more often than u in that of w
abbrev pub IsAsymmetricPlace : RawGraph → ℕ → Type 0
IsAsymmetricPlace g p =
    (u : ℕ) × IsPlaceOf g u p × (count g (target g p) u < count g u (target g p))

abbrev pub IsFirstAsymmetricPlace : RawGraph → ℕ → Type 0
IsFirstAsymmetricPlace g = IsLeast (IsAsymmetricPlace g)
