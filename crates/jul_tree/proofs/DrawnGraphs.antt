-- The distances of the graphs of which trees were drawn by hand, computed.
use Rattle.std.proofs.Common.{◌≡◌, ℕ, ◌<◌, List, [], ◌∷◌, true, refl, subst, arith}
use Rattle.std.specs.List.{All}
use Rattle.std.proofs.lemmas.List.Elements.{All-nil, All-cons}
use Rattle.jul_base.specs.declared.graphs.RawGraph.{RawGraph}
use Rattle.jul_base.specs.declared.limits.TheConstants.{NONE}
use Rattle.jul_base.specs.Graph.{vertices, IsLawful}
use Rattle.jul_base.specs.Sources.{first_numbers}
use Rattle.jul_base.specs.Distances.{AreDistances}
use Rattle.jul_base.specs.DistanceList.{all_edges, relaxed_all, relaxed_times}
use Rattle.jul_base.proofs.DistanceListLaws.{relaxed_are_distances}

-- a ring of weight 0 from 2 to 0, to 1 and back to 2, with two vertices behind it
abbrev pub ring : RawGraph
ring = record {
  weighted = true;
  offsets = 0 ∷ 2 ∷ 4 ∷ 7 ∷ 8 ∷ 8 ∷ [];
  targets = 1 ∷ 4 ∷ 2 ∷ 3 ∷ 0 ∷ 3 ∷ 4 ∷ 4 ∷ 2 ∷ [];
  weights = 0 ∷ 5 ∷ 0 ∷ 5 ∷ 0 ∷ 5 ∷ 6 ∷ 0 ∷ 1 ∷ [];
}

-- from 0 to 1 and 2, from 1 to 3, and from 2 to 1
abbrev pub diamond : RawGraph
diamond = record {
  weighted = true;
  offsets = 0 ∷ 2 ∷ 3 ∷ 4 ∷ [];
  targets = 1 ∷ 2 ∷ 3 ∷ 1 ∷ [];
  weights = 9 ∷ 1 ∷ 5 ∷ 6 ∷ [];
}

-- what all edges relaxed some times give, and leave as it is, are the distances
relaxed : (h : RawGraph) (sources dist : List ℕ) (k : ℕ) → All (λ s. s < vertices h) sources → relaxed_times h k (first_numbers (vertices h) sources) ≡ dist → relaxed_all h (all_edges h) dist ≡ dist →
    (g : RawGraph) → g ≡ h → IsLawful g → (sources' dist' : List ℕ) → sources' ≡ sources → dist' ≡ dist → AreDistances g sources' dist'
relaxed h sources dist k within is stays g g_is lawful sources' dist' sources_are dist_is =
    let own : AreDistances h sources dist = relaxed_are_distances h (subst IsLawful g_is lawful) sources within k dist is stays in
    rw g_is (rw sources_are (rw dist_is own))

-- from 2 alone
pub from_two : (g : RawGraph) → g ≡ ring → IsLawful g → (sources dist : List ℕ) → sources ≡ 2 ∷ [] → dist ≡ 0 ∷ 0 ∷ 0 ∷ 5 ∷ 5 ∷ NONE ∷ [] → AreDistances g sources dist
from_two = relaxed ring (2 ∷ []) (0 ∷ 0 ∷ 0 ∷ 5 ∷ 5 ∷ NONE ∷ []) 2 (All-cons (λ s. s < 6) 2 [] (omega arith) (All-nil (λ s. s < 6))) refl refl

-- from 1 and 2
pub from_both : (g : RawGraph) → g ≡ ring → IsLawful g → (sources dist : List ℕ) → sources ≡ 1 ∷ 2 ∷ [] → dist ≡ 0 ∷ 0 ∷ 0 ∷ 5 ∷ 5 ∷ NONE ∷ [] → AreDistances g sources dist
from_both = relaxed ring (1 ∷ 2 ∷ []) (0 ∷ 0 ∷ 0 ∷ 5 ∷ 5 ∷ NONE ∷ []) 1
    (All-cons (λ s. s < 6) 1 (2 ∷ []) (omega arith) (All-cons (λ s. s < 6) 2 [] (omega arith) (All-nil (λ s. s < 6)))) refl refl

-- from 0 in the other graph
pub from_top : (g : RawGraph) → g ≡ diamond → IsLawful g → (sources dist : List ℕ) → sources ≡ 0 ∷ [] → dist ≡ 0 ∷ 7 ∷ 1 ∷ 12 ∷ [] → AreDistances g sources dist
from_top = relaxed diamond (0 ∷ []) (0 ∷ 7 ∷ 1 ∷ 12 ∷ []) 2 (All-cons (λ s. s < 4) 0 [] (omega arith) (All-nil (λ s. s < 4))) refl refl
