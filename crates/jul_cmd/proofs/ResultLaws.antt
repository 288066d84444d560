-- Results that are written whole: they can be written, and a check accepts them.
use Rattle.std.proofs.Common.{◌≡◌, ◌≢◌, ℕ, ◌<◌, ◌≤◌, List, get_or, Option, Some, None, Ok, refl, sym, ◌∙◌, ap, arith, MatchOption}
use Rattle.std.proofs.lemmas.List.Elements.{All-contains, All-from_get_or}
use Rattle.jul_base.specs.declared.graphs.RawGraph.{RawGraph}
use Rattle.jul_base.specs.declared.limits.TheConstants.{NONE}
use Rattle.jul_base.specs.declared.results.Cores.{Cores}
use Rattle.jul_base.specs.declared.results.Distances.{Distances}
use Rattle.jul_base.specs.declared.results.Cover.{Cover}
use Rattle.jul_base.specs.Sets.{sets_of}
use Rattle.jul_base.specs.CoverRounds.{IsCover}
use Rattle.jul_base.proofs.SetLaws.{length-sets_of}
use Rattle.jul_base.specs.Graph.{vertices, places, target, count, IsLawful}
use Rattle.jul_base.specs.Symmetry.{IsSymmetric, IsFirstAsymmetricPlace}
use Rattle.jul_base.proofs.GraphLaws.{place_in_range, target_in_range}
use Rattle.jul_base.specs.Coreness.{IsCoreness, inner_degree}
use Rattle.jul_base.specs.Levels.{IsLevel, peeling, taken}
use Rattle.jul_base.specs.Trees.{AreTree}
use Rattle.jul_base.proofs.PeelLaws.{has-from_Contains}
use Rattle.jul_core.specs.Peels.{AreCores}
use Rattle.jul_core.proofs.StageLaws.{inner_degree-few, taken-is}
use Rattle.jul_core.proofs.DrawLaws.{rounds-few}
use Rattle.jul_witness.specs.declared.witnesses.Columns.{Columns}
use Rattle.jul_witness.specs.declared.witnesses.Columns.TheVariants as results
use Rattle.jul_witness.specs.Lawful.{AreLawfulCores, AreLawfulDistances, IsLawfulCover}
use Rattle.jul_witness.specs.Texts.{columns_text}
use Rattle.jul_check.specs.declared.verdicts.Verdict.{Verdict}
use Rattle.jul_check.specs.declared.verdicts.Verdict.TheVariants.{Yes}
use Rattle.jul_check.proofs.CoreAcceptLaws.{peeled_accepted}
use Rattle.jul_check.proofs.DistanceAcceptLaws.{tree_accepted}
use Rattle.jul_check.proofs.CoverAcceptLaws.{rounds_accepted}
use Rattle.jul_cmd.specs.declared.statuses.Status.{Status}
use Rattle.jul_query.specs.Queries.{Problem, distances, cores, cover}
use Rattle.jul_cmd.specs.Suited.{refusal_of_sources, IsSuited}
use Rattle.jul_cmd.specs.Checking.{size_of, judged}
use Rattle.jul_cmd.specs.Solving.{IsResult, sources_of, IsWholeText}
use Rattle.jul_cmd.proofs.SourceLaws.{sources_within}
use Rattle.jul_cmd.proofs.VerdictLaws.{judged-cores, judged-cover, judged-distances, IsReadBack, accepted_text}

-- ---- a symmetric graph is suited

pub symmetric_suited : (g : RawGraph) → IsLawful g → IsSymmetric g → IsSuited g cores
symmetric_suited g lawful symmetric status (p, first, is) =
    let (u, from, more) = first.holds in
    let same : count g u (target g p) ≡ count g (target g p) u =
    symmetric u (target g p) from.vertex (target_in_range g lawful p (place_in_range g lawful u p from)) in
    absurd (omega (arith, more, same))

-- no first asymmetric place was found
pub none_asymmetric : (g : RawGraph) (found : Option ℕ) → found ≡ None → MatchOption found (IsSymmetric g) (IsFirstAsymmetricPlace g) → IsSymmetric g
none_asymmetric g None e symmetric = symmetric
none_asymmetric g (Some p) e first = absurd (cc)

-- ---- the numbers of cores are all there

core_some : (g : RawGraph) → IsLawful g → (v k : ℕ) → IsCoreness g v k → k ≢ NONE
core_some g lawful v k is none =
    let (s, core, there) = is.holds in
    let le : k ≤ inner_degree g s v = All-contains (λ u. k ≤ inner_degree g s u) s v core.degrees there in
    absurd (omega (arith, le, inner_degree-few g lawful s v, none))

level_some : (g : RawGraph) → IsLawful g → (v t : ℕ) → IsLevel g v t → t ≢ NONE
level_some g lawful v t is none =
    let left = (taken-is g (peeling g t) v (has-from_Contains (taken g (peeling g t)) v is)).0 in
    let few : t < vertices g = rounds-few g t v left in
    absurd (omega (arith, few, lawful.few_vertices, none))

pub cores_result : (g : RawGraph) (c : Cores) → AreCores g c → IsResult g cores (results.Cores c)
cores_result g c are = (record { size = are.core_size; each = are.cores }, record { size = are.level_size; each = are.levels })

pub cores_lawful : (g : RawGraph) → IsLawful g → (c : Cores) → IsResult g cores (results.Cores c) → AreLawfulCores c
cores_lawful g lawful c (core, level) = record {
  few = omega (arith, core.size, lawful.few_vertices);
  level = level.size ∙ sym core.size;
  cores = All-from_get_or (λ x. x ≢ NONE) c.core 0 (λ v lt. core_some g lawful v (get_or c.core v 0) (core.each v (omega (arith, lt, core.size))));
  levels = All-from_get_or (λ x. x ≢ NONE) c.level 0 (λ v lt. level_some g lawful v (get_or c.level v 0) (level.each v (omega (arith, lt, level.size))));
}

-- ---- the columns of distances have one length

pub tree_lawful : (g : RawGraph) → IsLawful g → (sources : List ℕ) (d : Distances) → AreTree g sources d.dist d.hops d.parent → AreLawfulDistances d
tree_lawful g lawful sources d tree = record {
  few = omega (arith, tree.distances.size, lawful.few_vertices);
  hops = tree.hop_counts.size ∙ sym tree.distances.size;
  parent = tree.parents.size ∙ sym tree.distances.size;
}

-- ---- so have those of a cover

pub cover_lawful : (g : RawGraph) → IsLawful g → (c : Cover) → IsCover (sets_of g) c → IsLawfulCover c
cover_lawful g lawful c is = record {
  few = omega (arith, is.round.size, length-sets_of g, lawful.few_vertices);
  by = is.by.size ∙ sym is.round.size;
}

-- ---- a check says yes

none_from : (o : Option Status) → ((status : Status) → o ≡ Some status → ⊥) → o ≡ None
none_from None other = refl
none_from (Some status) other = absurd (other status refl)

size_is : (g : RawGraph) (problem : Problem) (columns : Columns) → IsResult g problem columns → size_of columns ≡ vertices g
size_is g (distances sources) (results.Distances d) tree = tree.distances.size
size_is g (distances sources) (results.Cores c) none = absurd none
size_is g (distances sources) (results.Cover c) none = absurd none
size_is g cover (results.Cover c) found = found.rounds.round.size ∙ length-sets_of g
size_is g cover (results.Cores c) none = absurd none
size_is g cover (results.Distances d) none = absurd none
size_is g cores (results.Cores c) (core, level) = core.size
size_is g cores (results.Distances d) none = absurd none
size_is g cores (results.Cover c) none = absurd none

judged_yes : (g : RawGraph) → IsLawful g → (problem : Problem) (columns : Columns) → IsSuited g problem → IsResult g problem columns → judged g (sources_of problem) columns ≡ Ok Yes
judged_yes g lawful (distances sources) (results.Distances d) suited tree =
    let inside : refusal_of_sources (vertices g) sources ≡ None = none_from (refusal_of_sources (vertices g) sources) suited in
    judged-distances g sources (results.Distances d) d refl inside
    ∙ ap (λ (v : Verdict). Ok v) (tree_accepted g sources d lawful (sources_within (vertices g) sources inside) tree)
judged_yes g lawful (distances sources) (results.Cores c) suited none = absurd none
judged_yes g lawful (distances sources) (results.Cover c) suited none = absurd none
judged_yes g lawful cover (results.Cover c) suited found =
    judged-cover g (sources_of cover) (results.Cover c) c refl ∙ ap (λ (v : Verdict). Ok v) (rounds_accepted g c found.rounds)
judged_yes g lawful cover (results.Cores c) suited none = absurd none
judged_yes g lawful cover (results.Distances d) suited none = absurd none
judged_yes g lawful cores (results.Cores c) suited (core, level) =
    judged-cores g (sources_of cores) (results.Cores c) c refl ∙ ap (λ (v : Verdict). Ok v) (peeled_accepted g lawful c core level)
judged_yes g lawful cores (results.Distances d) suited none = absurd none
judged_yes g lawful cores (results.Cover c) suited none = absurd none

-- the text of a result is one that a check accepts
pub whole_text : (g : RawGraph) → IsLawful g → (problem : Problem) (columns : Columns) (m : ℕ) (sources : List ℕ) → IsSuited g problem → IsResult g problem columns → m ≡ places g → sources ≡ sources_of problem →
    IsReadBack m sources columns → IsWholeText g problem (columns_text m sources columns)
whole_text g lawful problem columns m sources suited is em same read = record {
  columns = columns;
  is_result = is;
  is_text = ap (λ k. columns_text k sources columns) em ∙ ap (λ s. columns_text (places g) s columns) same;
  accepted = accepted_text g m sources columns em (size_is g problem columns is) (ap (λ s. judged g s columns) same ∙ judged_yes g lawful problem columns suited is) read;
}
