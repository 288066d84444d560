-- Where a tree starts: the sources alone, at 0.
use Rattle.std.proofs.Common.{◌≡◌, ◌≢◌, ℕ, ◌<◌, eqb, List, length, get_or, replicate, refl, ap, sym, ◌∙◌, subst, arith, inl, inr}
use Rattle.std.specs.Prelude.{Contains}
use Rattle.std.specs.List.{All}
use Rattle.std.proofs.lemmas.Bool.{cases_lt}
use Rattle.std.proofs.lemmas.List.{length-replicate, get_or-replicate, get_or_past}
use Rattle.std.proofs.lemmas.List.Sums.{count_by-le-length}
use Rattle.std.specs.List.Sorted.{IsStrictlyIncreasing}
use Rattle.jul_base.specs.declared.graphs.RawGraph.{RawGraph}
use Rattle.jul_base.specs.declared.limits.TheConstants.{NONE}
use Rattle.jul_base.specs.Graph.{vertices, IsLawful}
use Rattle.jul_base.specs.Sources.{AreSources}
use Rattle.jul_base.specs.Distances.{AreDistances}
use Rattle.jul_base.specs.Trees.{IsHopCount}
use Rattle.jul_base.proofs.SetLaws.{member_cases}
use Rattle.jul_words.specs.Seats.{Seat, floor_of, home, rooted}
use Rattle.jul_words.specs.Least.{word_of}
use Rattle.jul_edge.specs.EdgeMaps.{CanStamp}
use Rattle.jul_tree.specs.Hooking.{HasSet}
use Rattle.jul_tree.specs.Growing.{IsGrowing, IsSearching}
use Rattle.jul_tree.proofs.TightLaws.{source_in, count_source}

zeros_at : (n v : ℕ) → get_or {A = ℕ} (replicate n 0) v 0 ≡ 0
zeros_at n v = elim (cases_lt v n) [
  | inl lt ↦ get_or-replicate n v 0 0 lt
  | inr past ↦ get_or_past (replicate n 0) v 0 (omega (arith, past, length-replicate {A = ℕ} n 0))
]

module _ (g : RawGraph) (lawful : IsLawful g) (sources : List ℕ) (sources_in : All (λ s. s < vertices g) sources) (dist : List ℕ) (are : AreDistances g sources dist) (hops : List ℕ) (done : HasSet (replicate (vertices g) NONE) hops sources 0) where
  in_list : (v : ℕ) → v < vertices g → v < length (replicate (vertices g) NONE)
  in_list v lt = omega (arith, lt, length-replicate (vertices g) NONE)

  at_source : (v : ℕ) → v < vertices g → Contains sources v → get_or hops v 0 ≡ 0
  at_source v lt there = done.here v (in_list v lt) there

  at_other : (v : ℕ) → v < vertices g → (Contains sources v → ⊥) → get_or hops v 0 ≡ NONE
  at_other v lt other = done.kept v other ∙ get_or-replicate (vertices g) v NONE 0 lt

  -- what has hops is a source
  only_sources : (v : ℕ) → v < vertices g → get_or hops v 0 ≢ NONE → Contains sources v
  only_sources v lt some = elim (member_cases sources v) [ inl there ↦ there | inr other ↦ absurd (some (at_other v lt other)) ]

  pub begun : (words : ℕ → ℕ) → ((v : ℕ) → v < vertices g → words v ≡ NONE) → IsGrowing g sources dist hops sources 1 words
  begun words none = record {
    size = done.size ∙ length-replicate (vertices g) NONE;
    starts = λ s there. at_source s (source_in g lawful sources sources_in dist are s there) there;
    members_have = λ v there.
        let lt : v < vertices g = source_in g lawful sources sources_in dist are v there in
        (lt, omega (arith, at_source v lt there));
    members_are = λ v lt is. only_sources v lt (λ e. absurd (omega (arith, is, e)));
    few = λ v lt some. omega (arith, at_source v lt (only_sources v lt some));
    counts = λ v lt some.
        let there : Contains sources v = only_sources v lt some in
        subst (IsHopCount g sources v) (sym (at_source v lt there)) (count_source g lawful sources sources_in dist are v there);
    closed = λ u p at tight less. absurd (omega (arith, less));
    keys = λ v lt. record {
      none = λ _. none v lt;
      source = λ _. none v lt;
      parent = λ some more. absurd (more (at_source v lt (only_sources v lt some)));
    };
    bound = omega (arith, done.fewer, count_by-le-length (λ x. eqb x NONE) (replicate (vertices g) NONE), length-replicate (vertices g) NONE);
    some = omega arith;
  }

  pub begun_search : (table stamp_table : List ℕ) (seat stamp_seat : Seat) (members : List ℕ) →
      seat ≡ rooted (home table (replicate (vertices g) NONE) (replicate (vertices g) 0)) → members ≡ sources → IsStrictlyIncreasing sources → CanStamp (vertices g) stamp_table 1 stamp_seat →
      IsSearching g sources dist table stamp_table seat.home stamp_seat.home hops members seat stamp_seat 1
  begun_search table stamp_table seat stamp_seat members seat_is members_are up stamps = record {
    growing = subst (λ l. IsGrowing g sources dist hops l 1 (word_of seat)) (sym members_are)
        (begun (word_of seat) (λ v lt. ap (λ (s : Seat). word_of s v) seat_is ∙ get_or-replicate (vertices g) v NONE 0 lt));
    increasing = subst IsStrictlyIncreasing (sym members_are) up;
    home_is = refl;
    of_table = ap (λ (s : Seat). s.home.table) seat_is;
    words = ap (λ (s : Seat). length s.home.starts) seat_is ∙ length-replicate (vertices g) NONE;
    no_floors = λ v. ap (λ (s : Seat). floor_of s.home v) seat_is ∙ zeros_at (vertices g) v;
    alone = (ap (λ (s : Seat). s.root) seat_is, ap (λ (s : Seat). s.out) seat_is);
    stamps = stamps;
    stamp_home_is = refl;
  }

-- the same from what the loop's caller has
pub start_at : (g : RawGraph) → IsLawful g → (sources : List ℕ) → AreSources (vertices g) sources → (dist : List ℕ) → AreDistances g sources dist →
    (hops items : List ℕ) (m : ℕ) → hops ≡ items → m ≡ vertices g → HasSet (replicate m NONE) items sources 0 → (table stamp_table : List ℕ) (seat stamp_seat : Seat) (members : List ℕ) →
    seat ≡ rooted (home table (replicate (vertices g) NONE) (replicate (vertices g) 0)) → members ≡ sources →
    CanStamp (vertices g) stamp_table 1 stamp_seat → IsSearching g sources dist table stamp_table seat.home stamp_seat.home hops members seat stamp_seat 1
start_at g lawful sources are_sources dist are hops items m hops_is m_is done table stamp_table seat stamp_seat members seat_is members_are stamps =
    let done' : HasSet (replicate (vertices g) NONE) hops sources 0 =
    subst (λ l. HasSet (replicate (vertices g) NONE) l sources 0) (sym hops_is) (subst (λ k. HasSet (replicate k NONE) items sources 0) m_is done) in
    begun_search g lawful sources are_sources.within dist are hops done' table stamp_table seat stamp_seat members seat_is members_are are_sources.increasing stamps
