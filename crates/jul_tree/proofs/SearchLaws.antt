-- A round in the terms of the loop, where it starts, and what is left at its end.
use Rattle.std.proofs.Common.{◌≡◌, ◌≢◌, ℕ, ◌+◌, ◌<◌, ◌≤◌, ◌^◌, List, length, get_or, refl, ap, sym, ◌∙◌, subst, arith}
use Rattle.std.specs.Prelude.{Contains}
use Rattle.std.specs.List.{All}
use Rattle.std.specs.List.Sorted.{IsStrictlyIncreasing}
use Rattle.std.proofs.lemmas.List.Elements.{All-contains, All-from_get_or, Contains-get_or}
use Rattle.jul_base.specs.declared.graphs.RawGraph.{RawGraph}
use Rattle.jul_base.specs.declared.limits.TheConstants.{NONE, MAX_N}
use Rattle.jul_base.specs.Graph.{vertices, IsLawful}
use Rattle.jul_base.specs.Logs.{Home}
use Rattle.jul_base.specs.Sources.{AreSources}
use Rattle.jul_base.specs.Distances.{AreDistances}
use Rattle.jul_base.specs.Trees.{AreTree}
use Rattle.jul_words.specs.Seats.{Seat, floor_of}
use Rattle.jul_words.specs.Least.{word_of}
use Rattle.jul_subset.specs.Subsets.{Subset, IsSubset}
use Rattle.jul_subset.proofs.IncreasingLaws.{length_below}
use Rattle.jul_edge.specs.declared.functions.Direction.{Direction}
use Rattle.jul_edge.specs.EdgeMaps.{CanStamp, HasStamped}
use Rattle.jul_edge.proofs.MappedLaws.{stamps_later, stamps_on}
use Rattle.jul_tree.specs.Hooking.{key, parent_of, HasHooked, HasSet}
use Rattle.jul_tree.specs.Growing.{IsGrowing, IsSearching, remaining}
use Rattle.jul_tree.proofs.GrowLaws.{round_small, grows, tree_is, key_is}

module _ (g : RawGraph) (lawful : IsLawful g) (sources : List ℕ) (are_sources : AreSources (vertices g) sources) (dist : List ℕ) (are : AreDistances g sources dist) (table stamp_table : List ℕ) (home' stamp_home' : Home) where
  module _ (hops members : List ℕ) (seat stamp_seat : Seat) (hop : ℕ) (h : IsSearching g sources dist table stamp_table home' stamp_home' hops members seat stamp_seat hop) where
    -- what making the frontier asks for
    pub members_within : All (λ v. v < vertices g) members
    members_within = All-from_get_or (λ v. v < vertices g) members 0 (λ k lt. (h.growing.members_have (get_or members k 0) (Contains-get_or members k 0 lt)).0)

    pub few_members : length members ≤ 2 ^ 24
    few_members = omega (arith, length_below members (vertices g) h.increasing members_within, lawful.few_vertices)

    module _ (some : 0 < length members) (frontier : Subset) (frontier_is : frontier.members ≡ members) where
      -- what a round asks for
      pub few_at : hop ≤ MAX_N
      few_at = round_small g lawful sources are_sources.within dist are hops members hop (word_of seat) h.growing some

      pub words_at : length seat.home.starts ≡ vertices g
      words_at = ap (λ (x : Home). length x.starts) h.home_is ∙ h.words

      pub floors_at : (v : ℕ) → floor_of seat.home v ≡ 0
      floors_at v = ap (λ (x : Home). floor_of x v) h.home_is ∙ h.no_floors v

      module _ (seat' : Seat) (hit : Subset) (hooked' : HasHooked g frontier.members dist hops hop seat seat' hit) (ids : List ℕ) (ids_are : ids ≡ hit.members) where
        hooked : HasHooked g members dist hops hop seat seat' hit
        hooked = subst (λ l. HasHooked g l dist hops hop seat seat' hit) frontier_is hooked'

        -- what setting the hops asks for
        pub increasing_at : IsSubset hit → IsStrictlyIncreasing ids
        increasing_at s = subst IsStrictlyIncreasing (sym ids_are) s.increasing

        pub none_at : All (λ v. get_or hops v 0 ≡ NONE) ids
        none_at = subst (All (λ v. get_or hops v 0 ≡ NONE)) (sym ids_are)
            (All-from_get_or (λ v. get_or hops v 0 ≡ NONE) hit.members 0 (λ k lt.
            let (u, (p, k')) = hooked.hit_by (get_or hit.members k 0) (Contains-get_or hit.members k 0 lt) in k'.free))

        pub within_at : IsSubset hit → All (λ v. v < length hops) ids
        within_at s = subst (All (λ v. v < length hops)) (sym ids_are)
            (All-from_get_or (λ v. v < length hops) hit.members 0 (λ k lt.
            let below : get_or hit.members k 0 < hit.n = All-contains (λ v. v < hit.n) hit.members (get_or hit.members k 0) s.within (Contains-get_or hit.members k 0 lt) in
            omega (arith, below, hooked.n, h.growing.size)))

        pub some_at : hop ≢ NONE
        some_at none = absurd (omega (arith, none, few_at))

        module _ (hops' : List ℕ) (done : HasSet hops hops' ids hop) where
          done' : HasSet hops hops' hit.members hop
          done' = subst (λ l. HasSet hops hops' l hop) ids_are done

          pub fewer_at : remaining hops' ids < remaining hops members
          fewer_at = omega (arith, done.fewer, some)

          pub next_at : IsSubset hit → (by : Direction) (stamp_seat' : Seat) → HasStamped by hop stamp_seat stamp_seat' →
              IsSearching g sources dist table stamp_table home' stamp_home' hops' ids seat' stamp_seat' (hop + 1)
          next_at s by stamp_seat' stamped = record {
            growing = subst (λ l. IsGrowing g sources dist hops' l (hop + 1) (word_of seat')) (sym ids_are)
                (grows g lawful sources are_sources.within dist are hops members hop (word_of seat) h.growing some seat seat' hit hops' (λ v lt. refl) hooked done');
            increasing = increasing_at s;
            home_is = hooked.home ∙ h.home_is;
            of_table = ap (λ (x : Home). x.table) hooked.home ∙ h.of_table;
            words = h.words;
            no_floors = h.no_floors;
            alone = hooked.alone;
            stamps = stamps_later (vertices g) stamp_table hop (hop + 1) by stamp_seat stamp_seat' (omega arith) h.stamps stamped;
            stamp_home_is = ap (λ (x : Seat). x.home) stamped.seat_is ∙ h.stamp_home_is;
          }

    -- ---- the end

    module _ (empty : length members ≡ 0) where
      none_left : (v : ℕ) → Contains members v → ⊥
      none_left v (k, lt, is) = omega (arith, lt, empty)

      pub tree_at : (parent hops' parent' : List ℕ) → hops' ≡ hops → parent' ≡ parent → length parent ≡ vertices g →
          ((v : ℕ) → v < vertices g → get_or parent v 0 ≡ parent_of (word_of seat v)) → AreTree g sources dist hops' parent'
      tree_at parent hops' parent' hops_is parent_is size each =
          let own : AreTree g sources dist hops parent = tree_is g lawful sources are_sources.within dist are hops members hop (word_of seat) h.growing none_left parent size each in
          subst (λ l. AreTree g sources dist l parent') (sym hops_is) (subst (AreTree g sources dist hops) (sym parent_is) own)

      pub key_at : (seat' : Seat) (parent hops' parent' : List ℕ) → hops' ≡ hops → parent' ≡ parent → seat' ≡ seat →
          ((v : ℕ) → v < vertices g → get_or parent v 0 ≡ parent_of (word_of seat v)) → (v : ℕ) → v < vertices g → (Contains sources v → ⊥) → get_or hops' v 0 ≢ NONE →
          word_of seat' v ≡ key (get_or hops' v 0) (get_or parent' v 0)
      key_at seat' parent hops' parent' hops_is parent_is same each v lt other some =
          let own : word_of seat v ≡ key (get_or hops v 0) (get_or parent v 0) =
          key_is g lawful sources are_sources.within dist are hops members hop (word_of seat) h.growing none_left parent each v lt other (λ none. some (ap (λ l. get_or l v 0) hops_is ∙ none)) in
          let w : word_of seat' v ≡ word_of seat v = ap (λ s. word_of s v) same in
          omega (arith, w, own, ap (λ l. get_or l v 0) hops_is, ap (λ l. get_or l v 0) parent_is)

      pub stamps_at : (round : ℕ) → vertices g < round → CanStamp (vertices g) stamp_table round stamp_seat
      stamps_at round more = stamps_on (vertices g) stamp_table hop round stamp_seat (omega (arith, h.growing.bound, more)) h.stamps
