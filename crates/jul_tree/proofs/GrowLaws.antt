-- A round keeps what a tree keeps, and where the frontier is empty the columns are those of the tree.
use Rattle.std.proofs.Common.{◌≡◌, ◌≢◌, ◌⊎◌, ℕ, ◌+◌, ◌%◌, ◌<◌, ◌≤◌, eqb, List, length, get_or, refl, ap, sym, ◌∙◌, subst, eq-eqb, arith, inl, inr}
use Rattle.std.specs.Prelude.{Contains}
use Rattle.std.specs.List.{All}
use Rattle.std.proofs.lemmas.Bool.{cases_eq, cases_lt, ne_eqb, cond-true, cond-false}
use Rattle.jul_base.specs.declared.graphs.RawGraph.{RawGraph}
use Rattle.jul_base.specs.declared.limits.TheConstants.{NONE, MAX_N}
use Rattle.jul_base.specs.Numbers.{IsColumn}
use Rattle.jul_base.specs.Graph.{vertices, target, IsPlaceOf, IsLawful}
use Rattle.jul_base.specs.Distances.{AreDistances}
use Rattle.jul_base.specs.Trees.{IsHopCount, IsHops, IsLastStep, IsParent, AreTree}
use Rattle.jul_base.proofs.SetLaws.{member_cases}
use Rattle.jul_words.specs.Seats.{Seat}
use Rattle.jul_words.specs.Least.{word_of}
use Rattle.jul_subset.specs.Subsets.{Subset}
use Rattle.jul_tree.specs.Hooking.{key, parent_of, IsTight, IsHooked, IsHook, HasHooked, HasSet}
use Rattle.jul_tree.specs.Growing.{HasKey, IsGrowing}
use Rattle.jul_tree.proofs.TightLaws.{IsHopClosed, to_in, tight_some, count_some, count_more, zero_source, closed_are_hops}

-- what a word tells
parent_none : (word : ℕ) → word ≡ NONE → parent_of word ≡ NONE
parent_none word is = cond-true (eqb word NONE) NONE (word % 4294967296) (eq-eqb word NONE is)

parent_key : (word hop u : ℕ) → hop ≤ MAX_N + 1 → u < MAX_N → word ≡ key hop u → parent_of word ≡ u
parent_key word hop u few lt is =
    let apart : word ≢ NONE = λ none. absurd (omega (arith, none, is, few, lt)) in
    let rest : word % 4294967296 ≡ u = omega (arith, is, lt) in
    cond-false (eqb word NONE) NONE (word % 4294967296) (ne_eqb word NONE apart) ∙ rest

module _ (g : RawGraph) (lawful : IsLawful g) (sources : List ℕ) (sources_in : All (λ s. s < vertices g) sources) (dist : List ℕ) (are : AreDistances g sources dist) where
  -- ---- before a round
  module _ (hops members : List ℕ) (hop : ℕ) (words : ℕ → ℕ) (h : IsGrowing g sources dist hops members hop words) where
    pub hop_small : hop ≤ vertices g + 1
    hop_small = omega (arith, h.bound)

    pub round_small : 0 < length members → hop ≤ MAX_N
    round_small some = omega (arith, h.bound, some, lawful.few_vertices)

    -- numbers of vertices reached are no NONE
    far : (x : ℕ) → x ≤ hop → x ≢ NONE
    far x le none = absurd (omega (arith, none, le, h.bound, lawful.few_vertices))

    -- ---- after it
    module _ (some_members : 0 < length members) (old new : Seat) (hit : Subset) (hops' : List ℕ) (words_are : (v : ℕ) → v < vertices g → word_of old v ≡ words v) (hooked : HasHooked g members dist hops hop old new hit) (done : HasSet hops hops' hit.members hop) where
      -- a vertex that was hit had no hops
      hit_free : (v : ℕ) → Contains hit.members v → get_or hops v 0 ≡ NONE
      hit_free v there = let (u, (p, k)) = hooked.hit_by v there in k.free

      hit_in : (v : ℕ) → Contains hit.members v → v < vertices g
      hit_in v there = let (u, (p, k)) = hooked.hit_by v there in omega (arith, to_in g lawful sources sources_in dist are u p k.from, k.to)

      now : (v : ℕ) → Contains hit.members v → get_or hops' v 0 ≡ hop
      now v there = done.here v (omega (arith, hit_in v there, h.size)) there

      reached_kept : (v : ℕ) → get_or hops v 0 ≢ NONE → get_or hops' v 0 ≡ get_or hops v 0
      reached_kept v some = done.kept v (λ there. some (hit_free v there))

      -- what has less than this round's hops had it before
      less_kept : (v : ℕ) → get_or hops' v 0 < hop → (get_or hops v 0 ≡ get_or hops' v 0)
      less_kept v less = elim (member_cases hit.members v) [
        | inl there ↦ absurd (omega (arith, now v there, less))
        | inr other ↦ sym (done.kept v other)
      ]

      -- a tight place of a member to a vertex without hops makes a hook
      hook_of : (u p : ℕ) → IsPlaceOf g u p → Contains members u → IsTight g dist u p → get_or hops (target g p) 0 ≡ NONE → IsHook g members dist hops (target g p) u
      hook_of u p at there tight free =
          let in_order : (u < vertices g) × (get_or hops u 0 + 1 ≡ hop) = h.members_have u there in
          let reached : get_or hops u 0 ≢ NONE = far (get_or hops u 0) (omega (arith, in_order.1)) in
          let some : get_or dist u 0 ≢ NONE = count_some g lawful sources sources_in dist are u (get_or hops u 0) (h.counts u in_order.0 reached) in_order.0 in
          (p, record { from = at; member = there; to = refl; sum = tight; free = free; some = tight_some g lawful sources sources_in dist are u p at some })

      -- the last steps to a vertex that had hops are those that it had
      old_step : (v u p : ℕ) → v < vertices g → get_or hops v 0 ≢ NONE → IsLastStep g dist hops' v u p → IsLastStep g dist hops v u p
      old_step v u p lt some step =
          let v_kept : get_or hops' v 0 ≡ get_or hops v 0 = reached_kept v some in
          let v_few : get_or hops v 0 < hop = h.few v lt some in
          let u_kept : get_or hops u 0 ≡ get_or hops' u 0 = less_kept u (omega (arith, step.hop, v_kept, v_few)) in
          record { from = step.from; to = step.to; reached = step.reached; sum = step.sum; hop = omega (arith, step.hop, v_kept, u_kept) }

      new_step : (v u p : ℕ) → v < vertices g → get_or hops v 0 ≢ NONE → IsLastStep g dist hops v u p → IsLastStep g dist hops' v u p
      new_step v u p lt some step =
          let v_kept : get_or hops' v 0 ≡ get_or hops v 0 = reached_kept v some in
          let v_few : get_or hops v 0 < hop = h.few v lt some in
          let u_kept : get_or hops' u 0 ≡ get_or hops u 0 = reached_kept u (far (get_or hops u 0) (omega (arith, step.hop, v_few))) in
          record { from = step.from; to = step.to; reached = step.reached; sum = step.sum; hop = omega (arith, step.hop, v_kept, u_kept) }

      -- a hook is a last step to a vertex that was hit
      hook_step : (v u p : ℕ) → Contains hit.members v → IsHooked g members dist hops v u p → IsLastStep g dist hops' v u p
      hook_step v u p there k =
          let m : (u < vertices g) × (get_or hops u 0 + 1 ≡ hop) = h.members_have u k.member in
          let u_reached : get_or hops u 0 ≢ NONE = far (get_or hops u 0) (omega (arith, m.1)) in
          let u_kept : get_or hops' u 0 ≡ get_or hops u 0 = reached_kept u u_reached in
          record {
            from = k.from;
            to = k.to;
            reached = count_some g lawful sources sources_in dist are u (get_or hops u 0) (h.counts u m.0 u_reached) m.0;
            sum = k.sum;
            hop = omega (arith, u_kept, m.1, now v there);
          }

      -- and each last step to it is a hook
      step_hook : (v u p : ℕ) → Contains hit.members v → IsLastStep g dist hops' v u p → IsHook g members dist hops v u
      step_hook v u p there step =
          let u_is : get_or hops' u 0 + 1 ≡ hop = omega (arith, step.hop, now v there) in
          let u_kept : get_or hops u 0 ≡ get_or hops' u 0 = less_kept u (omega (arith, u_is)) in
          let member : Contains members u = h.members_are u step.from.vertex (omega (arith, u_is, u_kept)) in
          let (u', (p', k)) = hooked.hit_by v there in
          (p, record { from = step.from; member = member; to = step.to; sum = step.sum; free = hit_free v there; some = k.some })

      -- the word of a vertex that was hit is the key of its least hook
      hit_key : (v : ℕ) → v < vertices g → Contains hit.members v → HasKey g dist hops' v (word_of new v)
      hit_key v lt there = record {
        none = λ none. absurd (far hop (omega arith) (sym (now v there) ∙ none));
        source = λ none. absurd (omega (arith, none, now v there, h.some));
        parent = λ some more. elim (hooked.each v) [
          | inl same ↦
              let (u, k) = hooked.hit_by v there in
              let u_in : u < vertices g = k.1.from.vertex in
              let was : words v ≡ NONE = (h.keys v lt).none (hit_free v there) in
              let low : word_of new v ≤ key hop u = hooked.lower v u k in
              absurd (omega (arith, same, words_are v lt, was, low, u_in, h.bound, lawful.few_vertices))
          | inr (u, (p, k), is) ↦ (
            u,
            record {
              holds = (p, hook_step v u p there k);
              least = λ y (q, step).
                  let low : word_of new v ≤ key hop y = hooked.lower v y (step_hook v y q there step) in
                  omega (arith, low, is);
            },
            is ∙ ap (λ x. key x u) (sym (now v there)),
          )
        ];
      }

      -- the word of any other vertex is as it was
      kept_key : (v : ℕ) → v < vertices g → (Contains hit.members v → ⊥) → HasKey g dist hops' v (word_of new v)
      kept_key v lt other =
          let same : get_or hops' v 0 ≡ get_or hops v 0 = done.kept v other in
          let k : HasKey g dist hops v (words v) = h.keys v lt in
          let word : word_of new v ≡ words v = elim (hooked.each v) [
            | inl w ↦ w ∙ words_are v lt
            | inr (u, hook, is) ↦ absurd (other (hooked.hits v u hook))
          ] in
          record {
            none = λ none. word ∙ k.none (sym same ∙ none);
            source = λ none. word ∙ k.source (sym same ∙ none);
            parent = λ some more.
                let some' : get_or hops v 0 ≢ NONE = λ e. some (same ∙ e) in
                let (u, l, is) = k.parent some' (λ e. more (same ∙ e)) in (
                  u,
                  record {
                    holds = (l.holds.0, new_step v u l.holds.0 lt some' l.holds.1);
                    least = λ y (q, step). l.least y (q, old_step v y q lt some' step);
                  },
                  word ∙ is ∙ ap (λ x. key x u) (sym same),
                );
          }

      pub grows : IsGrowing g sources dist hops' hit.members (hop + 1) (word_of new)
      grows = record {
        size = done.size ∙ h.size;
        starts = λ s there.
            let zero_here : get_or hops s 0 ≡ 0 = h.starts s there in
            reached_kept s (λ none. absurd (omega (arith, none, zero_here))) ∙ zero_here;
        members_have = λ v there. (hit_in v there, omega (arith, now v there));
        members_are = λ v lt is. elim (member_cases hit.members v) [
          | inl there ↦ there
          | inr other ↦
              let same : get_or hops' v 0 ≡ get_or hops v 0 = done.kept v other in
              absurd (omega (arith, is, same, h.few v lt (far (get_or hops v 0) (omega (arith, is, same)))))
        ];
        few = λ v lt some. elim (member_cases hit.members v) [
          | inl there ↦ omega (arith, now v there)
          | inr other ↦
              let same : get_or hops' v 0 ≡ get_or hops v 0 = done.kept v other in
              omega (arith, same, h.few v lt (λ none. some (same ∙ none)))
        ];
        counts = λ v lt some. elim (member_cases hit.members v) [
          | inl there ↦
              let (u, (p, k)) = hooked.hit_by v there in
              let m : (u < vertices g) × (get_or hops u 0 + 1 ≡ hop) = h.members_have u k.member in
              let before : IsHopCount g sources u (get_or hops u 0) = h.counts u m.0 (far (get_or hops u 0) (omega (arith, m.1))) in
              let tight : IsTight g dist u p = k.sum ∙ ap (λ x. get_or dist x 0) (sym k.to) in
              let more : IsHopCount g sources (target g p) (get_or hops u 0 + 1) = count_more g lawful sources sources_in dist are u p (get_or hops u 0) k.from tight before in
              subst (λ x. IsHopCount g sources x (get_or hops' v 0)) k.to (subst (IsHopCount g sources (target g p)) (m.1 ∙ sym (now v there)) more)
          | inr other ↦
              let same : get_or hops' v 0 ≡ get_or hops v 0 = done.kept v other in
              subst (IsHopCount g sources v) (sym same) (h.counts v lt (λ none. some (same ∙ none)))
        ];
        closed = λ u p at tight less.
            let same : get_or hops u 0 ≡ get_or hops' u 0 = less_kept u (omega (arith, less)) in
            let v : ℕ = target g p in
            let lt : v < vertices g = to_in g lawful sources sources_in dist are u p at in
            elim (cases_eq (get_or hops v 0) NONE) [
              | inl free ↦
                  let u_reached : get_or hops u 0 ≢ NONE = far (get_or hops u 0) (omega (arith, same, less)) in
                  let last : get_or hops u 0 + 1 ≡ hop = elim (cases_lt (get_or hops u 0 + 1) hop) [
                    | inl before ↦ absurd ((h.closed u p at tight before).0 free)
                    | inr past ↦ omega (arith, past, same, less)
                  ] in
                  let there : Contains hit.members v = hooked.hits v u (hook_of u p at (h.members_are u at.vertex last) tight free) in
                  (λ none. far hop (omega arith) (sym (now v there) ∙ none), omega (arith, now v there, last, same))
              | inr some ↦
                  let kept : get_or hops' v 0 ≡ get_or hops v 0 = reached_kept v some in (
                    λ none. some (sym kept ∙ none),
                    elim (cases_lt (get_or hops u 0 + 1) hop) [
                      | inl before ↦ omega (arith, kept, same, (h.closed u p at tight before).1)
                      | inr past ↦ omega (arith, kept, past, same, h.few v lt some)
                    ],
                  )
            ];
        keys = λ v lt. elim (member_cases hit.members v) [ inl there ↦ hit_key v lt there | inr other ↦ kept_key v lt other ];
        bound = omega (arith, h.bound, done.fewer, some_members);
        some = omega arith;
      }

    -- ---- the end
    module _ (none_left : (v : ℕ) → Contains members v → ⊥) where
      end_closed : IsHopClosed g dist hops
      end_closed u p at tight some =
          let less : get_or hops u 0 < hop = h.few u at.vertex some in
          elim (cases_lt (get_or hops u 0 + 1) hop) [
            | inl before ↦ h.closed u p at tight before
            | inr past ↦ absurd (none_left u (h.members_are u at.vertex (omega (arith, less, past))))
          ]

      hops_are : IsColumn (vertices g) (IsHops g sources) hops
      hops_are = closed_are_hops g lawful sources sources_in dist are hops h.size h.starts end_closed h.counts

      -- where there is no last step there is no parent
      no_parent : (v x : ℕ) → v < vertices g → ((get_or hops v 0 ≡ NONE) ⊎ (get_or hops v 0 ≡ 0)) → x ≡ NONE → IsParent g dist hops v x
      no_parent v x lt lone is = record {
        least = λ some. absurd (some is);
        none = λ e y (p, step). elim lone [
          | inl none ↦
              let y_reached : get_or hops y 0 ≢ NONE = λ n. absurd (omega (arith, n, none, step.hop)) in
              far (get_or hops y 0 + 1) (omega (arith, h.few y step.from.vertex y_reached)) (step.hop ∙ none)
          | inr none ↦ omega (arith, none, step.hop)
        ];
      }

      parent_at : (v : ℕ) → v < vertices g → IsParent g dist hops v (parent_of (words v))
      parent_at v lt = elim (cases_eq (get_or hops v 0) NONE) [
        | inl none ↦ no_parent v (parent_of (words v)) lt (inl none) (parent_none (words v) ((h.keys v lt).none none))
        | inr some ↦ elim (cases_eq (get_or hops v 0) 0) [
          | inl none ↦ no_parent v (parent_of (words v)) lt (inr none) (parent_none (words v) ((h.keys v lt).source none))
          | inr more ↦
              let (u, l, is) = (h.keys v lt).parent some more in
              let p : parent_of (words v) ≡ u = parent_key (words v) (get_or hops v 0) u (omega (arith, h.few v lt some, h.bound, lawful.few_vertices)) (omega (arith, l.holds.1.from.vertex, lawful.few_vertices)) is in
              subst (IsParent g dist hops v) (sym p) (record {
                least = λ _. l;
                none = λ none y step. absurd (omega (arith, none, l.holds.1.from.vertex, lawful.few_vertices));
              })
        ]
      ]

      pub tree_is : (parent : List ℕ) → length parent ≡ vertices g → ((v : ℕ) → v < vertices g → get_or parent v 0 ≡ parent_of (words v)) → AreTree g sources dist hops parent
      tree_is parent size each = record {
        distances = are;
        hop_counts = hops_are;
        parents = record { size = size; each = λ v lt. subst (IsParent g dist hops v) (sym (each v lt)) (parent_at v lt) };
      }

      -- the word of a vertex that was reached and is no source
      pub key_is : (parent : List ℕ) → ((v : ℕ) → v < vertices g → get_or parent v 0 ≡ parent_of (words v)) → (v : ℕ) → v < vertices g → (Contains sources v → ⊥) →
          get_or hops v 0 ≢ NONE → words v ≡ key (get_or hops v 0) (get_or parent v 0)
      key_is parent each v lt other some =
          let more : get_or hops v 0 ≢ 0 = λ none. other (zero_source g lawful sources sources_in dist are v (subst (IsHopCount g sources v) none (h.counts v lt some))) in
          let (u, l, is) = (h.keys v lt).parent some more in
          let p : parent_of (words v) ≡ u = parent_key (words v) (get_or hops v 0) u (omega (arith, h.few v lt some, h.bound, lawful.few_vertices)) (omega (arith, l.holds.1.from.vertex, lawful.few_vertices)) is in
          is ∙ ap (key (get_or hops v 0)) (sym (each v lt ∙ p))
