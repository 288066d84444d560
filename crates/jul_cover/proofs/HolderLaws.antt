-- The sources of a flipped graph whose rows are the sets: who holds each element.
use Rattle.std.proofs.Common.{◌≡◌, ℕ, ◌+◌, ◌-◌, ◌<◌, ◌≤◌, eqb, List, [], ◌∷◌, ◌++◌, length, take, get_or, refl, sym, ap, ◌∙◌, subst, arith, inl, inr}
use Rattle.std.specs.List.{flat_map, Contains}
use Rattle.std.proofs.lemmas.Bool.{cases_lt, eqb-true, eq-eqb, le-leb, cond-true}
use Rattle.std.proofs.lemmas.List.{get_or_default, get_or_append_left, get_or_push, length_push, length-append, append-nil, map-id}
use Rattle.std.proofs.lemmas.List.Concat.{flat_map-append, get_or-flat_map}
use Rattle.std.proofs.lemmas.List.Folds.{length-flat_map-take}
use Rattle.std.proofs.lemmas.List.FromFn.{length-range_with_len, get_or-range_with_len, take-map-range_with_len}
use Rattle.std.proofs.lemmas.List.Elements.{Contains-get_or}
use Rattle.std.proofs.lemmas.List.Kept.{AllPairs-from_increasing, IsStrictlyIncreasing-filter}
use Rattle.jul_base.specs.declared.graphs.RawGraph.{RawGraph}
use Rattle.jul_base.specs.Numbers.{below}
use Rattle.jul_base.specs.Graph.{vertices, places, target, row_start, row_end, IsPlaceOf, IsLawful}
use Rattle.jul_base.specs.InRows.{InEdges, IsFlip, AreSources, in_places}
use Rattle.jul_base.specs.CoverRounds.{set_at}
use Rattle.jul_base.specs.declared.limits.TheConstants.{MAX_M}
use Rattle.jul_base.proofs.GraphLaws.{place_in_range, row_end-next, row_end-last}
use Rattle.jul_base.proofs.PartLaws.{below-more}
use Rattle.jul_base.proofs.RowLaws.{row_end-le-row_start, IsPlaceOf-unique}
use Rattle.jul_base.proofs.SetLaws.{Contains-filter, Contains-from_filter, Contains-below, IsStrictlyIncreasing-below}
use Rattle.jul_cover.specs.Keeping.{holders_at, AreHolders, AreLaid, capped}

module _ (g : RawGraph) (lawful : IsLawful g) (edges : InEdges) (flip : IsFlip g edges) (sets : List (List ℕ)) (n : vertices g ≡ length sets)
    (ends : (s : ℕ) → s < length sets → row_end g s ≡ row_start g s + length (set_at sets s))
    (targets : (s k : ℕ) → s < length sets → k < length (set_at sets s) → target g (row_start g s + k) ≡ get_or (set_at sets s) k 0) where
  -- holder number k of e is the source of place number k that leads to e
  place_at : (e k : ℕ) → e < length sets → k < length (holders_at edges e) →
      (k < length (in_places g e)) × IsPlaceOf g (get_or (holders_at edges e) k 0) (get_or (in_places g e) k 0) × (target g (get_or (in_places g e) k 0) ≡ e)
  place_at e k lt k_lt =
      let in_range : e < vertices g = omega (arith, n) in
      let are : AreSources g (holders_at edges e) (in_places g e) = flip.sources e in_range in
      let k_place : k < length (in_places g e) = omega (arith, are.size) in
      let (there, is) = Contains-from_filter (λ p. eqb (target g p) e) (below (places g)) (get_or (in_places g e) k 0) (Contains-get_or (in_places g e) k 0 k_place) in
      (k_place, are.each k k_place, eqb-true _ _ is)

  held_only : (e s : ℕ) → e < length sets → Contains (holders_at edges e) s → (s < length sets) × Contains (set_at sets s) e
  held_only e s lt (k, k_lt, is) =
      let (k_place, at, leads) = place_at e k lt k_lt in
      let same : get_or (holders_at edges e) k 0 ≡ s = get_or_default (holders_at edges e) k 0 s k_lt ∙ is in
      let p : ℕ = get_or (in_places g e) k 0 in
      let of_s : IsPlaceOf g s p = subst (λ x. IsPlaceOf g x p) same at in
      let s_lt : s < length sets = omega (arith, of_s.vertex, n) in
      let j : ℕ = p - row_start g s in
      let j_lt : j < length (set_at sets s) = omega (arith, ends s s_lt, of_s.from, of_s.to) in
      let p_is : row_start g s + j ≡ p = omega (arith, of_s.from) in
      let found : get_or (set_at sets s) j 0 ≡ e = sym (targets s j s_lt j_lt) ∙ ap (target g) p_is ∙ leads in
      (s_lt, (j, j_lt, get_or_default (set_at sets s) j e 0 j_lt ∙ found))

  held_all : (e s : ℕ) → e < length sets → s < length sets → Contains (set_at sets s) e → Contains (holders_at edges e) s
  held_all e s lt s_lt (k, k_lt, is) =
      let in_range : e < vertices g = omega (arith, n) in
      let are : AreSources g (holders_at edges e) (in_places g e) = flip.sources e in_range in
      let p : ℕ = row_start g s + k in
      let at : IsPlaceOf g s p = record { vertex = omega (arith, n); from = omega arith; to = omega (arith, ends s s_lt) } in
      let leads : target g p ≡ e = targets s k s_lt k_lt ∙ get_or_default (set_at sets s) k 0 e k_lt ∙ is in
      let (j, j_lt, j_is) = Contains-filter (λ q. eqb (target g q) e) (below (places g)) p (Contains-below (places g) p (place_in_range g lawful s p at)) (eq-eqb _ _ leads) in
      let j_holder : j < length (holders_at edges e) = omega (arith, are.size, j_lt) in
      let p_is : get_or (in_places g e) j 0 ≡ p = get_or_default (in_places g e) j 0 p j_lt ∙ j_is in
      let source : IsPlaceOf g (get_or (holders_at edges e) j 0) p = subst (IsPlaceOf g (get_or (holders_at edges e) j 0)) p_is (are.each j j_lt) in
      let same : get_or (holders_at edges e) j 0 ≡ s = IsPlaceOf-unique g lawful (get_or (holders_at edges e) j 0) s p source at in
      (j, j_holder, get_or_default (holders_at edges e) j s 0 j_holder ∙ same)

  places_rise : (e j k : ℕ) → j ≤ k → k < length (in_places g e) → get_or (in_places g e) j 0 ≤ get_or (in_places g e) k 0
  places_rise e j k le k_lt =
      elim (cases_lt j k) [
        | inl less ↦
            let rises : get_or (in_places g e) j 0 < get_or (in_places g e) k 0 =
            AllPairs-from_increasing (in_places g e) (IsStrictlyIncreasing-filter (λ q. eqb (target g q) e) (below (places g)) (IsStrictlyIncreasing-below (places g))) j k 0 less k_lt in
            omega arith
        | inr not_less ↦ let same : j ≡ k = omega arith in omega (arith, ap (λ i. get_or (in_places g e) i 0) same)
      ]

  held_rise : (e j k : ℕ) → e < length sets → j ≤ k → k < length (holders_at edges e) → get_or (holders_at edges e) j 0 ≤ get_or (holders_at edges e) k 0
  held_rise e j k lt le k_lt =
      let (j_place, at_j, j_leads) = place_at e j lt (omega arith) in
      let (k_place, at_k, k_leads) = place_at e k lt k_lt in
      elim (cases_lt (get_or (holders_at edges e) k 0) (get_or (holders_at edges e) j 0)) [
        | inl less ↦
            absurd (omega (
              arith,
              row_end-le-row_start g lawful (get_or (holders_at edges e) k 0) (get_or (holders_at edges e) j 0) less at_j.vertex,
              at_j.from,
              at_k.to,
              places_rise e j k le k_place,
            ))
        | inr le' ↦ le'
      ]

  pub are_holders : AreHolders sets edges
  are_holders = record {
    within = record {
      size = flip.size ∙ n;
      each = λ e lt k d k_lt.
          let (s_lt, there) = held_only e (get_or (holders_at edges e) k d) lt (Contains-get_or (holders_at edges e) k d k_lt) in s_lt;
    };
    only = λ e s lt there. (held_only e s lt there).1;
    all = held_all;
    rising = held_rise;
  }

-- ---- sets that are laid one behind another

abbrev start_of : List (List ℕ) → ℕ → ℕ
start_of sets s = length (flat_map (set_at sets) (below s))

start_more : (sets : List (List ℕ)) (s : ℕ) → flat_map (set_at sets) (below (s + 1)) ≡ flat_map (set_at sets) (below s) ++ set_at sets s
start_more sets s =
    ap (flat_map (set_at sets)) (below-more s) ∙ flat_map-append (set_at sets) (below s) (s ∷ []) ∙ ap (λ l. flat_map (set_at sets) (below s) ++ l) (append-nil (set_at sets s))

pub laid_none : (sets : List (List ℕ)) → AreLaid sets 0 [] []
laid_none sets = record { size = refl; targets_are = refl; starts = λ s lt. absurd (omega arith) }

pub laid_more : (sets : List (List ℕ)) (m : ℕ) (offsets targets offsets' targets' : List ℕ) → AreLaid sets m offsets targets →
    offsets' ≡ offsets ++ capped (length targets) ∷ [] → targets' ≡ targets ++ set_at sets m → AreLaid sets (m + 1) offsets' targets'
laid_more sets m offsets targets offsets' targets' h offsets_are targets_are' = record {
  size = ap length offsets_are ∙ length_push offsets (capped (length targets)) ∙ ap (λ k. k + 1) h.size;
  targets_are = targets_are' ∙ ap (λ l. l ++ set_at sets m) h.targets_are ∙ sym (start_more sets m);
  starts = λ s lt.
      elim (cases_lt s m) [
        | inl before ↦
            ap (λ l. get_or l s 0) offsets_are ∙ get_or_append_left offsets (capped (length targets) ∷ []) 0 s (omega (arith, h.size)) ∙ h.starts s before
        | inr late ↦
            let now : m ≡ s = omega arith in
            ap (λ l. get_or l s 0) offsets_are ∙ get_or_push offsets (capped (length targets)) 0 s (h.size ∙ now)
            ∙ ap (λ l. capped (length l)) h.targets_are ∙ ap (λ k. capped (start_of sets k)) now
      ];
}

take_below : (n s : ℕ) → s ≤ n → take s (below n) ≡ below s
take_below n s le = ap (take s) (sym (map-id (below n))) ∙ take-map-range_with_len (λ x. x) 0 n s le ∙ map-id (below s)

capped_few : (k : ℕ) → k ≤ MAX_M → capped k ≡ k
capped_few k le = cond-true _ _ _ (le-leb k MAX_M le)

module _ (sets : List (List ℕ)) (g : RawGraph) (lawful : IsLawful g) (laid : AreLaid sets (length sets) g.offsets g.targets) where
  abbrev f : ℕ → List ℕ
  f = set_at sets

  in_targets : (s : ℕ) → s < length sets → start_of sets s + length (f s) ≤ places g
  in_targets s lt =
      let s_lt : s < length (below (length sets)) = omega (arith, length-range_with_len 0 (length sets)) in
      let here : get_or (below (length sets)) s 0 ≡ s = get_or-range_with_len 0 (length sets) s 0 lt ∙ omega arith in
      omega (
        arith,
        length-flat_map-take f (below (length sets)) s 0 s_lt,
        ap (λ l. length (flat_map f l)) (take_below (length sets) s (omega arith)),
        ap (λ k. length (f k)) here,
        ap length laid.targets_are,
      )

  start_is : (s : ℕ) → s < length sets → row_start g s ≡ start_of sets s
  start_is s lt = laid.starts s lt ∙ capped_few (start_of sets s) (omega (arith, in_targets s lt, lawful.few_places))

  step_is : (s : ℕ) → start_of sets (s + 1) ≡ start_of sets s + length (f s)
  step_is s = ap length (start_more sets s) ∙ length-append (flat_map f (below s)) (f s)

  row_ends : (s : ℕ) → s < length sets → row_end g s ≡ row_start g s + length (f s)
  row_ends s lt =
      elim (cases_lt (s + 1) (length sets)) [
        | inl more ↦ row_end-next g s (omega (arith, laid.size)) ∙ start_is (s + 1) more ∙ step_is s ∙ ap (λ k. k + length (f s)) (sym (start_is s lt))
        | inr last ↦
            let all : length sets ≡ s + 1 = omega arith in
            row_end-last g s (omega (arith, laid.size)) ∙ ap length laid.targets_are ∙ ap (start_of sets) all ∙ step_is s ∙ ap (λ k. k + length (f s)) (sym (start_is s lt))
      ]

  row_targets : (s k : ℕ) → s < length sets → k < length (f s) → target g (row_start g s + k) ≡ get_or (f s) k 0
  row_targets s k lt k_lt =
      let s_lt : s < length (below (length sets)) = omega (arith, length-range_with_len 0 (length sets)) in
      let here : get_or (below (length sets)) s 0 ≡ s = get_or-range_with_len 0 (length sets) s 0 lt ∙ omega arith in
      let j_lt : k < length (f (get_or (below (length sets)) s 0)) = omega (arith, ap (λ x. length (f x)) here) in
      ap (λ l. get_or l (row_start g s + k) 0) laid.targets_are
      ∙ ap (λ x. get_or (flat_map f (below (length sets))) (x + k) 0) (start_is s lt ∙ ap (λ l. length (flat_map f l)) (sym (take_below (length sets) s (omega arith))))
      ∙ get_or-flat_map f (below (length sets)) s k 0 0 s_lt j_lt
      ∙ ap (λ x. get_or (f x) k 0) here

  pub flipped_holders : (edges : InEdges) → IsFlip g edges → AreHolders sets edges
  flipped_holders edges flip = are_holders g lawful edges flip sets laid.size row_ends row_targets
