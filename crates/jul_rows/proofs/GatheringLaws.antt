-- Sets that are gathered row by row: one set more, and all sets.
use Rattle.std.proofs.Common.{◌≡◌, ℕ, zero, suc, ◌+◌, ◌-◌, ◌<◌, ◌≤◌, Bool, List, [], ◌∷◌, ◌++◌, length, get_or, take, drop, true, false, eqb, sym, ◌∙◌, ap, subst, refl, arith, inl, inr}
use Rattle.std.specs.List.{slice_range, filter, All, Contains, dedup}
use Rattle.std.specs.List.Sorted.{IsPermutation, IsSorted}
use Rattle.std.specs.Ordering.{nat_cmp}
use Rattle.std.proofs.lemmas.Bool.{cases_lt}
use Rattle.std.proofs.lemmas.List.{take-append-le, take_all, drop_at, length-append, get_or_append_left, get_or_push, length_push, ext_get_or}
use Rattle.std.proofs.lemmas.List.Edits.{get_or-between}
use Rattle.std.proofs.lemmas.List.Elements.{All-contains, Contains-get_or}
use Rattle.std.proofs.lemmas.List.Kept.{IsStrictlyIncreasing-filter, Contains-dedup_nat, Contains-from_dedup}
use Rattle.std.proofs.lemmas.List.Sorted.{IsPermutation-sym, Contains-permutation}
use Rattle.std.proofs.lemmas.Map.Keys.{IsStrictlyIncreasing-dedup}
use Rattle.std.proofs.lemmas.Slice.{between_is}
use Rattle.jul_base.specs.declared.graphs.RawGraph.{RawGraph}
use Rattle.jul_base.specs.Numbers.{below}
use Rattle.jul_base.specs.Graph.{vertices, row, row_end, IsLawful}
use Rattle.jul_base.specs.Sets.{has, set_of, sets_of, IsElementOf}
use Rattle.jul_base.proofs.GraphLaws.{row_end-le, row_end-next, row_start-le-row_end}
use Rattle.jul_base.proofs.RowLaws.{length-row}
use Rattle.jul_base.proofs.SetLaws.{increasing_unique, Contains-from_has, has-from_Contains, Contains-filter, Contains-from_filter, Contains-below, IsStrictlyIncreasing-below, length-sets_of, get_or-sets_of, set_of-below}
use Rattle.jul_rows.specs.Cuts.{part, parts, IsCut}
use Rattle.jul_rows.specs.Gathering.{IsGathered, AreMarks}
use Rattle.jul_rows.proofs.CutLaws.{length-parts, get_or-parts, length-part}

-- a list that was sorted and rid of repeats holds what it held, in increasing order
pub dedup_is_set : (n : ℕ) (xs ys : List ℕ) → All (λ x. x < n) xs → IsPermutation xs ys → IsSorted nat_cmp ys → dedup eqb ys ≡ filter (has xs) (below n)
dedup_is_set n xs ys small moved sorted =
    increasing_unique (dedup eqb ys) (filter (has xs) (below n)) (IsStrictlyIncreasing-dedup ys sorted)
    (IsStrictlyIncreasing-filter (has xs) (below n) (IsStrictlyIncreasing-below n))
    (λ x held.
    let in_xs : Contains xs x = Contains-permutation ys xs x (IsPermutation-sym xs ys moved) (Contains-from_dedup eqb ys x held) in
    Contains-filter (has xs) (below n) x (Contains-below n x (All-contains (λ y. y < n) xs x small in_xs)) (has-from_Contains xs x in_xs))
    (λ x held.
    let passes : has xs x ≡ true = (Contains-from_filter (has xs) (below n) x held).1 in
    Contains-dedup_nat ys x (Contains-permutation xs ys x moved (Contains-from_has xs x passes)))

-- a part of a longer list
slice_range-append_left : (xs ys : List ℕ) (a b : ℕ) → b ≤ length xs → slice_range (xs ++ ys) a b ≡ slice_range xs a b
slice_range-append_left xs ys a b le = between_is (xs ++ ys) a b ∙ ap (drop a) (take-append-le b xs ys le) ∙ sym (between_is xs a b)

slice_range-append_right : (xs ys : List ℕ) → slice_range (xs ++ ys) (length xs) (length xs + length ys) ≡ ys
slice_range-append_right xs ys =
    let size : length xs + length ys - length xs ≡ length ys = omega arith in
    ap (λ (l : List ℕ). take (length xs + length ys - length xs) l) (drop_at xs ys (length xs) refl)
    ∙ take_all (length xs + length ys - length xs) ys (omega arith)

-- one set more
pub IsGathered-more : (g : RawGraph) → IsLawful g → (s : ℕ) (bounds items ds : List ℕ) → IsGathered g s bounds items → s < vertices g →
    ds ≡ set_of g s → length ds ≤ length (row g s) → IsGathered g (s + 1) (bounds ++ (length items + length ds) ∷ []) (items ++ ds)
IsGathered-more g lawful s bounds items ds is in_range ds_is short =
    let end : ℕ = length items + length ds in
    let items_size : length (items ++ ds) ≡ end = length-append items ds in
    let bounds_size : length (bounds ++ end ∷ []) ≡ s + 2 = omega (arith, length_push bounds end, is.size) in
    let old : (v : ℕ) → v ≤ s → get_or (bounds ++ end ∷ []) v 0 ≡ get_or bounds v 0 = λ v le. get_or_append_left bounds (end ∷ []) 0 v (omega (arith, is.size)) in
    let new : get_or (bounds ++ end ∷ []) (s + 1) 0 ≡ end = get_or_push bounds end 0 (s + 1) is.size in
    let after : end ≤ row_end g s =
    omega (arith, is.room_before in_range, short, length-row g lawful s, row_start-le-row_end g lawful s in_range) in
    record {
      size = omega (arith, bounds_size);
      first = old 0 (omega arith) ∙ is.first;
      last = new ∙ sym items_size;
      cut = record {
        some = omega (arith, bounds_size);
        few = omega (arith, bounds_size, lawful.few_vertices);
        rising = λ v lt.
            elim (cases_lt v s) [
              | inl before ↦ omega (arith, old v (omega arith), old (v + 1) (omega arith), is.cut.rising v (omega (arith, is.size)))
              | inr le ↦
                  let same : v ≡ s = omega (arith, bounds_size) in
                  omega (
                    arith,
                    ap (λ k. get_or (bounds ++ end ∷ []) k 0) same,
                    ap (λ k. get_or (bounds ++ end ∷ []) (k + 1) 0) same,
                    old s (omega arith),
                    new,
                    is.last,
                  )
            ];
        within = λ v lt.
            elim (cases_lt s v) [
              | inl later ↦
                  let same : v ≡ s + 1 = omega (arith, bounds_size) in
                  omega (arith, ap (λ k. get_or (bounds ++ end ∷ []) k 0) same, new, items_size)
              | inr le ↦ omega (arith, old v le, is.cut.within v (omega (arith, is.size)), items_size)
            ];
      };
      each = λ r lt.
          elim (cases_lt r s) [
            | inl before ↦
                ap (λ a. slice_range (items ++ ds) a (get_or (bounds ++ end ∷ []) (r + 1) 0)) (old r (omega arith))
                ∙ ap (λ b. slice_range (items ++ ds) (get_or bounds r 0) b) (old (r + 1) (omega arith))
                ∙ slice_range-append_left items ds (get_or bounds r 0) (get_or bounds (r + 1) 0) (is.cut.within (r + 1) (omega (arith, is.size)))
                ∙ is.each r before
            | inr le ↦
                let same : r ≡ s = omega arith in
                ap (λ k. part (bounds ++ end ∷ []) (items ++ ds) k) same
                ∙ ap (λ a. slice_range (items ++ ds) a (get_or (bounds ++ end ∷ []) (s + 1) 0)) (old s (omega arith) ∙ is.last)
                ∙ ap (λ b. slice_range (items ++ ds) (length items) b) new
                ∙ slice_range-append_right items ds
                ∙ ds_is
                ∙ ap (set_of g) (sym same)
          ];
      room = omega (arith, items_size, after, row_end-le g lawful s);
      room_before = λ lt. omega (arith, items_size, after, row_end-next g s lt);
    }

-- the parts are the sets
pub parts_are_sets : (g : RawGraph) (bounds items : List ℕ) → IsGathered g (vertices g) bounds items → parts bounds items ≡ sets_of g
parts_are_sets g bounds items is =
    let size : length (parts bounds items) ≡ vertices g = omega (arith, length-parts bounds items, is.size) in
    ext_get_or [] (parts bounds items) (sets_of g) (size ∙ sym (length-sets_of g)) (λ s lt.
    let in_range : s < vertices g = omega (arith, size) in
    get_or-parts bounds items s (omega (arith, is.size)) ∙ is.each s in_range ∙ sym (get_or-sets_of g s in_range))

-- the part in which an item stands
find_part : (bounds : List ℕ) (k n : ℕ) → get_or bounds 0 0 ≡ 0 → k < get_or bounds n 0 →
    (s : ℕ) × (s < n) × (get_or bounds s 0 ≤ k) × (k < get_or bounds (s + 1) 0)
find_part bounds k zero first lt = absurd (omega arith)
find_part bounds k (suc n) first lt =
    let next : suc n ≡ n + 1 = omega arith in
    elim (cases_lt k (get_or bounds n 0)) [
      | inl before ↦
          let (s, s_lt, from, to) = find_part bounds k n first before in
          (s, omega arith, from, to)
      | inr le ↦ (n, omega arith, le, omega (arith, ap (λ i. get_or bounds i 0) next))
    ]

-- what stands in a part stands among the items, and the other way round
pub Contains-part : (bounds items : List ℕ) (s v : ℕ) → IsCut bounds (length items) → s + 1 < length bounds → Contains (part bounds items s) v → Contains items v
Contains-part bounds items s v cut s_lt (k, k_lt, at) =
    let size = length-part bounds items (length items) cut refl s s_lt in
    let inside : get_or bounds s 0 + k < get_or bounds (s + 1) 0 = omega (arith, size) in (
      get_or bounds s 0 + k,
      omega (arith, cut.within (s + 1) s_lt),
      sym (get_or-between items (get_or bounds s 0) (get_or bounds (s + 1) 0) k v inside) ∙ at,
    )

pub Contains-items : (g : RawGraph) (bounds items : List ℕ) (v : ℕ) → IsGathered g (vertices g) bounds items → Contains items v → IsElementOf (parts bounds items) v
Contains-items g bounds items v is (k, k_lt, at) =
    let (s, s_lt, from, to) = find_part bounds k (vertices g) is.first (omega (arith, is.last)) in
    let in_range : s + 1 < length bounds = omega (arith, is.size) in
    let size = length-part bounds items (length items) is.cut refl s in_range in
    let here : get_or bounds s 0 + (k - get_or bounds s 0) ≡ k = omega arith in
    let P : List ℕ → Type 0 = λ set. Contains set v in
    let held : Contains (part bounds items s) v = (
      k - get_or bounds s 0,
      omega (arith, size),
      get_or-between items (get_or bounds s 0) (get_or bounds (s + 1) 0) (k - get_or bounds s 0) v (omega arith) ∙ ap (λ i. get_or items i v) here ∙ at,
    ) in
    (s, omega (arith, length-parts bounds items, is.size), subst P (sym (get_or-parts bounds items s in_range)) held)

pub AreMarks-from_items : (g : RawGraph) (bounds items : List ℕ) (marks : List Bool) → IsGathered g (vertices g) bounds items →
    length marks ≡ vertices g → ((v : ℕ) → v < vertices g → get_or marks v false ≡ has items v) → AreMarks (parts bounds items) marks
AreMarks-from_items g bounds items marks is size each = record {
  size = omega (arith, size, length-parts bounds items, is.size);
  each = λ v lt.
      let in_range : v < vertices g = omega (arith, size) in (
        λ marked. Contains-items g bounds items v is (Contains-from_has items v (sym (each v in_range) ∙ marked)),
        λ (s, s_lt, held).
            let s_in : s + 1 < length bounds = omega (arith, length-parts bounds items) in
            let P : List ℕ → Type 0 = λ set. Contains set v in
            each v in_range ∙ has-from_Contains items v (Contains-part bounds items s v is.cut s_in (subst P (get_or-parts bounds items s s_in) held)),
      );
}

-- each item is a vertex
pub items_below : (g : RawGraph) (bounds items : List ℕ) → IsGathered g (vertices g) bounds items → All (λ e. e < vertices g) items
items_below g bounds items is k d lt =
    let (s, s_lt, held) = Contains-items g bounds items (get_or items k d) is (Contains-get_or items k d lt) in
    let s_in : s + 1 < length bounds = omega (arith, length-parts bounds items) in
    let in_range : s < vertices g = omega (arith, is.size) in
    let P : List ℕ → Type 0 = λ set. Contains set (get_or items k d) in
    set_of-below g s (get_or items k d) (subst P (get_or-parts bounds items s s_in ∙ is.each s in_range) held)
