-- Places that are found mirrored: parts of lists, one row, all rows.
use Rattle.std.proofs.Common.{◌≡◌, ◌≢◌, ℕ, zero, suc, ◌+◌, ◌-◌, ◌<◌, ◌≤◌, List, [], ◌∷◌, ◌++◌, length, get_or, set, take, drop, cond, eqb, refl, sym, ◌∙◌, ap, subst, arith, inl, inr}
use Rattle.std.specs.Prelude.{slice_range, All}
use Rattle.std.specs.List.{count_by, sum_by}
use Rattle.std.specs.List.Sorted.{IsPermutation}
use Rattle.std.proofs.lemmas.Bool.{cases_eq, cases_lt, cases_order, eq-eqb, ne_eqb}
use Rattle.std.proofs.lemmas.List.{get_or-set_same, get_or-set_other, get_or_append_left, get_or-append_right, length-set, length-append, take_all, take-append-le, take-take, drop-append-le, drop-drop, drop-take, drop_all}
use Rattle.std.proofs.lemmas.List.Edits.{between_more, length-between}
use Rattle.std.proofs.lemmas.List.Sums.{sum_by-append, sum_by-cons, count_by_more_yes, count_by_more_no}
use Rattle.std.proofs.lemmas.List.Sorted.{sum_by-IsPermutation}
use Rattle.std.proofs.lemmas.Slice.{between_is}
use Rattle.jul_base.specs.declared.graphs.RawGraph.{RawGraph}
use Rattle.jul_base.specs.Graph.{vertices, row, row_start, row_end, count, IsLawful}
use Rattle.jul_base.specs.Symmetry.{IsSymmetric}
use Rattle.jul_base.proofs.GraphLaws.{row_end-next, row_end-last, row_end-le, row_start-le-row_end}
use Rattle.jul_base.proofs.RowLaws.{row_end-le-row_start, length-row}
use Rattle.jul_rows.specs.Mirrors.{count_in, start_in, end_in, IsRearranged, AreStarts, HasTaken, HaveTaken, AreUsedUp, AreMirrored}

-- ---- parts of a list

count_in-none : (xs : List ℕ) (i x : ℕ) → count_in xs i i x ≡ 0
count_in-none xs i x = let none : i - i ≡ 0 = omega arith in ap (λ k. count_by (λ y. eqb y x) (take k (drop i xs))) none

count_in-more : (xs : List ℕ) (i j x : ℕ) → i ≤ j → j < length xs → count_in xs i (j + 1) x ≡ count_in xs i j x + cond (eqb (get_or xs j 0) x) 1 0
count_in-more xs i j x le lt =
    let f : ℕ → ℕ = λ y. cond (eqb y x) 1 0 in
    omega (
      arith,
      ap (sum_by f) (between_more xs i j 0 le lt),
      sum_by-append f (slice_range xs i j) (get_or xs j 0 ∷ []),
      sum_by-cons f (get_or xs j 0) [],
    )

count_in-split : (xs : List ℕ) (i j d x : ℕ) → i ≤ j → j + d ≤ length xs → count_in xs i (j + d) x ≡ count_in xs i j x + count_in xs j (j + d) x
count_in-split xs i j zero x le within =
    let none : j + 0 ≡ j = omega arith in
    omega (arith, ap (λ k. count_in xs i k x) none, ap (λ k. count_in xs j k x) none, count_in-none xs j x)
count_in-split xs i j (suc d) x le within =
    let more : j + suc d ≡ (j + d) + 1 = omega arith in
    omega (
      arith,
      ap (λ k. count_in xs i k x) more,
      ap (λ k. count_in xs j k x) more,
      count_in-more xs i (j + d) x (omega (arith, le)) (omega (arith, within)),
      count_in-more xs j (j + d) x (omega arith) (omega (arith, within)),
      count_in-split xs i j d x le (omega (arith, within)),
    )

-- a part in two
in_two : (xs : List ℕ) (i j k x : ℕ) → i ≤ j → j ≤ k → k ≤ length xs → count_in xs i k x ≡ count_in xs i j x + count_in xs j k x
in_two xs i j k x le le' within =
    let same : j + (k - j) ≡ k = omega (arith, le') in
    omega (arith, ap (λ e. count_in xs i e x) same, ap (λ e. count_in xs j e x) same, count_in-split xs i j (k - j) x le (omega (arith, within, le')))

-- ---- one row

pub taken_none : (u from : ℕ) (row mirror old : List ℕ) → ((k : ℕ) → k < length old → get_or old k 0 ≤ length mirror) → HasTaken u from (take 0 row) mirror old old
taken_none u from row mirror old within = record {
  size = refl;
  grows = λ k lt. omega arith;
  within = within;
  taken = λ k lt above. sym (count_in-none mirror (get_or old k 0) u);
  others = λ k x lt other. count_in-none mirror (get_or old k 0) x;
}

-- an entry that isn't above u, or isn't in the window, takes nothing
pub taken_other : (u from : ℕ) (row mirror old now : List ℕ) (i w : ℕ) → HasTaken u from (take i row) mirror old now → i < length row → w ≡ get_or row i 0 →
    ((k : ℕ) → k < length old → u < from + k → w ≢ from + k) → HasTaken u from (take (i + 1) row) mirror old now
taken_other u from row mirror old now i w h lt w_is outside = record {
  size = h.size;
  grows = h.grows;
  within = h.within;
  taken = λ k k_lt above.
      count_by_more_no (λ x. eqb x (from + k)) row i 0 lt (ne_eqb (get_or row i 0) (from + k) (λ e. outside k k_lt above (w_is ∙ e)))
      ∙ h.taken k k_lt above;
  others = h.others;
}

pub taken_more : (u from : ℕ) (row mirror old now : List ℕ) (i k at : ℕ) → HasTaken u from (take i row) mirror old now → i < length row → from + k ≡ get_or row i 0 → k < length old → at ≡ get_or now k 0 →
    at < length mirror → get_or mirror at 0 ≡ u → HasTaken u from (take (i + 1) row) mirror old (set now k (at + 1))
taken_more u from row mirror old now i k at h lt w_is in_window at_is inside found = record {
  size = length-set now k (at + 1) ∙ h.size;
  grows = λ j j_lt. elim (cases_eq k j) [
    | inl same ↦ omega (arith, here j same, h.grows k in_window, at_is, ap (λ i. get_or old i 0) same)
    | inr other ↦ omega (arith, there j other, h.grows j j_lt)
  ];
  within = λ j j_lt. elim (cases_eq k j) [
    | inl same ↦ omega (arith, here j same, inside)
    | inr other ↦ omega (arith, there j other, h.within j j_lt)
  ];
  taken = λ j j_lt above. elim (cases_eq k j) [
    | inl same ↦
        let P : ℕ → Type 0 = λ j. count_by (λ x. eqb x (from + j)) (take (i + 1) row) ≡ count_in mirror (get_or old j 0) (get_or (set now k (at + 1)) j 0) u in
        subst P same (omega (
          arith,
          count_by_more_yes (λ x. eqb x (from + k)) row i 0 lt (eq-eqb (get_or row i 0) (from + k) (sym w_is)),
          h.taken k in_window (omega (arith, above, same)),
          ap (λ e. count_in mirror (get_or old k 0) e u) (sym at_is),
          one_more u,
          ap {B = ℕ} (λ b. cond b 1 0) (eq-eqb (get_or mirror at 0) u found),
        ))
    | inr other ↦ omega (
      arith,
      count_by_more_no (λ x. eqb x (from + j)) row i 0 lt (ne_eqb (get_or row i 0) (from + j) (λ e. other (omega (arith, w_is, e)))),
      h.taken j j_lt above,
      ap (λ e. count_in mirror (get_or old j 0) e u) (there j other),
    )
  ];
  others = λ j x j_lt apart. elim (cases_eq k j) [
    | inl same ↦
        let P : ℕ → Type 0 = λ j. count_in mirror (get_or old j 0) (get_or (set now k (at + 1)) j 0) x ≡ 0 in
        subst P same (omega (
          arith,
          h.others k x in_window apart,
          ap (λ e. count_in mirror (get_or old k 0) e x) (sym at_is),
          one_more x,
          ap {B = ℕ} (λ b. cond b 1 0) (ne_eqb (get_or mirror at 0) x (λ e. apart (sym e ∙ found))),
        ))
    | inr other ↦ omega (arith, h.others j x j_lt apart, ap (λ e. count_in mirror (get_or old j 0) e x) (there j other))
  ];
} where
  in_now : k < length now
  in_now = omega (arith, in_window, h.size)

  here : (j : ℕ) → k ≡ j → get_or (set now k (at + 1)) j 0 ≡ at + 1
  here j same = ap (λ i. get_or (set now k (at + 1)) i 0) (sym same) ∙ get_or-set_same now k (at + 1) 0 in_now

  there : (j : ℕ) → k ≢ j → get_or (set now k (at + 1)) j 0 ≡ get_or now j 0
  there j other = get_or-set_other now k j (at + 1) 0 (λ e. other (sym e))

  one_more : (x : ℕ) → count_in mirror (get_or old k 0) (get_or (set now k (at + 1)) k 0) x ≡ count_in mirror (get_or old k 0) at x + cond (eqb (get_or mirror at 0) x) 1 0
  one_more x =
      ap (λ e. count_in mirror (get_or old k 0) e x) (get_or-set_same now k (at + 1) 0 in_now)
      ∙ count_in-more mirror (get_or old k 0) at x (omega (arith, h.grows k in_window, at_is)) inside

-- ---- all rows

pub used_none : (g : RawGraph) (from : ℕ) (mirror next : List ℕ) → AreUsedUp g from mirror next 0
used_none g from mirror next = record {
  stay = λ k before. absurd (omega (arith, before));
  above = λ k before. absurd (omega (arith, before));
}

pub used_more : (g : RawGraph) (from : ℕ) (mirror next : List ℕ) (k : ℕ) → AreUsedUp g from mirror next k → get_or next k 0 ≤ end_in g from (from + k) →
    All (λ x. from + k ≤ x) (slice_range mirror (get_or next k 0) (end_in g from (from + k))) → AreUsedUp g from mirror next (k + 1)
used_more g from mirror next k h stay above = record {
  stay = λ j before. elim (cases_eq k j) [
    | inl same ↦ let P : ℕ → Type 0 = λ j. get_or next j 0 ≤ end_in g from (from + j) in subst P same stay
    | inr other ↦ h.stay j (omega (arith, before, other))
  ];
  above = λ j before. elim (cases_eq k j) [
    | inl same ↦ let P : ℕ → Type 0 = λ j. All (λ x. from + j ≤ x) (slice_range mirror (get_or next j 0) (end_in g from (from + j))) in subst P same above
    | inr other ↦ h.above j (omega (arith, before, other))
  ];
}

-- what isn't below w has no lesser number
none_below : (w u : ℕ) (xs : List ℕ) → u < w → All (λ x. w ≤ x) xs → count_by (λ y. eqb y u) xs ≡ 0
none_below w u [] less above = refl
none_below w u (x ∷ xs) less above =
    let here : w ≤ x = above 0 0 (omega arith) in
    omega (
      arith,
      sum_by-cons (λ y. cond {A = ℕ} (eqb y u) 1 0) x xs,
      ap {B = ℕ} (λ b. cond b 1 0) (ne_eqb x u (λ e. omega (arith, e, less, here))),
      none_below w u xs less (λ k d lt. above (suc k) d (omega (arith, lt))),
    )

module _ (g : RawGraph) (lawful : IsLawful g) where
  -- ---- the rows of a window

  pub start_rises : (from v : ℕ) → from ≤ v → v < vertices g → row_start g from ≤ row_start g v
  start_rises from v le lt = elim (cases_eq from v) [
    | inl same ↦ omega (arith, ap (row_start g) same)
    | inr other ↦ omega (
      arith,
      row_start-le-row_end g lawful from (omega (arith, le, lt)),
      row_end-le-row_start g lawful from v (omega (arith, le, other)) lt,
    )
  ]

  pub start_before_end : (from v : ℕ) → from ≤ v → v < vertices g → row_start g from ≤ row_end g v
  start_before_end from v le lt = omega (arith, start_rises from v le lt, row_start-le-row_end g lawful v lt)

  pub end_in_mirror : (from to : ℕ) (mirror : List ℕ) → IsRearranged g from to mirror → (v : ℕ) → v < to → end_in g from v ≤ length mirror
  end_in_mirror from to mirror are v lt = elim (cases_lt to (vertices g)) [
    | inl more ↦ omega (arith, row_end-le-row_start g lawful v to lt more, are.size more)
    | inr past ↦ omega (arith, row_end-le g lawful v, are.whole past)
  ]

  start_in_mirror : (from to : ℕ) (mirror : List ℕ) → IsRearranged g from to mirror → (v : ℕ) → v < to → v < vertices g → start_in g from v ≤ length mirror
  start_in_mirror from to mirror are v lt v_lt = omega (arith, end_in_mirror from to mirror are v lt, row_start-le-row_end g lawful v v_lt)

  -- ---- entries taken

  pub have_none : (from to : ℕ) (mirror next : List ℕ) → IsRearranged g from to mirror → to ≤ vertices g → AreStarts g from to next → HaveTaken g from to mirror 0 next
  have_none from to mirror next are inside h = record {
    size = h.size;
    starts = λ k lt. omega (arith, h.each k lt);
    within = λ k lt.
        omega (arith, start_in_mirror from to mirror are (from + k) (omega (arith, lt, h.size)) (omega (arith, lt, h.size, inside)), h.each k lt);
    taken = λ u k lt _ _. absurd (omega (arith, lt));
    later = λ u k _ lt. ap (λ e. count_in mirror (start_in g from (from + k)) e u) (h.each k lt) ∙ count_in-none mirror (start_in g from (from + k)) u;
  }

  pub have_more : (from to : ℕ) (mirror : List ℕ) (u : ℕ) (next next' : List ℕ) → HaveTaken g from to mirror u next → HasTaken u from (row g u) mirror next next' → HaveTaken g from to mirror (u + 1) next'
  have_more from to mirror u next next' h one = record {
    size = omega (arith, one.size, h.size);
    starts = λ k lt. omega (arith, h.starts k (at k lt), one.grows k (at k lt));
    within = λ k lt. one.within k (at k lt);
    taken = λ v k v_lt above lt. elim (cases_eq v u) [
      | inl same ↦
          let P : ℕ → Type 0 = λ v. count g v (from + k) ≡ count_in mirror (start_in g from (from + k)) (get_or next' k 0) v in
          subst P (sym same) (omega (arith, two k u lt, h.later u k (omega arith) (at k lt), one.taken k (at k lt) (omega (arith, above, same))))
      | inr other ↦ omega (arith, two k v lt, h.taken v k (omega (arith, v_lt, other)) above (at k lt), one.others k v (at k lt) other)
    ];
    later = λ v k v_ge lt.
        omega (arith, two k v lt, h.later v k (omega (arith, v_ge)) (at k lt), one.others k v (at k lt) (λ e. omega (arith, v_ge, e)));
  } where
    at : (k : ℕ) → k < length next' → k < length next
    at k lt = omega (arith, lt, one.size)

    two : (k x : ℕ) → k < length next' →
        count_in mirror (start_in g from (from + k)) (get_or next' k 0) x ≡ count_in mirror (start_in g from (from + k)) (get_or next k 0) x + count_in mirror (get_or next k 0) (get_or next' k 0) x
    two k x lt = in_two mirror (start_in g from (from + k)) (get_or next k 0) (get_or next' k 0) x (h.starts k (at k lt)) (one.grows k (at k lt)) (one.within k (at k lt))

  -- entries both ways, of a lesser vertex and one of the window
  at_mark : (from to : ℕ) (mirror next : List ℕ) → to ≤ vertices g → IsRearranged g from to mirror → HaveTaken g from to mirror to next → AreUsedUp g from mirror next (length next) →
      (u k : ℕ) → u < from + k → k < length next → count g u (from + k) ≡ count g (from + k) u
  at_mark from to mirror next inside are h used u k less lt =
      let in_window : from + k < to = omega (arith, lt, h.size) in
      omega (
        arith,
        h.taken u k (omega (arith, less, in_window)) less lt,
        in_two mirror (start_in g from (from + k)) (get_or next k 0) (end_in g from (from + k)) u (h.starts k lt) (used.stay k lt) (end_in_mirror from to mirror are (from + k) in_window),
        none_below (from + k) u (slice_range mirror (get_or next k 0) (end_in g from (from + k))) less (used.above k lt),
        are.counts (from + k) u (omega arith) in_window (omega (arith, in_window, inside)),
      )

  pub mirrored : (from to : ℕ) (mirror next : List ℕ) → to ≤ vertices g → IsRearranged g from to mirror → HaveTaken g from to mirror to next → AreUsedUp g from mirror next (length next) → AreMirrored g from to
  mirrored from to mirror next inside are h used u w less ge lt w_lt =
      let same : from + (w - from) ≡ w = omega (arith, ge) in
      let P : ℕ → Type 0 = λ w. count g u w ≡ count g w u in
      subst P same (at_mark from to mirror next inside are h used u (w - from) (omega (arith, less, same)) (omega (arith, lt, ge, h.size)))

  pub starts_none : (from : ℕ) → AreStarts g from from []
  starts_none from = record { size = omega arith; each = λ k lt. absurd (omega (arith, lt)) }

  pub starts_more : (from v : ℕ) (starts : List ℕ) → AreStarts g from v starts → AreStarts g from (v + 1) (starts ++ (start_in g from v ∷ []))
  starts_more from v starts h = record {
    size = omega (arith, length-append starts (start_in g from v ∷ []), h.size);
    each = λ k lt. elim (cases_eq k (length starts)) [
      | inl same ↦
          let none : k - length starts ≡ 0 = omega (arith, same) in
          let here : from + k ≡ v = omega (arith, same, h.size) in
          get_or-append_right starts (start_in g from v ∷ []) (length starts) k 0 refl (omega (arith, same)) ∙ ap (λ j. get_or (start_in g from v ∷ []) j 0) none ∙ ap (start_in g from) (sym here)
      | inr other ↦
          let before : k < length starts = omega (arith, lt, other, length-append starts (start_in g from v ∷ [])) in
          get_or_append_left starts (start_in g from v ∷ []) 0 k before ∙ h.each k before
    ];
  }

  -- ---- sorted rows

  -- a part of a part
  part_of_part : (xs : List ℕ) (a b i j : ℕ) → a ≤ i → i ≤ j → j ≤ b → slice_range (slice_range xs a b) (i - a) (j - a) ≡ slice_range xs i j
  part_of_part xs a b i j from rises to =
      let long : b - a ≡ (i - a) + (b - i) = omega (arith, from, rises, to) in
      let many : (j - a) - (i - a) ≡ j - i = omega (arith, from, rises) in
      let at : a + (i - a) ≡ i = omega (arith, from) in
      let dropped : drop (i - a) (slice_range xs a b) ≡ take (b - i) (drop i xs) =
      ap (λ k. drop (i - a) (take k (drop a xs))) long ∙ drop-take (i - a) (b - i) (drop a xs) ∙ ap (take (b - i)) (drop-drop (i - a) a xs ∙ ap (λ k. drop k xs) at) in
      ap (λ k. take k (drop (i - a) (slice_range xs a b))) many ∙ ap (take (j - i)) dropped ∙ take-take (j - i) (b - i) (drop i xs) (omega (arith, to))

  pub own_rearranged : (from last : ℕ) → from ≤ last → last < vertices g → IsRearranged g from (last + 1) (slice_range g.targets (row_start g from) (row_end g last))
  own_rearranged from last le lt = record {
    size = λ next. omega (arith, long, row_end-next g last next);
    whole = λ past. omega (arith, long, row_end-last g last past);
    counts = λ v x ge v_lt in_range.
        ap (count_by (λ y. eqb y x)) (part_of_part g.targets (row_start g from) (row_end g last) (row_start g v) (row_end g v) (start_rises from v ge in_range) (row_start-le-row_end g lawful v in_range)
        (end_rises v (omega (arith, v_lt))));
  } where
    long : row_start g from + length (slice_range g.targets (row_start g from) (row_end g last)) ≡ row_end g last
    long = omega (arith, length-between g.targets (row_start g from) (row_end g last) (row_end-le g lawful last), start_before_end from last le lt)

    end_rises : (v : ℕ) → v ≤ last → row_end g v ≤ row_end g last
    end_rises v v_le = elim (cases_eq v last) [
      | inl same ↦ omega (arith, ap (row_end g) same)
      | inr other ↦ omega (arith, row_end-le-row_start g lawful v last (omega (arith, v_le, other)) lt, row_start-le-row_end g lawful last lt)
    ]

  pub rearranged_none : (from : ℕ) → from < vertices g → IsRearranged g from from []
  rearranged_none from some = record {
    size = λ _. omega arith;
    whole = λ none. absurd (omega (arith, none, some));
    counts = λ v x ge lt _. absurd (omega (arith, ge, lt));
  }

  -- a part of the front of a list
  front : (xs ys : List ℕ) (i j x : ℕ) → j ≤ length xs → count_in (xs ++ ys) i j x ≡ count_in xs i j x
  front xs ys i j x le =
      ap (count_by (λ y. eqb y x)) (between_is (xs ++ ys) i j ∙ ap (drop i) (take-append-le j xs ys le) ∙ sym (between_is xs i j))

  -- all of the back of a list
  back : (xs ys : List ℕ) (i j x : ℕ) → i ≡ length xs → j ≡ length xs + length ys → count_in (xs ++ ys) i j x ≡ count_by (λ y. eqb y x) ys
  back xs ys i j x i_is j_is =
      let dropped : drop i (xs ++ ys) ≡ ys = drop-append-le i xs ys (omega (arith, i_is)) ∙ ap (λ l. l ++ ys) (drop_all i xs (omega (arith, i_is))) in
      ap (count_by (λ y. eqb y x)) (ap (take (j - i)) dropped ∙ take_all (j - i) ys (omega (arith, i_is, j_is)))

  pub rearranged_more : (from v : ℕ) (mirror part : List ℕ) → IsRearranged g from v mirror → from ≤ v → v < vertices g → length part ≡ length (row g v) → IsPermutation (row g v) part →
      IsRearranged g from (v + 1) (mirror ++ part)
  rearranged_more from v mirror part h from_le lt size same = record {
    size = λ next. omega (arith, ends, row_end-next g v next);
    whole = λ past. omega (arith, ends, row_end-last g v past);
    counts = λ u x ge u_lt u_in. elim (cases_eq u v) [
      | inl here ↦
          let P : ℕ → Type 0 = λ k. count_in (mirror ++ part) (start_in g from k) (end_in g from k) x ≡ count g k x in
          subst P (sym here) (back mirror part (start_in g from v) (end_in g from v) x (omega (arith, h.size lt)) (omega (arith, ends, length-append mirror part))
          ∙ sum_by-IsPermutation (λ y. cond (eqb y x) 1 0) (row g v) part same)
      | inr other ↦
          let before : u < v = omega (arith, u_lt, other) in
          front mirror part (start_in g from u) (end_in g from u) x (omega (arith, row_end-le-row_start g lawful u v before lt, h.size lt)) ∙ h.counts u x ge before u_in
    ];
  } where
    ends : row_start g from + length (mirror ++ part) ≡ row_end g v
    ends = omega (arith, length-append mirror part, h.size lt, size, length-row g lawful v, row_start-le-row_end g lawful v lt)

-- ---- windows

module _ (g : RawGraph) where
  -- two windows, one behind the other
  pub mirrored_both : (from between to : ℕ) → AreMirrored g from between → AreMirrored g between to → AreMirrored g from to
  mirrored_both from between to before after u w less ge lt w_lt = elim (cases_lt w between) [
    | inl early ↦ before u w less ge early w_lt
    | inr late ↦ after u w less late lt w_lt
  ]

  pub mirrored_symmetric : AreMirrored g 0 (vertices g) → IsSymmetric g
  mirrored_symmetric are u w u_lt w_lt = elim (cases_order u w) [
    | inl same ↦ let P : ℕ → Type 0 = λ k. count g u k ≡ count g k u in subst P same refl
    | inr (inl less) ↦ are u w less (omega arith) w_lt w_lt
    | inr (inr more) ↦ sym (are w u more (omega arith) u_lt u_lt)
  ]
