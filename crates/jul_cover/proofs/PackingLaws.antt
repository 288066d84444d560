-- Sets that stand one behind another, and are packed where they stand.
use Rattle.std.proofs.Common.{Bool, true, false, ◌≡◌, ◌≢◌, ℕ, ◌+◌, ◌-◌, ◌<◌, ◌≤◌, List, [], ◌∷◌, ◌++◌, length, get_or, set, take, drop, refl, sym, ◌∙◌, ap, subst, arith, inl, inr}
use mir.Val.{bool_byte}
use Rattle.std.specs.List.{All, filter, Contains}
use Rattle.std.proofs.lemmas.List.Elements.{All-filter, Contains-push, Contains-push_cases, Contains-append_left}
use Rattle.jul_base.proofs.SetLaws.{member_cases}
use Rattle.std.proofs.lemmas.Bool.{cases_eq, cases_lt}
use Rattle.std.proofs.lemmas.List.Filters.{FiltersInPlace, FiltersInPlace-more_set, FiltersInPlace-more_no}
use Rattle.std.proofs.lemmas.List.{drop-drop, drop-take, take-append-le, length-append, get_or_append_left, drop-append-le, length-drop, take_all, take_more, take-take, get_or_default, get_or-set_same, get_or-set_other, length-set, take-set-le, drop-set-lt, length-take-le}
use Rattle.std.proofs.Math.Seq.{get_or-append_seam, drop-append_seam}
use Rattle.jul_base.specs.declared.limits.TheConstants.{MAX_N}
use Rattle.jul_base.specs.Sets.{AreSets}
use Rattle.jul_cover.proofs.ColumnLaws.{not_in_nil}
use Rattle.jul_base.specs.CoverRounds.{set_at}
use Rattle.jul_cover.specs.declared.packed_sets.PackedSets.{PackedSets}
use Rattle.jul_cover.specs.PackedSets.{AreFilled, ArePacked, HasPacked, pack_at, is_open}
use Rattle.jul_cover.proofs.CoverPackLaws.{filter_again}

-- ---- one set after another

pub filled_none : (sets : List (List ℕ)) → AreFilled sets 0 [] [] []
filled_none sets = record {
  starts_size = refl;
  lens_size = refl;
  inside = λ s lt. absurd (omega arith);
  apart = λ r s less lt. absurd (omega arith);
  each = λ s lt. absurd (omega arith);
}

module _ (sets : List (List ℕ)) (m : ℕ) (starts lens items set' : List ℕ) (a : AreFilled sets m starts lens items) where
  old_start : (s : ℕ) → s < m → get_or (starts ++ length items ∷ []) s 0 ≡ get_or starts s 0
  old_start s lt = get_or_append_left starts (length items ∷ []) 0 s (omega (arith, a.starts_size))

  old_len : (s : ℕ) → s < m → get_or (lens ++ length set' ∷ []) s 0 ≡ get_or lens s 0
  old_len s lt = get_or_append_left lens (length set' ∷ []) 0 s (omega (arith, a.lens_size))

  last_start : get_or (starts ++ length items ∷ []) m 0 ≡ length items
  last_start = ap (λ k. get_or (starts ++ length items ∷ []) k 0) (sym a.starts_size) ∙ get_or-append_seam starts (length items) [] 0

  last_len : get_or (lens ++ length set' ∷ []) m 0 ≡ length set'
  last_len = ap (λ k. get_or (lens ++ length set' ∷ []) k 0) (sym a.lens_size) ∙ get_or-append_seam lens (length set') [] 0

  old_part : (start len : ℕ) → start + len ≤ length items → take len (drop start (items ++ set')) ≡ take len (drop start items)
  old_part start len fits =
      ap (take len) (drop-append-le start items set' (omega arith))
      ∙ take-append-le len (drop start items) set' (omega (arith, length-drop start items))

  pub filled_more : set' ≡ set_at sets m → AreFilled sets (m + 1) (starts ++ length items ∷ []) (lens ++ length set' ∷ []) (items ++ set')
  filled_more is = record {
    starts_size = omega (arith, length-append starts (length items ∷ []), a.starts_size);
    lens_size = omega (arith, length-append lens (length set' ∷ []), a.lens_size);
    inside = λ s lt.
        elim (cases_lt s m) [
          | inl before ↦ omega (arith, old_start s before, old_len s before, a.inside s before, length-append items set')
          | inr last ↦
              let same : m ≡ s = omega arith in
              subst (λ k. get_or (starts ++ length items ∷ []) k 0 + get_or (lens ++ length set' ∷ []) k 0 ≤ length (items ++ set')) same
              (omega (arith, last_start, last_len, length-append items set'))
        ];
    apart = λ r s less lt.
        elim (cases_lt s m) [
          | inl before ↦ let first : r < m = omega arith in omega (arith, old_start r first, old_len r first, old_start s before, a.apart r s less before)
          | inr last ↦
              let same : m ≡ s = omega arith in
              let first : r < m = omega arith in
              subst (λ k. get_or (starts ++ length items ∷ []) r 0 + get_or (lens ++ length set' ∷ []) r 0 ≤ get_or (starts ++ length items ∷ []) k 0) same
              (omega (arith, old_start r first, old_len r first, last_start, a.inside r first))
        ];
    each = λ s lt.
        elim (cases_lt s m) [
          | inl before ↦
              let e : take (get_or (lens ++ length set' ∷ []) s 0) (drop (get_or (starts ++ length items ∷ []) s 0) (items ++ set')) ≡ take (get_or lens s 0) (drop (get_or starts s 0) (items ++ set')) =
              ap (λ k. take k (drop (get_or (starts ++ length items ∷ []) s 0) (items ++ set'))) (old_len s before) ∙ ap (λ k. take (get_or lens s 0) (drop k (items ++ set'))) (old_start s before) in
              e ∙ old_part (get_or starts s 0) (get_or lens s 0) (a.inside s before) ∙ a.each s before
          | inr last ↦
              let same : m ≡ s = omega arith in
              let whole : take (length set') (drop (length items) (items ++ set')) ≡ set' =
              ap (take (length set')) (drop-append_seam items set') ∙ take_all (length set') set' (omega arith) in
              subst (λ k. take (get_or (lens ++ length set' ∷ []) k 0) (drop (get_or (starts ++ length items ∷ []) k 0) (items ++ set')) ≡ set_at sets k) same
              (ap (λ k. take k (drop (get_or (starts ++ length items ∷ []) m 0) (items ++ set'))) last_len ∙ ap (λ k. take (length set') (drop k (items ++ set'))) last_start ∙ whole ∙ is)
        ];
  }

-- all sets, as they are
pub filled_whole : (sets : List (List ℕ)) (p : PackedSets) → AreSets sets → p.n ≡ length sets → p.n ≤ MAX_N → AreFilled sets p.n p.starts.items p.lens.items p.items.items → ArePacked p
filled_whole sets p are n few a = record {
  few = few;
  starts_size = a.starts_size;
  lens_size = a.lens_size;
  inside = a.inside;
  apart = a.apart;
  within = λ s lt.
      let in_range : s < length sets = omega (arith, n) in
      subst (All (λ e. e < p.n)) (sym (a.each s lt)) (subst (λ k. All (λ e. e < k) (set_at sets s)) (sym n) (are.within s in_range));
}

-- ---- a part that is packed

-- a part before one that was changed
part_before : (old new : List ℕ) (start a l : ℕ) → take start new ≡ take start old → a + l ≤ start → take l (drop a new) ≡ take l (drop a old)
part_before old new start a l same fits = cut new ∙ ap (λ xs. take l (drop a xs)) same ∙ sym (cut old)
  where
    cut : (xs : List ℕ) → take l (drop a xs) ≡ take l (drop a (take start xs))
    cut xs =
        let m : ℕ = start - a in
        let e : a + (start - a) ≡ start = omega arith in
        sym (ap (take l) (ap (λ k. drop a (take k xs)) (sym e) ∙ drop-take a (start - a) xs) ∙ take-take l (start - a) (drop a xs) (omega arith))

-- a part behind it
part_behind : (old new : List ℕ) (end a l : ℕ) → drop end new ≡ drop end old → end ≤ a → take l (drop a new) ≡ take l (drop a old)
part_behind old new end a l same later = ap (take l) (from new ∙ ap (drop (a - end)) same ∙ sym (from old))
  where
    from : (xs : List ℕ) → drop a xs ≡ drop (a - end) (drop end xs)
    from xs =
        let e : end + (a - end) ≡ a = omega arith in
        ap (λ k. drop k xs) (sym e) ∙ sym (drop-drop (a - end) end xs)

-- the packed sets with other elements, and another length of set s
pub record IsRepacked (p q : PackedSets) (by : List ℕ) (s kept : ℕ) : Type 0 where
  pub n : q.n ≡ p.n
  pub starts : q.starts.items ≡ p.starts.items
  pub lens : q.lens.items ≡ set p.lens.items s kept
  pub size : length q.items.items ≡ length p.items.items
  pub few : kept ≤ get_or p.lens.items s 0
  pub before : take (get_or p.starts.items s 0) q.items.items ≡ take (get_or p.starts.items s 0) p.items.items
  pub behind : drop (get_or p.starts.items s 0 + get_or p.lens.items s 0) q.items.items ≡ drop (get_or p.starts.items s 0 + get_or p.lens.items s 0) p.items.items
  pub front : take kept (drop (get_or p.starts.items s 0) q.items.items) ≡ filter (is_open by) (pack_at p s)

module _ (p q : PackedSets) (by : List ℕ) (s kept : ℕ) (a : ArePacked p) (in_range : s < p.n) (r : IsRepacked p q by s kept) where
  start_same : (x : ℕ) → get_or q.starts.items x 0 ≡ get_or p.starts.items x 0
  start_same x = ap (λ l. get_or l x 0) r.starts

  len_here : get_or q.lens.items s 0 ≡ kept
  len_here = ap (λ l. get_or l s 0) r.lens ∙ get_or-set_same p.lens.items s kept 0 (omega (arith, a.lens_size))

  len_other : (x : ℕ) → x ≢ s → get_or q.lens.items x 0 ≡ get_or p.lens.items x 0
  len_other x other = ap (λ l. get_or l x 0) r.lens ∙ get_or-set_other p.lens.items s x kept 0 other

  len_le : (x : ℕ) → get_or q.lens.items x 0 ≤ get_or p.lens.items x 0
  len_le x = elim (cases_eq x s) [
    | inl same ↦ subst (λ k. get_or q.lens.items k 0 ≤ get_or p.lens.items k 0) (sym same) (omega (arith, len_here, r.few))
    | inr other ↦ omega (arith, len_other x other)
  ]

  pack_is : (x : ℕ) (l : ℕ) → get_or q.lens.items x 0 ≡ l → pack_at q x ≡ take l (drop (get_or p.starts.items x 0) q.items.items)
  pack_is x l is = ap (λ k. take k (drop (get_or q.starts.items x 0) q.items.items)) is ∙ ap (λ k. take l (drop k q.items.items)) (start_same x)

  pub repacked_here : pack_at q s ≡ filter (is_open by) (pack_at p s)
  repacked_here = pack_is s kept len_here ∙ r.front

  pub repacked_other : (x : ℕ) → x < p.n → x ≢ s → pack_at q x ≡ pack_at p x
  repacked_other x lt other =
      let start : ℕ = get_or p.starts.items s 0 in
      pack_is x (get_or p.lens.items x 0) (len_other x other)
      ∙ elim (cases_lt x s) [
        | inl before ↦ part_before p.items.items q.items.items (get_or p.starts.items s 0) (get_or p.starts.items x 0) (get_or p.lens.items x 0) r.before (a.apart x s before in_range)
        | inr behind ↦
            let later : s < x = grind (arith, other) in
            part_behind p.items.items q.items.items (get_or p.starts.items s 0 + get_or p.lens.items s 0) (get_or p.starts.items x 0) (get_or p.lens.items x 0) r.behind (a.apart s x later lt)
      ]

  within_at : (x : ℕ) → x < p.n → All (λ e. e < p.n) (pack_at q x)
  within_at x lt = elim (cases_eq x s) [
    | inl same ↦
        subst (λ k. All (λ e. e < p.n) (pack_at q k)) (sym same)
        (subst (All (λ e. e < p.n)) (sym repacked_here) (All-filter (is_open by) (λ e. e < p.n) (pack_at p s) (a.within s in_range)))
    | inr other ↦ subst (All (λ e. e < p.n)) (sym (repacked_other x lt other)) (a.within x lt)
  ]

  pub repacked_well : ArePacked q
  repacked_well = record {
    few = omega (arith, r.n, a.few);
    starts_size = ap length r.starts ∙ a.starts_size ∙ sym r.n;
    lens_size = ap length r.lens ∙ length-set p.lens.items s kept ∙ a.lens_size ∙ sym r.n;
    inside = λ x lt. (let lt' : x < p.n = omega (arith, r.n) in omega (arith, start_same x, len_le x, a.inside x lt', r.size));
    apart = λ x y less lt. (let lt' : y < p.n = omega (arith, r.n) in omega (arith, start_same x, start_same y, len_le x, a.apart x y less lt'));
    within = λ x lt. (let lt' : x < p.n = omega (arith, r.n) in subst (λ k. All (λ e. e < k) (pack_at q x)) (sym r.n) (within_at x lt'));
  }

-- where a set begins, and how many elements it has, as they are read
pub record IsPart (p : PackedSets) (s start len : ℕ) (lent : List ℕ) : Type 0 where
  pub lent_is : lent ≡ p.items.items
  pub start_is : start ≡ get_or p.starts.items s 0
  pub len_is : len ≡ get_or p.lens.items s 0

pub is_part : (p : PackedSets) (s start len : ℕ) (lent : List ℕ) → ArePacked p → s < p.n → lent ≡ p.items.items → start ≡ get_or p.starts.items s start → len ≡ get_or p.lens.items s len → IsPart p s start len lent
is_part p s start len lent a in_range lent_is start_is len_is = record {
  lent_is = lent_is;
  start_is = start_is ∙ get_or_default p.starts.items s start 0 (omega (arith, a.starts_size));
  len_is = len_is ∙ get_or_default p.lens.items s len 0 (omega (arith, a.lens_size));
}

part_is : (p : PackedSets) (s start len : ℕ) (lent : List ℕ) → IsPart p s start len lent → take (start + len - start) (drop start lent) ≡ pack_at p s
part_is p s start len lent h =
    let size : start + len - start ≡ get_or p.lens.items s 0 = omega (arith, h.len_is) in
    ap (λ k. take k (drop start lent)) size ∙ ap (λ k. take (get_or p.lens.items s 0) (drop k lent)) h.start_is
    ∙ ap (λ l. take (get_or p.lens.items s 0) (drop (get_or p.starts.items s 0) l)) h.lent_is

pub part_within : (p : PackedSets) (s start len : ℕ) (lent by : List ℕ) → ArePacked p → s < p.n → IsPart p s start len lent → length by ≡ p.n → All (λ e. e < length by) (take (start + len - start) (drop start lent))
part_within p s start len lent by a in_range h as_many =
    subst (All (λ e. e < length by)) (sym (part_is p s start len lent h)) (subst (λ k. All (λ e. e < k) (pack_at p s)) (sym as_many) (a.within s in_range))

pub repacked : (p q : PackedSets) (by : List ℕ) (s start len kept : ℕ) (lent after : List ℕ) → IsPart p s start len lent → length after ≡ length lent →
    kept ≤ start + len - start → take start after ≡ take start lent → drop (start + len) after ≡ drop (start + len) lent → take kept (drop start after) ≡ filter (is_open by) (take (start + len - start) (drop start lent)) →
    q.n ≡ p.n → q.starts.items ≡ p.starts.items → q.lens.items ≡ set p.lens.items s kept → q.items.items ≡ after → IsRepacked p q by s kept
repacked p q by s start len kept lent after h size few before behind front n starts lens items =
    let at : start + len ≡ get_or p.starts.items s 0 + get_or p.lens.items s 0 = omega (arith, h.start_is, h.len_is) in record {
      n = n;
      starts = starts;
      lens = lens;
      size = ap length items ∙ size ∙ ap length h.lent_is;
      few = omega (arith, few, h.len_is);
      before = subst (λ k. take k q.items.items ≡ take k p.items.items) h.start_is (ap (take start) items ∙ before ∙ ap (take start) h.lent_is);
      behind = subst (λ k. drop k q.items.items ≡ drop k p.items.items) at (ap (drop (start + len)) items ∙ behind ∙ ap (drop (start + len)) h.lent_is);
      front = subst (λ k. take kept (drop k q.items.items) ≡ filter (is_open by) (pack_at p s)) h.start_is
          (ap (λ l. take kept (drop start l)) items ∙ front ∙ ap (filter (is_open by)) (part_is p s start len lent h));
    }

-- ---- one set after another

pub packed_none : (by : List ℕ) (p : PackedSets) → ArePacked p → HasPacked by [] p p
packed_none by p a = record { n = refl; packed = a; here = λ s lt there. absurd (not_in_nil s there); other = λ s lt none. refl }

pub packed_more : (by listed : List ℕ) (i : ℕ) (old mid new : PackedSets) → i < length listed → HasPacked by (take i listed) old mid → new.n ≡ mid.n → ArePacked new →
    pack_at new (get_or listed i 0) ≡ filter (is_open by) (pack_at mid (get_or listed i 0)) → ((r : ℕ) → r < mid.n → r ≢ get_or listed i 0 → pack_at new r ≡ pack_at mid r) →
    HasPacked by (take (i + 1) listed) old new
packed_more by listed i old mid new lt h n well here other =
    let s : ℕ = get_or listed i 0 in
    let more : take (i + 1) listed ≡ take i listed ++ get_or listed i 0 ∷ [] = take_more listed i 0 lt in record {
      n = n ∙ h.n;
      packed = well;
      here = λ r r_lt there.
          let in_mid : r < mid.n = omega (arith, h.n) in
          let at : Contains (take i listed ++ get_or listed i 0 ∷ []) r = subst (λ l. Contains l r) more there in
          elim (cases_eq r (get_or listed i 0)) [
            | inl same ↦
                subst (λ k. k < old.n → pack_at new k ≡ filter (is_open by) (pack_at old k)) (sym same)
                (λ s_lt. here ∙ elim (member_cases (take i listed) (get_or listed i 0)) [
                  | inl before ↦ ap (filter (is_open by)) (h.here (get_or listed i 0) s_lt before) ∙ filter_again (is_open by) (is_open by) (pack_at old (get_or listed i 0)) (λ x yes'. yes')
                  | inr first ↦ ap (filter (is_open by)) (h.other (get_or listed i 0) s_lt first)
                ]) r_lt
            | inr apart ↦
                other r in_mid apart
                ∙ elim (Contains-push_cases (take i listed) (get_or listed i 0) r at) [
                  | inl before ↦ h.here r r_lt before
                  | inr same ↦ absurd (apart (sym same))
                ]
          ];
      other = λ r r_lt none.
          let in_mid : r < mid.n = omega (arith, h.n) in
          let apart : r ≢ get_or listed i 0 =
          λ same. none (subst (λ l. Contains l r) (sym more) (subst (Contains (take i listed ++ get_or listed i 0 ∷ [])) (sym same) (Contains-push (take i listed) (get_or listed i 0)))) in
          other r in_mid apart ∙ h.other r r_lt (λ before. none (subst (λ l. Contains l r) (sym more) (Contains-append_left (take i listed) (get_or listed i 0 ∷ []) r before)));
    }

-- what is left of a set is as long as its length says
pub pack_size : (p : PackedSets) (s : ℕ) → ArePacked p → s < p.n → length (pack_at p s) ≡ get_or p.lens.items s 0
pack_size p s a lt =
    let rest : List ℕ = drop (get_or p.starts.items s 0) p.items.items in
    let inside : get_or p.starts.items s 0 + get_or p.lens.items s 0 ≤ length p.items.items = a.inside s lt in
    length-take-le (get_or p.lens.items s 0) rest (omega (arith, inside, length-drop (get_or p.starts.items s 0) p.items.items))

-- ---- an element that is written to the front whether it is kept or not

module _ {p : ℕ → Bool} {xs ys : List ℕ} {k i x : ℕ} (h : FiltersInPlace p xs ys k i) (lt : i < length ys) (is : x ≡ get_or ys i x) where
  filters_by : (b : Bool) → p x ≡ b → FiltersInPlace p xs (set ys k x) (k + bool_byte b) (i + 1)
  filters_by true e = FiltersInPlace-more_set h lt e is
  filters_by false e =
      let more = FiltersInPlace-more_no h lt e is in
      subst (λ j. FiltersInPlace p xs (set ys k x) j (i + 1)) (omega arith) (record {
        front = take-set-le k ys k x (omega arith) ∙ more.front;
        rest = drop-set-lt (i + 1) ys k x (omega (arith, h.behind)) ∙ more.rest;
        behind = more.behind;
        within = more.within;
        long = length-set ys k x ∙ more.long;
      })

  pub filters_more : FiltersInPlace p xs (set ys k x) (k + bool_byte (p x)) (i + 1)
  filters_more = filters_by (p x) refl
