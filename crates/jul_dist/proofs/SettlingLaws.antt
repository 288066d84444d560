-- The root takes over words one after another.
use Rattle.std.proofs.Common.{◌≡◌, ◌≢◌, ◌⊎◌, ℕ, ◌+◌, ◌<◌, ◌≤◌, List, [], ◌∷◌, ◌++◌, length, get_or, set, sum, refl, ap, sym, ◌∙◌, subst, arith, inl, inr, take, length-append}
use Rattle.std.specs.Prelude.{Contains, min}
use Rattle.std.specs.List.{All}
use Rattle.std.proofs.lemmas.Bool.{cases_eq}
use Rattle.std.proofs.lemmas.List.{length-set, take_more, get_or-set_same, get_or-set_other}
use Rattle.std.proofs.lemmas.List.Sums.{sum_by-set}
use Rattle.std.proofs.lemmas.List.Elements.{Contains-append_left, Contains-push, Contains-push_cases}
use Rattle.jul_base.proofs.SetLaws.{member_cases}
use Rattle.jul_words.specs.Seats.{Seat, IsAlone}
use Rattle.jul_words.specs.Least.{word_of}
use Rattle.jul_dist.specs.Moving.{HasTaken}

-- nothing was taken yet
pub none_taken : (loaded : ℕ → ℕ) (values : List ℕ) → HasTaken loaded values values [] []
none_taken loaded values = record {
  size = refl;
  lowered = λ v lt (k, k_lt, is). absurd (omega (arith, k_lt));
  kept = λ v other. refl;
  fell_are = λ v. ((λ (k, k_lt, is). absurd (omega (arith, k_lt))), (λ (lt, less). absurd (omega (arith, less))));
  less = omega arith;
}

module _ (loaded : ℕ → ℕ) (old values ids : List ℕ) (i : ℕ) (fell : List ℕ) (lt : i < length ids) (id word : ℕ) (is : id ≡ get_or ids i 0) (id_in : id < length old) (word_is : word ≡ loaded id)
    (h : HasTaken loaded old values (take i ids) fell) where
  -- a number that is above its word wasn't met before
  fresh : word < get_or values id 0 → Contains (take i ids) id → ⊥
  fresh lower there = absurd (omega (arith, lower, word_is, h.lowered id id_in there))

  -- and it is as at first
  as_before : word < get_or values id 0 → get_or values id 0 ≡ get_or old id 0
  as_before lower = h.kept id (fresh lower)

  taken : take (i + 1) ids ≡ take i ids ++ id ∷ []
  taken = take_more ids i 0 lt ∙ ap (λ x. take i ids ++ x ∷ []) (sym is)

  now_in : (v : ℕ) → Contains (take (i + 1) ids) v → Contains (take i ids) v ⊎ (v ≡ id)
  now_in v there = elim (Contains-push_cases (take i ids) id v (subst (λ l. Contains l v) taken there)) [ inl before ↦ inl before | inr e ↦ inr (sym e) ]

  was_in : (v : ℕ) → Contains (take i ids) v → Contains (take (i + 1) ids) v
  was_in v there = subst (λ l. Contains l v) (sym taken) (Contains-append_left (take i ids) (id ∷ []) v there)

  id_in_now : Contains (take (i + 1) ids) id
  id_in_now = subst (λ l. Contains l id) (sym taken) (Contains-push (take i ids) id)

  -- the word isn't below the number: all stays
  pub taken_same : get_or values id 0 ≤ word → HasTaken loaded old values (take (i + 1) ids) fell
  taken_same le = record {
    size = h.size;
    lowered = λ v v_in there. elim (now_in v there) [
      | inl before ↦ h.lowered v v_in before
      | inr e ↦ subst (λ x. get_or values x 0 ≡ min (loaded x) (get_or old x 0)) (sym e) same_here
    ];
    kept = λ v other. h.kept v (λ there. other (was_in v there));
    fell_are = h.fell_are;
    less = h.less;
  } where
    same_here : get_or values id 0 ≡ min (loaded id) (get_or old id 0)
    same_here = elim (member_cases (take i ids) id) [
      | inl before ↦ h.lowered id id_in before
      | inr other ↦ omega (arith, le, word_is, h.kept id other)
    ]

  -- the word is below it: the number falls
  module _ (lower : word < get_or values id 0) where
    abbrev New : List ℕ
    New = set values id word

    in_values : id < length values
    in_values = omega (arith, id_in, h.size)

    here : get_or New id 0 ≡ word
    here = get_or-set_same values id word 0 in_values

    there_same : (v : ℕ) → v ≢ id → get_or New v 0 ≡ get_or values v 0
    there_same v ne = get_or-set_other values id v word 0 ne

    pub taken_lower : HasTaken loaded old New (take (i + 1) ids) (fell ++ id ∷ [])
    taken_lower = record {
      size = length-set values id word ∙ h.size;
      lowered = λ v v_in there. elim (cases_eq v id) [
        | inl e ↦ omega (arith, ap (λ x. get_or New x 0) e, here, lower, as_before lower, word_is, ap loaded e, ap (λ x. get_or old x 0) e)
        | inr ne ↦ elim (now_in v there) [
          | inl before ↦ there_same v ne ∙ h.lowered v v_in before
          | inr e ↦ absurd (ne e)
        ]
      ];
      kept = λ v other.
          let ne : v ≢ id = λ e. other (subst (Contains (take (i + 1) ids)) (sym e) id_in_now) in
          there_same v ne ∙ h.kept v (λ there. other (was_in v there));
      fell_are = λ v. (
        (λ there. elim (Contains-push_cases fell id v there) [
          | inl before ↦
              let (v_in, less) = (h.fell_are v).0 before in
              let ne : v ≢ id = λ e. absurd (omega (arith, less, as_before lower, ap (λ x. get_or values x 0) e, ap (λ x. get_or old x 0) e)) in
              (v_in, omega (arith, less, there_same v ne))
          | inr e ↦ (omega (arith, e, id_in), omega (arith, ap (λ x. get_or New x 0) e, here, lower, as_before lower, ap (λ x. get_or old x 0) e))
        ]),
        (λ (v_in, less). elim (cases_eq v id) [
          | inl e ↦ subst (Contains (fell ++ id ∷ [])) (sym e) (Contains-push fell id)
          | inr ne ↦ Contains-append_left fell (id ∷ []) v ((h.fell_are v).1 (v_in, omega (arith, less, there_same v ne)))
        ]),
      );
      less =
          let sums : sum New + get_or values id 0 ≡ sum values + word = sum_by-set (λ x. x) values id word 0 in_values in
          omega (arith, sums, lower, h.less, length-append fell (id ∷ []));
    }

-- one turn of the loop, by what it changed
module _ (loaded : ℕ → ℕ) (old values ids : List ℕ) (i : ℕ) (fell : List ℕ) (lt : i < length ids) (within : All (λ v. v < length old) ids) (word : ℕ) (word_is : word ≡ loaded (get_or ids i 0)) (h : HasTaken loaded old values (take i ids) fell) where
  pub turn_lower : (values' fell' : List ℕ) → word < get_or values (get_or ids i 0) 0 → values' ≡ set values (get_or ids i 0) word →
      fell' ≡ fell ++ get_or ids i 0 ∷ [] → HasTaken loaded old values' (take (i + 1) ids) fell'
  turn_lower values' fell' lower vs fs =
      let new : HasTaken loaded old (set values (get_or ids i 0) word) (take (i + 1) ids) (fell ++ get_or ids i 0 ∷ []) =
      taken_lower loaded old values ids i fell lt (get_or ids i 0) word refl (within i 0 lt) word_is h lower in
      subst (λ vs'. HasTaken loaded old vs' (take (i + 1) ids) fell') (sym vs)
      (subst (λ fs'. HasTaken loaded old (set values (get_or ids i 0) word) (take (i + 1) ids) fs') (sym fs) new)

  pub turn_same : (values' fell' : List ℕ) → get_or values (get_or ids i 0) 0 ≤ word → values' ≡ values → fell' ≡ fell → HasTaken loaded old values' (take (i + 1) ids) fell'
  turn_same values' fell' le vs fs =
      subst (λ vs'. HasTaken loaded old vs' (take (i + 1) ids) fell') (sym vs)
      (subst (λ fs'. HasTaken loaded old values (take (i + 1) ids) fs') (sym fs)
      (taken_same loaded old values ids i fell lt (get_or ids i 0) word refl (within i 0 lt) word_is h le))

-- a load by the root alone is its word, and the root is as it was
pub load_is : (seat first : Seat) (v n : ℕ) → seat ≡ first → IsAlone first → (IsAlone seat → n ≡ word_of seat v) → n ≡ word_of first v
load_is seat first v n same alone exact = subst (λ (s : Seat). (IsAlone s → n ≡ word_of s v) → n ≡ word_of first v) (sym same) (λ e. e alone) exact
