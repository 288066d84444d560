-- Columns that are written in parts.
use Rattle.std.proofs.Common.{◌≡◌, Bool, false, eqb, ℕ, ◌+◌, ◌<◌, List, [], ◌∷◌, ◌++◌, length, get_or, set, take, refl, sym, ◌∙◌, ap, subst, arith, inl, inr}
use Rattle.std.specs.List.{Contains, flat_map}
use Rattle.std.proofs.lemmas.Bool.{cases_eq}
use Rattle.std.proofs.lemmas.Grind.{flat_map-append}
use Rattle.std.proofs.lemmas.List.{append-nil, take_more, length-set, get_or-set_same, get_or-set_other}
use Rattle.std.proofs.lemmas.List.Elements.{Contains-append_left, Contains-append_right, Contains-append_cases}
use Rattle.jul_base.proofs.SetLaws.{member_cases, Contains-cons_cases}
use Rattle.jul_words.specs.Seats.{Seat, IsAlone}
use Rattle.jul_words.specs.Least.{word_of}
use Rattle.jul_cover.specs.Columns.{AreWritten}
use Rattle.jul_cover.specs.PackedSets.{AreOpen}
use Rattle.jul_base.specs.declared.limits.TheConstants.{NONE}

pub not_in_nil : (v : ℕ) → Contains [] v → ⊥
not_in_nil v (k, lt, is) = absurd (omega (arith, lt))

pub written_none : (f : ℕ → ℕ) (xs : List ℕ) → AreWritten [] f xs xs
written_none f xs = record { size = refl; at = λ v lt there. absurd (not_in_nil v there); other = λ v none. refl }

-- one part behind another
pub written_append : (f : ℕ → ℕ) (first second old mid new : List ℕ) → AreWritten first f old mid → AreWritten second f mid new → AreWritten (first ++ second) f old new
written_append f first second old mid new a b = record {
  size = b.size ∙ a.size;
  at = λ v lt there.
      let in_mid : v < length mid = omega (arith, a.size) in
      elim (member_cases second v) [
        | inl in_second ↦ b.at v in_mid in_second
        | inr other ↦
            elim (Contains-append_cases first second v there) [
              | inl in_first ↦ b.other v other ∙ a.at v lt in_first
              | inr in_second ↦ absurd (other in_second)
            ]
      ];
  other = λ v none. b.other v (λ h. none (Contains-append_right first second v h)) ∙ a.other v (λ h. none (Contains-append_left first second v h));
}

one_written : (f : ℕ → ℕ) (x y : ℕ) (old : List ℕ) → x < length old → y ≡ f x → AreWritten (x ∷ []) f old (set old x y)
one_written f x y old in_range is = record {
  size = length-set old x y;
  at = λ v lt there.
      elim (Contains-cons_cases x [] v there) [
        | inl same ↦ ap (λ k. get_or (set old x y) k 0) (sym same) ∙ get_or-set_same old x y 0 in_range ∙ is ∙ ap f same
        | inr none ↦ absurd (not_in_nil v none)
      ];
  other = λ v none. get_or-set_other old x v y 0 (λ same. none (0, omega arith, sym same));
}

-- a loop that writes one number after another
pub written_more : (f : ℕ → ℕ) (listed old mid : List ℕ) (i y : ℕ) → i < length listed → get_or listed i 0 < length old → y ≡ f (get_or listed i 0) →
    AreWritten (take i listed) f old mid → AreWritten (take (i + 1) listed) f old (set mid (get_or listed i 0) y)
written_more f listed old mid i y lt in_range is a =
    let x : ℕ = get_or listed i 0 in
    subst (λ l. AreWritten l f old (set mid x y)) (sym (take_more listed i 0 lt))
    (written_append f (take i listed) (x ∷ []) old mid (set mid x y) a (one_written f x y mid (omega (arith, a.size)) is))

-- a loop that writes one list after another
pub written_list : (f : ℕ → ℕ) (part : ℕ → List ℕ) (listed elements old mid new : List ℕ) (i : ℕ) → i < length listed → elements ≡ part (get_or listed i 0) →
    AreWritten (flat_map part (take i listed)) f old mid → AreWritten elements f mid new → AreWritten (flat_map part (take (i + 1) listed)) f old new
written_list f part listed elements old mid new i lt same a b =
    let x : ℕ = get_or listed i 0 in
    let last : flat_map part (x ∷ []) ≡ part x = append-nil (part x) in
    let all : flat_map part (take (i + 1) listed) ≡ flat_map part (take i listed) ++ elements =
    ap (flat_map part) (take_more listed i 0 lt) ∙ flat_map-append part (take i listed) (x ∷ []) ∙ ap (λ l. flat_map part (take i listed) ++ l) (last ∙ sym same) in
    subst (λ l. AreWritten l f old new) (sym all) (written_append f (flat_map part (take i listed)) elements old mid new a b)

-- what the root loads is exact
pub load_is : (seat at : Seat) (v n : ℕ) → seat ≡ at → IsAlone at → (IsAlone seat → n ≡ word_of seat v) → n ≡ word_of at v
load_is seat at v n same alone exact = subst (λ s. IsAlone s → n ≡ word_of s v) same exact alone

-- ---- a mark for each vertex that nothing covers

-- a number and its mark are written
pub open_written : (open' : List Bool) (by : List ℕ) (e word : ℕ) → e < length by → AreOpen open' by → AreOpen (set open' e (eqb word NONE)) (set by e word)
open_written open' by e word lt a = record {
  size = length-set open' e (eqb word NONE) ∙ a.size ∙ sym (length-set by e word);
  each = λ x x_lt.
      elim (cases_eq x e) [
        | inl same ↦
            ap (λ k. get_or (set open' e (eqb word NONE)) k false) same ∙ get_or-set_same open' e (eqb word NONE) false (omega (arith, a.size))
            ∙ sym (ap (λ k. eqb k NONE) (ap (λ k. get_or (set by e word) k 0) same ∙ get_or-set_same by e word 0 lt))
        | inr apart ↦
            get_or-set_other open' e x (eqb word NONE) false apart ∙ a.each x (omega (arith, x_lt, length-set by e word))
            ∙ sym (ap (λ k. eqb k NONE) (get_or-set_other by e x word 0 apart))
      ];
}
