-- Least and greatest numbers, and columns, are determined.
use Rattle.std.proofs.Common.{◌≡◌, ℕ, ◌<◌, ◌≤◌, List, get_or, sym, ◌∙◌, arith, inl, inr}
use Rattle.std.proofs.lemmas.Bool.{cases_eq}
use Rattle.std.proofs.lemmas.List.{ext_get_or}
use Rattle.jul_base.specs.declared.limits.TheConstants.{NONE}
use Rattle.jul_base.specs.Numbers.{IsLeast, IsGreatest, IsLeastOrNone, IsColumn}

pub IsLeast-unique : (P : ℕ → Type 0) (x y : ℕ) → IsLeast P x → IsLeast P y → x ≡ y
IsLeast-unique P x y a b =
    let p : x ≤ y = a.least y b.holds in
    let q : y ≤ x = b.least x a.holds in
    omega arith

pub IsGreatest-unique : (P : ℕ → Type 0) (x y : ℕ) → IsGreatest P x → IsGreatest P y → x ≡ y
IsGreatest-unique P x y a b =
    let p : y ≤ x = a.greatest y b.holds in
    let q : x ≤ y = b.greatest x a.holds in
    omega arith

pub IsLeastOrNone-unique : (P : ℕ → Type 0) (x y : ℕ) → IsLeastOrNone P x → IsLeastOrNone P y → x ≡ y
IsLeastOrNone-unique P x y a b =
    elim (cases_eq x NONE) [
      | inl xn ↦ elim (cases_eq y NONE) [
        | inl yn ↦ xn ∙ sym yn
        | inr yn ↦ absurd (a.none xn y (b.least yn).holds)
      ]
      | inr xn ↦ elim (cases_eq y NONE) [
        | inl yn ↦ absurd (b.none yn x (a.least xn).holds)
        | inr yn ↦ IsLeast-unique P x y (a.least xn) (b.least yn)
      ]
    ]

-- a column is determined where each of its numbers is
pub IsColumn-unique : (n : ℕ) (P : ℕ → ℕ → Type 0) → ((v x y : ℕ) → P v x → P v y → x ≡ y) →
    (xs ys : List ℕ) → IsColumn n P xs → IsColumn n P ys → xs ≡ ys
IsColumn-unique n P one xs ys a b =
    ext_get_or 0 xs ys (a.size ∙ sym b.size) (λ i h.
    let h' : i < n = omega (arith, a.size) in
    one i (get_or xs i 0) (get_or ys i 0) (a.each i h') (b.each i h'))
