-- Marks where what they say changes.
use Rattle.std.proofs.Common.{◌≡◌, ◌≢◌, ℕ, ◌<◌, Bool, true, false, List, get_or, set, sym, ◌∙◌, ap, arith, inl, inr, length-set, get_or-set_same, get_or-set_other}
use Rattle.std.proofs.lemmas.Bool.{cases_eq}
use Rattle.jul_check.specs.Marks.{AreMarks}

pub AreMarks-kept : (n : ℕ) (test now : ℕ → Bool) (marks : List Bool) → AreMarks n test marks → ((v : ℕ) → v < n → now v ≡ test v) → AreMarks n now marks
AreMarks-kept n test now marks are same = record { size = are.size; each = λ v lt. are.each v lt ∙ sym (same v lt) }

pub AreMarks-set : (n t : ℕ) (test now : ℕ → Bool) (marks : List Bool) → t < n → AreMarks n test marks → now t ≡ true → ((v : ℕ) → v ≢ t → now v ≡ test v) →
    AreMarks n now (set marks t true)
AreMarks-set n t test now marks lt are here others = record {
  size = length-set marks t true ∙ are.size;
  each = λ v v_lt. elim (cases_eq v t) [
    | inl e ↦ ap (λ k. get_or (set marks t true) k false) e ∙ get_or-set_same marks t true false (omega (arith, are.size)) ∙ sym (ap now e ∙ here)
    | inr ne ↦ get_or-set_other marks t v true false ne ∙ are.each v v_lt ∙ sym (others v ne)
  ];
}
