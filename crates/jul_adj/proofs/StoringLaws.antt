-- Numbers that are stored from marks.
use Rattle.std.proofs.Common.{◌≡◌, ℕ, ◌+◌, ◌-◌, ◌<◌, ◌≤◌, ◌^◌, lit<, List, [], ◌∷◌, ◌++◌, map, length, get_or, take, drop, leb, None, refl, sym, ◌∙◌, subst, ap, arith, inl, inr, append-nil, append_assoc}
use Rattle.std.specs.Str.Parse.{digits_value}
use Rattle.std.proofs.lemmas.Bool.{cases_Bool, cases_lt, cond-true, cond-false, le-leb}
use Rattle.jul_text.specs.declared.numerals.Numeral.TheVariants.{Value, Above, Bad, Negative as NegativeNumber}
use Rattle.jul_text.specs.Numerals.{numeral, is_numeral, is_negative}
use Rattle.jul_text.specs.declared.shapes.Shape.{Shape}
use Rattle.jul_text.specs.declared.shapes.Shape.TheVariants.{Plain, Weighted, Digits, Huge, Negative, Other}
use Rattle.jul_text.specs.declared.shapes.Mark.{Mark}
use Rattle.jul_text.specs.Tokens.{Word}
use Rattle.jul_text.specs.Scanning.{text_at}
use Rattle.jul_text.specs.Shapes.{shape, number_of}
use Rattle.jul_text.proofs.FeedLaws.{number_of_shape}
use Rattle.jul_adj.specs.declared.rules.Rule.{Rule}
use Rattle.jul_adj.specs.declared.rules.Rule.TheVariants.{Count, Offset, Target, Weight}
use Rattle.jul_adj.specs.Faults.{kind_at}
use Rattle.jul_adj.specs.Roles.{value_at}
use Rattle.jul_adj.specs.Rules.{bound_of, rule_fault, behind, IsRuledBy, AreRuled}
use Rattle.jul_adj.specs.Reading.{values_between}
use Rattle.jul_adj.specs.Storing.{AreMarks, AreStored}
use Rattle.jul_adj.proofs.ListsLaws.{values_push}

-- a token whose shape is a number up to a bound is that number
pub digits_of : (s : Shape) (bound v : ℕ) → number_of s bound ≡ Value v → s ≡ Digits v
digits_of Plain bound v e = absurd (cc)
digits_of Weighted bound v e = absurd (cc)
digits_of (Digits w) bound v e =
    elim (cases_Bool (leb w bound)) [
      | inl q ↦ let m : Value w ≡ Value v = sym (cond-true _ _ _ q) ∙ e in cc
      | inr q ↦ let m : Above ≡ Value v = sym (cond-false _ _ _ q) ∙ e in absurd (cc)
    ]
digits_of Huge bound v e = absurd (cc)
digits_of Negative bound v e = absurd (cc)
digits_of Other bound v e = absurd (cc)

-- the value of a token whose shape is a number
pub value_of : (t : List ℕ) (v : ℕ) → v < 2 ^ 64 → shape t ≡ Digits v → digits_value 10 t ≡ v
value_of t v fits e =
    let n : numeral t 18446744073709551615 ≡ Value v = sym (number_of_shape t 18446744073709551615 (lit< tt)) ∙ ap (λ s. number_of s 18446744073709551615) e ∙ cond-true _ _ _ (le-leb v 18446744073709551615 (omega arith)) in
    elim (cases_Bool (is_numeral t)) [
      | inl p ↦ elim (cases_Bool (leb (digits_value 10 t) 18446744073709551615)) [
        | inl q ↦ let m : Value (digits_value 10 t) ≡ Value v = sym (cond-true _ _ _ p ∙ cond-true _ _ _ q) ∙ n in cc
        | inr q ↦ let m : Above ≡ Value v = sym (cond-true _ _ _ p ∙ cond-false _ _ _ q) ∙ n in absurd (cc)
      ]
      | inr p ↦ elim (cases_Bool (is_negative t)) [
        | inl q ↦ let m : NegativeNumber ≡ Value v = sym (cond-false _ _ _ p ∙ cond-true _ _ _ q) ∙ n in absurd (cc)
        | inr q ↦ let m : Bad ≡ Value v = sym (cond-false _ _ _ p ∙ cond-false _ _ _ q) ∙ n in absurd (cc)
      ]
    ]

pub behind-behind : (r : Rule) (v w : ℕ) → behind (behind r v) w ≡ behind r w
behind-behind (Count bound above) v w = refl
behind-behind (Offset before places) v w = refl
behind-behind (Target vertices) v w = refl
behind-behind Weight v w = refl

pub bound_of-behind : (r : Rule) (v : ℕ) → bound_of (behind r v) ≡ bound_of r
bound_of-behind (Count bound above) v = refl
bound_of-behind (Offset before places) v = refl
bound_of-behind (Target vertices) v = refl
bound_of-behind Weight v = refl

-- what the mark of a token says of its fault, under the token's rule
pub fault_of_mark : (ws : List Word) (token k : ℕ) (marks : List Mark) (d : Mark) (rule : Rule) → AreMarks ws token marks → k < length marks → bound_of rule < 2 ^ 32 → IsRuledBy ws (token + k) rule →
    kind_at ws (token + k) ≡ rule_fault rule (number_of (get_or marks k d).shape (bound_of rule))
fault_of_mark ws token k marks d rule are lt small ruled =
    ruled ∙ ap (rule_fault rule) (sym (ap (λ (m : Mark). number_of m.shape (bound_of rule)) (are.each k d lt) ∙ number_of_shape (text_at ws (token + k)) (bound_of rule) (omega (arith, small))))

pub value_of_mark : (ws : List Word) (token k v : ℕ) (marks : List Mark) (d : Mark) → AreMarks ws token marks → k < length marks → v < 2 ^ 32 → (get_or marks k d).shape ≡ Digits v → value_at ws (token + k) ≡ v
value_of_mark ws token k v marks d are lt small is =
    value_of (text_at ws (token + k)) v (omega (arith, small)) (sym (ap (λ (m : Mark). m.shape) (are.each k d lt)) ∙ is)

-- n of `all` tokens from a number on were stored, and the next one has this rule
pub record IsStoring (ws : List Word) (token n all : ℕ) (rule : Rule) (old new : List ℕ) : Type 0 where
  pub stored : AreStored ws token n old new
  pub ruled : n < all → IsRuledBy ws (token + n) rule

values_none : (ws : List Word) (token : ℕ) → values_between ws token (token + 0) ≡ []
values_none ws token = ap (λ k. map (λ (w : Word). digits_value 10 w.text) (take k (drop token ws))) {x = token + 0 - token} {y = 0} (omega arith)

pub storing_none : (ws : List Word) (token all : ℕ) (rule : Rule) (old : List ℕ) → AreRuled ws token all rule → IsStoring ws token 0 all rule old old
storing_none ws token all rule old ruled = record {
  stored = record { none = λ j low high. absurd (omega (arith, low, high)); values = sym (append-nil old) ∙ ap (λ vs. old ++ vs) (sym (values_none ws token)) };
  ruled = λ some. let at : token ≡ token + 0 = omega arith in subst (λ j. IsRuledBy ws j rule) at (ruled.first some);
}

pub stored_more : (ws : List Word) (token n v : ℕ) (old new : List ℕ) → AreStored ws token n old new → token + n < length ws → kind_at ws (token + n) ≡ None → value_at ws (token + n) ≡ v → AreStored ws token (n + 1) old (new ++ v ∷ [])
stored_more ws token n v old new s there none value =
    let on : token + (n + 1) ≡ token + n + 1 = omega arith in
    record {
      none = λ k from to. elim (cases_lt k (token + n)) [
        | inl below ↦ s.none k from below
        | inr above ↦ let here : k ≡ token + n = omega (arith, to, above) in ap (kind_at ws) here ∙ none
      ];
      values =
          ap (λ xs. xs ++ v ∷ []) s.values ∙ append_assoc old (values_between ws token (token + n)) (v ∷ [])
          ∙ ap (λ x. old ++ (values_between ws token (token + n) ++ x ∷ [])) (sym value)
          ∙ ap (λ vs. old ++ vs) (sym (ap (values_between ws token) on ∙ values_push ws token (token + n) (omega arith) there));
    }

-- one more number
pub storing_more : (ws : List Word) (token n v : ℕ) (marks : List Mark) (d : Mark) (first rule : Rule) (old new : List ℕ) → AreMarks ws token marks → AreRuled ws token (length marks) first → n < length marks → bound_of rule < 2 ^ 32 →
    ((w : ℕ) → behind rule w ≡ behind first w) → (get_or marks n d).shape ≡ Digits v → v ≤ bound_of rule → rule_fault rule (number_of (get_or marks n d).shape (bound_of rule)) ≡ None →
    IsStoring ws token n (length marks) rule old new → IsStoring ws token (n + 1) (length marks) (behind rule v) old (new ++ v ∷ [])
storing_more ws token n v marks d first rule old new are ruled lt small same is within none s =
    let value : value_at ws (token + n) ≡ v = value_of_mark ws token n v marks d are lt (omega (arith, within, small)) is in
    let kind : kind_at ws (token + n) ≡ None = fault_of_mark ws token n marks d rule are lt small (s.ruled lt) ∙ none in
    record {
      stored = stored_more ws token n v old new s.stored (omega (arith, are.there, lt)) kind value;
      ruled = λ more.
          let back : token + (n + 1) - 1 ≡ token + n = omega arith in
          let next : behind first (value_at ws (token + (n + 1) - 1)) ≡ behind rule v = ap (λ j. behind first (value_at ws j)) back ∙ ap (behind first) value ∙ sym (same v) in
          subst (IsRuledBy ws (token + (n + 1))) next (ruled.later (n + 1) (omega arith) more);
    }
