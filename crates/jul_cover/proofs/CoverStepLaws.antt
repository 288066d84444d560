-- The columns while the rounds go on: what holds before the first round, what a round adds, and what holds at the end.
use Rattle.std.proofs.Common.{◌≡◌, ◌≢◌, ℕ, suc, ◌<◌, ◌≤◌, true, List, length, subst, refl, arith, inl, inr, eqb, Bool}
use Rattle.std.specs.List.{Contains}
use Rattle.std.proofs.lemmas.Bool.{cases_lt, eq-eqb, eqb-true}
use Rattle.jul_base.specs.declared.limits.TheConstants.{NONE}
use Rattle.jul_base.specs.Numbers.{IsLeastOrNone}
use Rattle.jul_base.specs.Sets.{has}
use Rattle.jul_base.specs.CoverRounds.{set_at, greatest_size, covered_before, chosen_in, IsRound, IsRoundCount, IsCoveredBy}
use Rattle.jul_base.proofs.SetLaws.{Contains-from_has, has-from_Contains}
use Rattle.jul_base.proofs.CoverRoundLaws.{chosen-positive}
use Rattle.jul_base.proofs.CoverFallLaws.{greatest_falls, covered-le, covered-chosen, chosen_once}
use Rattle.jul_base.proofs.CoverEndLaws.{round-below, rounds_end}
use Rattle.jul_base.proofs.FirstLaws.{first_exists, IsLeast-from_first}
use Rattle.jul_cover.specs.CoverWork.{IsOwner, IsRoundBefore}
use Rattle.jul_cover.proofs.CoverOwnerLaws.{IsCoveredBy-from_owners}

-- a relation that says the same has the same least number
same_least : (P Q : ℕ → Type 0) (x : ℕ) → ((y : ℕ) → P y → Q y) → ((y : ℕ) → Q y → P y) → IsLeastOrNone P x → IsLeastOrNone Q x
same_least P Q x there back least = record {
  least = λ some. record { holds = there x (least.least some).holds; least = λ y held. (least.least some).least y (back y held) };
  none = λ none y held. least.none none y (back y held);
}

-- ---- how many rounds there are

-- where every size is 0 before round t, no round from t on chooses a set
pub none_later : (sets : List (List ℕ)) (t u s : ℕ) → greatest_size sets (covered_before sets t) ≡ 0 → Contains (chosen_in sets u) s → u < t
none_later sets t u s none is =
    elim (cases_lt u t) [
      | inl earlier ↦ earlier
      | inr late ↦
          absurd (omega (arith, greatest_falls sets t u late, none, (chosen-positive sets (covered_before sets u) s (has-from_Contains (chosen_in sets u) s is)).1))
    ]

-- t rounds choose sets where some size isn't 0 before the last of them, and every size is 0 after it
pub IsRoundCount-suc : (sets : List (List ℕ)) (t : ℕ) → 0 < greatest_size sets (covered_before sets t) → greatest_size sets (covered_before sets (suc t)) ≡ 0 →
    IsRoundCount sets (suc t)
IsRoundCount-suc sets t positive none = record {
  holds = none;
  least = λ u is.
      elim (cases_lt t u) [
        | inl later ↦ later
        | inr before ↦ absurd (omega (arith, greatest_falls sets u t before, is))
      ];
}

pub IsRoundCount-zero : (sets : List (List ℕ)) → greatest_size sets (covered_before sets 0) ≡ 0 → IsRoundCount sets 0
IsRoundCount-zero sets none = record { holds = none; least = λ u is. omega arith }

-- there are so many rounds, and at most one for each set
pub round_count : (sets : List (List ℕ)) → (t : ℕ) × IsRoundCount sets t × (t ≤ length sets)
round_count sets =
    let done : ℕ → Bool = λ t. eqb (greatest_size sets (covered_before sets t)) 0 in
    let (t, first, le) = first_exists done (length sets) (eq-eqb _ _ (rounds_end sets (length sets) (omega arith))) in (
      t,
      IsLeast-from_first (λ u. greatest_size sets (covered_before sets u) ≡ 0) done t (λ u h. eqb-true _ _ h) (λ u h. eq-eqb _ _ h) first,
      le,
    )

-- ---- the column of rounds

pub IsRoundBefore-zero : (sets : List (List ℕ)) (s : ℕ) → IsRoundBefore sets 0 s NONE
IsRoundBefore-zero sets s = record { least = λ some. absurd (some refl); none = λ _ u (lt, is). omega arith }

pub IsRoundBefore-chosen : (sets : List (List ℕ)) (t s : ℕ) → t ≢ NONE → Contains (chosen_in sets t) s → IsRoundBefore sets (suc t) s t
IsRoundBefore-chosen sets t s some is = record {
  least = λ _. record {
    holds = (omega arith, is);
    least = λ u (lt, is_u). omega (arith, chosen_once sets t u s (has-from_Contains (chosen_in sets t) s is) (has-from_Contains (chosen_in sets u) s is_u));
  };
  none = λ none. absurd (some none);
}

pub IsRoundBefore-kept : (sets : List (List ℕ)) (t s x : ℕ) → (Contains (chosen_in sets t) s → ⊥) → IsRoundBefore sets t s x → IsRoundBefore sets (suc t) s x
IsRoundBefore-kept sets t s x isn't before =
    same_least (λ u. (u < t) × Contains (chosen_in sets u) s) (λ u. (u < suc t) × Contains (chosen_in sets u) s) x
    (λ u (lt, is). (omega arith, is)) (λ u (lt, is). (not_now u lt is, is)) before
  where
    not_now : (u : ℕ) → u < suc t → Contains (chosen_in sets u) s → u < t
    not_now u lt is =
        elim (cases_lt u t) [
          | inl earlier ↦ earlier
          | inr late ↦
              let now : u ≡ t = omega arith in
              absurd (isn't (subst (λ k. Contains (chosen_in sets k) s) now is))
        ]

pub IsRound-from_before : (sets : List (List ℕ)) (t s x : ℕ) → greatest_size sets (covered_before sets t) ≡ 0 → IsRoundBefore sets t s x → IsRound sets s x
IsRound-from_before sets t s x none before =
    same_least (λ u. (u < t) × Contains (chosen_in sets u) s) (λ u. Contains (chosen_in sets u) s) x
    (λ u (lt, is). is) (λ u is. (none_later sets t u s none is, is)) before

-- ---- the words of the owners

pub IsOwner-zero : (sets : List (List ℕ)) (e : ℕ) → IsLeastOrNone (IsOwner sets e 0) NONE
IsOwner-zero sets e = record { least = λ some. absurd (some refl); none = λ _ s (u, lt, is, held, open'). omega arith }

-- the word of an element that was covered stays
pub IsOwner-kept : (sets : List (List ℕ)) (e t x : ℕ) → Contains (covered_before sets t) e → IsLeastOrNone (IsOwner sets e t) x → IsLeastOrNone (IsOwner sets e (suc t)) x
IsOwner-kept sets e t x covered owner =
    same_least (IsOwner sets e t) (IsOwner sets e (suc t)) x (λ s (u, lt, is, held, open'). (u, omega arith, is, held, open')) (λ s is. back s is) owner
  where
    back : (s : ℕ) → IsOwner sets e (suc t) s → IsOwner sets e t s
    back s (u, lt, is, held, open') =
        elim (cases_lt u t) [
          | inl earlier ↦ (u, earlier, is, held, open')
          | inr late ↦
              let now : t ≡ u = omega arith in
              absurd (open' (subst (λ k. Contains (covered_before sets k) e) now covered))
        ]

-- that of another becomes the least set that this round chooses and that holds it
pub IsOwner-new : (sets : List (List ℕ)) (e t x : ℕ) → (Contains (covered_before sets t) e → ⊥) →
    IsLeastOrNone (λ s. Contains (chosen_in sets t) s × Contains (set_at sets s) e) x → IsLeastOrNone (IsOwner sets e (suc t)) x
IsOwner-new sets e t x open' least =
    same_least (λ s. Contains (chosen_in sets t) s × Contains (set_at sets s) e) (IsOwner sets e (suc t)) x
    (λ s (is, held). (t, omega arith, is, held, open')) (λ s is. back s is) least
  where
    back : (s : ℕ) → IsOwner sets e (suc t) s → Contains (chosen_in sets t) s × Contains (set_at sets s) e
    back s (u, lt, is, held, open_u) =
        elim (cases_lt u t) [
          | inl earlier ↦
              let after : has (covered_before sets (suc u)) e ≡ true =
              covered-chosen sets u s (has-from_Contains (chosen_in sets u) s is) e (has-from_Contains (set_at sets s) e held) in
              absurd (open' (Contains-from_has (covered_before sets t) e (covered-le sets (suc u) t earlier e after)))
          | inr late ↦
              let now : u ≡ t = omega arith in
              (subst (λ k. Contains (chosen_in sets k) s) now is, held)
        ]

pub IsCoveredBy-from_words : (sets : List (List ℕ)) (e t x : ℕ) → greatest_size sets (covered_before sets t) ≡ 0 → IsLeastOrNone (IsOwner sets e t) x → IsCoveredBy sets e x
IsCoveredBy-from_words sets e t x none owner =
    IsCoveredBy-from_owners sets e x
    (same_least (IsOwner sets e t) (IsOwner sets e (length sets)) x
    (λ s (u, lt, is, held, open').
    (u, round-below sets u (chosen-positive sets (covered_before sets u) s (has-from_Contains (chosen_in sets u) s is)).1, is, held, open'))
    (λ s (u, lt, is, held, open'). (u, none_later sets t u s none is, is, held, open')) owner)
