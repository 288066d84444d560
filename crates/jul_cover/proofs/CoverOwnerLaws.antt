-- The sets that cover an element, by words that chosen sets lower: a word is NONE as long as its element isn't covered.
use Rattle.std.proofs.Common.{◌≡◌, ◌≢◌, ℕ, zero, suc, ◌≤◌, true, List, length, arith, inl, inr}
use Rattle.std.specs.List.{Contains}
use Rattle.std.proofs.lemmas.Bool.{cases_lt, both_ways}
use Rattle.jul_base.specs.declared.limits.TheConstants.{NONE}
use Rattle.jul_base.specs.Numbers.{IsLeastOrNone}
use Rattle.jul_base.specs.Sets.{has}
use Rattle.jul_base.proofs.SetLaws.{Contains-from_has, has-from_Contains}
use Rattle.jul_base.specs.CoverRounds.{set_at, covered_before, chosen_in, IsCoveredIn, IsCoveredBy}
use Rattle.jul_cover.specs.CoverWork.{IsOwner}
use Rattle.jul_base.proofs.CoverFallLaws.{covered_none, covered-chosen, covered-le}
use Rattle.jul_base.proofs.CoverEndLaws.{IsCoverer, chosen-below, covering_round}

-- the round in which an element that wasn't covered is in a chosen set is the first that covers it
pub covered_in-from_open : (sets : List (List ℕ)) (e t s : ℕ) → Contains (chosen_in sets t) s → Contains (set_at sets s) e →
    (Contains (covered_before sets t) e → ⊥) → IsCoveredIn sets e t
covered_in-from_open sets e t s is held open' = record {
  holds =
      Contains-from_has (covered_before sets (suc t)) e
      (covered-chosen sets t s (has-from_Contains (chosen_in sets t) s is) e (has-from_Contains (set_at sets s) e held));
  least = λ u covered.
      elim (cases_lt u t) [
        | inl earlier ↦
            absurd (open' (Contains-from_has (covered_before sets t) e
            (covered-le sets (suc u) t earlier e (has-from_Contains (covered_before sets (suc u)) e covered))))
        | inr late ↦ late
      ];
}

-- and the other way round
pub open-from_covered_in : (sets : List (List ℕ)) (e t : ℕ) → IsCoveredIn sets e t → Contains (covered_before sets t) e → ⊥
open-from_covered_in sets e zero first covered = both_ways _ (covered_none sets e) (has-from_Contains (covered_before sets 0) e covered)
open-from_covered_in sets e (suc t) first covered = absurd (omega (arith, first.least t covered))

pub owner-from_coverer : (sets : List (List ℕ)) (e s : ℕ) → IsCoverer sets e s → IsOwner sets e (length sets) s
owner-from_coverer sets e s (t, first, is, held) =
    (t, (chosen-below sets t s (has-from_Contains (chosen_in sets t) s is)).0, is, held, λ covered. open-from_covered_in sets e t first covered)

pub coverer-from_owner : (sets : List (List ℕ)) (e t s : ℕ) → IsOwner sets e t s → IsCoverer sets e s
coverer-from_owner sets e t s (u, lt, is, held, open') = (u, covered_in-from_open sets e u s is held open', is, held)

-- the words of the owners, after the last round
pub IsCoveredBy-from_owners : (sets : List (List ℕ)) (e x : ℕ) → IsLeastOrNone (IsOwner sets e (length sets)) x → IsCoveredBy sets e x
IsCoveredBy-from_owners sets e x owner = record {
  least = λ some. record {
    holds = coverer-from_owner sets e (length sets) x (owner.least some).holds;
    least = λ s coverer. (owner.least some).least s (owner-from_coverer sets e s coverer);
  };
  none = λ none s coverer. owner.none none s (owner-from_coverer sets e s coverer);
}

-- a word is NONE before round t exactly where its element isn't covered
pub owner-covered : (sets : List (List ℕ)) (e t x : ℕ) → IsLeastOrNone (IsOwner sets e t) x → x ≢ NONE → has (covered_before sets t) e ≡ true
owner-covered sets e t x owner some =
    let (u, lt, is, held, open') = (owner.least some).holds in
    covered-le sets (suc u) t lt e (covered-chosen sets u x (has-from_Contains (chosen_in sets u) x is) e (has-from_Contains (set_at sets x) e held))

pub covered-owner : (sets : List (List ℕ)) (e t x : ℕ) → IsLeastOrNone (IsOwner sets e t) x → has (covered_before sets t) e ≡ true → x ≢ NONE
covered-owner sets e zero x owner covered none = both_ways _ (covered_none sets e) covered
covered-owner sets e (suc t) x owner covered none =
    let (u, first, s, is, held) = covering_round sets (suc t) e covered in
    let le : u ≤ t = first.least t (Contains-from_has (covered_before sets (suc t)) e covered) in
    owner.none none s (u, omega arith, Contains-from_has (chosen_in sets u) s is, Contains-from_has (set_at sets s) e held, open-from_covered_in sets e u first)
