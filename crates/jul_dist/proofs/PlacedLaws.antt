-- How many vertices have a place: fewer once a bucket is emptied, and no more than there are moves on top once they are moved.
use Rattle.std.proofs.Common.{◌≡◌, ◌≢◌, ℕ, zero, suc, ◌+◌, ◌<◌, ◌≤◌, ◌==◌, not, cond, List, [], ◌∷◌, length, get_or, set, ap, sym, ◌∙◌, arith, inl, inr}
use Rattle.std.specs.Prelude.{Contains}
use Rattle.std.specs.List.{All}
use Rattle.std.proofs.lemmas.Bool.{cases_eq, eq-eqb, ne_eqb, cond-true, cond-false}
use Rattle.std.proofs.lemmas.List.{length-set}
use Rattle.std.proofs.lemmas.List.Elements.{All-head, All-tail, All-weaker}
use Rattle.std.proofs.lemmas.List.Sums.{sum_by-cons, sum_by-set}
use Rattle.jul_base.specs.declared.limits.TheConstants.{NONE}
use Rattle.jul_bucket.specs.Places.{emptied, set_places}
use Rattle.jul_dist.specs.Moving.{placed}

-- ---- how many vertices are placed

abbrev pub is_placed : ℕ → ℕ
is_placed p = cond (not (p == NONE)) 1 0

pub is_placed-none : (p : ℕ) → p ≡ NONE → is_placed p ≡ 0
is_placed-none p e = ap is_placed e

pub is_placed-some : (p : ℕ) → p ≢ NONE → is_placed p ≡ 1
is_placed-some p some = ap (λ b. cond {A = ℕ} (not b) 1 0) (ne_eqb p NONE some)

pub placed-cons : (p : ℕ) (ps : List ℕ) → placed (p ∷ ps) ≡ is_placed p + placed ps
placed-cons p ps = sum_by-cons (λ x. is_placed x) p ps

emptied_one : (p bucket : ℕ) → is_placed (cond (p == bucket) NONE p) ≤ is_placed p
emptied_one p bucket = elim (cases_eq p bucket) [
  | inl e ↦ let none : is_placed (cond (p == bucket) NONE p) ≡ 0 = is_placed-none (cond (p == bucket) NONE p) (cond-true (p == bucket) NONE p (eq-eqb p bucket e)) in omega (arith, none)
  | inr ne ↦ let same : is_placed (cond (p == bucket) NONE p) ≡ is_placed p = ap is_placed (cond-false (p == bucket) NONE p (ne_eqb p bucket ne)) in omega (arith, same)
]

placed_emptied-le : (places : List ℕ) (bucket : ℕ) → placed (emptied places bucket) ≤ placed places
placed_emptied-le [] bucket = omega arith
placed_emptied-le (p ∷ ps) bucket =
    omega (arith, placed-cons p ps, placed-cons (cond (p == bucket) NONE p) (emptied ps bucket), emptied_one p bucket, placed_emptied-le ps bucket)

-- a bucket that held a vertex is emptied: fewer are placed
pub placed_emptied : (places : List ℕ) (bucket : ℕ) → bucket ≢ NONE → Contains places bucket → placed (emptied places bucket) < placed places
placed_emptied [] bucket some (k, lt, is) = absurd (omega (arith, lt))
placed_emptied (p ∷ ps) bucket some (zero, lt, is) =
    let none : is_placed (cond (p == bucket) NONE p) ≡ 0 = is_placed-none (cond (p == bucket) NONE p) (cond-true (p == bucket) NONE p (eq-eqb p bucket is)) in
    let one : is_placed p ≡ 1 = is_placed-some p (λ e. some (sym is ∙ e)) in
    omega (arith, placed-cons p ps, placed-cons (cond (p == bucket) NONE p) (emptied ps bucket), none, one, placed_emptied-le ps bucket)
placed_emptied (p ∷ ps) bucket some (suc k, lt, is) =
    omega (arith, placed-cons p ps, placed-cons (cond (p == bucket) NONE p) (emptied ps bucket), emptied_one p bucket, placed_emptied ps bucket some (k, omega arith, is))

-- ---- moves

one_placed : (p : ℕ) → is_placed p ≤ 1
one_placed p = elim (cases_eq p NONE) [
  | inl e ↦ let none : is_placed p ≡ 0 = is_placed-none p e in omega arith
  | inr ne ↦ let one : is_placed p ≡ 1 = is_placed-some p ne in omega arith
]

-- each move places one vertex more at most
pub placed_moved : (places : List ℕ) (moves : List (ℕ × ℕ)) → All (λ (m : ℕ × ℕ). m.0 < length places) moves → placed (set_places places moves) ≤ placed places + length moves
placed_moved places [] within = omega arith
placed_moved places (m ∷ ms) within =
    let first : m.0 < length places = All-head (λ (m : ℕ × ℕ). m.0 < length places) m ms within in
    let rest : All (λ (x : ℕ × ℕ). x.0 < length (set places m.0 m.1)) ms =
    All-weaker (λ (x : ℕ × ℕ). x.0 < length places) (λ (x : ℕ × ℕ). x.0 < length (set places m.0 m.1)) (λ x lt. omega (arith, lt, length-set places m.0 m.1)) ms
    (All-tail (λ (m : ℕ × ℕ). m.0 < length places) m ms within) in
    let one : placed (set places m.0 m.1) + is_placed (get_or places m.0 0) ≡ placed places + is_placed m.1 = sum_by-set (λ p. is_placed p) places m.0 m.1 0 first in
    omega (arith, placed_moved (set places m.0 m.1) ms rest, one, one_placed m.1)
