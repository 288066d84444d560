-- Marked entries and entries at a number.
use Rattle.std.proofs.Common.{◌≡◌, ℕ, ◌<◌, ◌≤◌, Bool, true, false, List, [], ◌∷◌, eqb, eq-eqb, ap, ⊎_elim, arith, le_refl}
use Rattle.std.specs.Prelude.{◌&&◌, nat_lt}
use Rattle.std.proofs.lemmas.Bool.{cases_Bool, eqb-true, ltb-true, and_parts, and_from, cond_both}
use Rattle.jul_base.specs.Logs.{Entry}
use Rattle.jul_words.specs.Weights.{weigh, counted}
use Rattle.jul_words.specs.Marks.{is_at, is_marked}

pub at_here : (v c : ℕ) (e : Entry) → e.vertex ≡ v → e.number ≡ c → is_at v c e ≡ 1
at_here v c e p q = ap counted (and_from _ _ (eq-eqb e.vertex v p) (eq-eqb e.number c q))

pub at_parts : (v c : ℕ) (e : Entry) → 0 < is_at v c e → (e.vertex ≡ v) × (e.number ≡ c)
at_parts v c e h = ⊎_elim (λ t. let p = and_parts _ _ t in (eqb-true e.vertex v p.0, eqb-true e.number c p.1)) (λ f. let z : is_at v c e ≡ 0 = ap counted f in absurd (omega arith)) (cases_Bool ((eqb e.vertex v) && (eqb e.number c)))

both_le : (a b : Bool) → counted (a && b) ≤ counted a
both_le true true = le_refl 1
both_le true false = omega arith
both_le false b = le_refl 0

pub mark_at : (v c : ℕ) (e : Entry) → is_marked v c e ≤ is_at v c e
mark_at v c e = both_le ((eqb e.vertex v) && (eqb e.number c)) (eqb e.mark 1)

pub mark_parts : (v c : ℕ) (e : Entry) → 0 < is_marked v c e → (e.vertex ≡ v) × (e.number ≡ c) × (e.mark ≡ 1)
mark_parts v c e h = ⊎_elim (λ t. let p = and_parts _ _ t in let q = and_parts _ _ p.0 in (eqb-true e.vertex v q.0, eqb-true e.number c q.1, eqb-true e.mark 1 p.1)) (λ f. let z : is_marked v c e ≡ 0 = ap counted f in absurd (omega arith))
    (cases_Bool (((eqb e.vertex v) && (eqb e.number c)) && (eqb e.mark 1)))

pub mark_here : (v c : ℕ) (e : Entry) → e.vertex ≡ v → e.number ≡ c → e.mark ≡ 1 → is_marked v c e ≡ 1
mark_here v c e p q r = ap counted (and_from _ _ (and_from _ _ (eq-eqb e.vertex v p) (eq-eqb e.number c q)) (eq-eqb e.mark 1 r))

pub marks_at : (v c : ℕ) (log : List Entry) → weigh (is_marked v c) log ≤ weigh (is_at v c) log
marks_at v c [] = le_refl 0
marks_at v c (e ∷ es) = omega (arith, mark_at v c e, marks_at v c es)

pub mark_le_one : (v c : ℕ) (e : Entry) → is_marked v c e ≤ 1
mark_le_one v c e = cond_both (((eqb e.vertex v) && (eqb e.number c)) && (eqb e.mark 1)) 1 0 (λ (n : ℕ). n ≤ 1) (λ _. le_refl 1) (λ _. omega arith)

-- what a marked entry shows
pub lowered_mark : (c n : ℕ) → counted (nat_lt c n) ≡ 1 → c < n
lowered_mark c n h = ⊎_elim (λ t. ltb-true c n t) (λ f. let z : counted (nat_lt c n) ≡ 0 = ap counted f in absurd (omega arith)) (cases_Bool (nat_lt c n))
