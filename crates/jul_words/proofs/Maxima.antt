-- The greatest round of a log depends only on which entries it has, and a history of stamps has the marks that it should.
use Rattle.std.proofs.Common.{◌≡◌, ℕ, ◌<◌, ◌≤◌, ◌≢◌, ◌⊎◌, List, [], ◌∷◌, max, eqb, eq-eqb, ne_eqb, sym, refl, ap, ◌∙◌, subst, ⊎_elim, inl, inr, arith}
use Rattle.std.specs.Prelude.{nat_lt}
use Rattle.std.proofs.lemmas.Bool.{cases_eq, cases_lt, lt-ltb, cond-true, cond-false}
use Rattle.jul_base.specs.Logs.{Entry, Home}
use Rattle.jul_words.specs.Weights.{weigh, counted, HasSameEntries}
use Rattle.jul_words.specs.Marks.{is_at, is_marked}
use Rattle.jul_words.specs.Stamps.{greatest, AreStampings, IsGreatest, Firsts, AllFirsts}
use Rattle.jul_words.proofs.Marking.{at_here, at_parts, marks_at, mark_parts, mark_here, mark_le_one, lowered_mark}

-- the first step, by the vertex of the newest entry
pub greatest_here : (v : ℕ) (e : Entry) (es : List Entry) → e.vertex ≡ v → greatest v (e ∷ es) ≡ max e.number (greatest v es)
greatest_here v e es q = cond-true (eqb e.vertex v) _ _ (eq-eqb e.vertex v q)

pub greatest_else : (v : ℕ) (e : Entry) (es : List Entry) → e.vertex ≢ v → greatest v (e ∷ es) ≡ greatest v es
greatest_else v e es q = cond-false (eqb e.vertex v) _ _ (ne_eqb e.vertex v q)

pub greatest_over : (v c : ℕ) (log : List Entry) → 0 < weigh (is_at v c) log → c ≤ greatest v log
greatest_over v c [] h = absurd (omega arith)
greatest_over v c (e ∷ es) h = ⊎_elim
    (λ (here : 0 < is_at v c e). let p = at_parts v c e here in omega (arith, greatest_here v e es p.0, p.1))
    (λ (no : is_at v c e ≤ 0). let r = greatest_over v c es (omega arith) in ⊎_elim (λ q. omega (arith, greatest_here v e es q)) (λ q. omega (arith, greatest_else v e es q)) (cases_eq e.vertex v))
    (cases_lt 0 (is_at v c e))

pub greatest_found : (v n : ℕ) (log : List Entry) → greatest v log ≡ n → (n ≡ 0) ⊎ (0 < weigh (is_at v n) log)
greatest_found v n [] q = inl (sym q)
greatest_found v n (e ∷ es) q =
    let r = greatest v es in
    let older : r ≡ n → (n ≡ 0) ⊎ (0 < weigh (is_at v n) (e ∷ es)) = λ z. ⊎_elim (λ (x : n ≡ 0). inl x) (λ (x : 0 < weigh (is_at v n) es). inr (omega arith)) (greatest_found v n es z) in
    ⊎_elim
    (λ (here : e.vertex ≡ v). let is = greatest_here v e es here in ⊎_elim
    (λ (x : r < e.number). let m : e.number ≡ n = omega arith in inr (omega (arith, at_here v n e here m)))
    (λ (x : e.number ≤ r). older (omega arith))
    (cases_lt r e.number))
    (λ (other : e.vertex ≢ v). older (sym (greatest_else v e es other) ∙ q))
    (cases_eq e.vertex v)

pub greatest_more : (v : ℕ) (some all : List Entry) → ((f : Entry → ℕ) → weigh f some ≤ weigh f all) → greatest v some ≤ greatest v all
greatest_more v some all more = let n = greatest v some in ⊎_elim
    (λ (x : n ≡ 0). omega arith)
    (λ (x : 0 < weigh (is_at v n) some). greatest_over v n all (omega (arith, more (is_at v n))))
    (greatest_found v n some refl)

pub greatest_same : (v : ℕ) (log all : List Entry) → HasSameEntries log all → greatest v all ≡ greatest v log
greatest_same v log all same = let a = greatest_more v log all (λ f. omega (arith, same f)) in let b = greatest_more v all log (λ f. omega (arith, same f)) in omega arith

reached : (v n : ℕ) (e : Entry) (es : List Entry) → AreStampings (e ∷ es) → Firsts v es → greatest v (e ∷ es) ≡ n → 0 < n → 0 < weigh (is_marked v n) (e ∷ es)
reached v n e es l m q positive =
    let r = greatest v es in
    let older : r ≡ n → 0 < weigh (is_marked v n) (e ∷ es) = λ z. let old : weigh (is_marked v n) es ≡ 1 = subst (λ k. weigh (is_marked v k) es ≡ 1) z (m.reached (omega arith)) in omega arith in
    ⊎_elim
    (λ (here : e.vertex ≡ v). let is = greatest_here v e es here in ⊎_elim
    (λ (x : r < e.number).
    let at : greatest e.vertex es < e.number = subst (λ k. greatest k es < e.number) (sym here) x in
    let mark : e.mark ≡ 1 = ap (λ (y : Entry). y.mark) l.0 ∙ ap counted (lt-ltb _ e.number at) in
    let m : e.number ≡ n = omega arith in omega (arith, mark_here v n e here m mark))
    (λ (x : e.number ≤ r). older (omega arith))
    (cases_lt r e.number))
    (λ (other : e.vertex ≢ v). older (sym (greatest_else v e es other) ∙ q))
    (cases_eq e.vertex v)

pub stamped_firsts : (v : ℕ) (history : List Entry) → AreStampings history → Firsts v history
stamped_firsts v [] l = record { once = λ c. omega arith; reached = λ some. absurd (omega arith) }
stamped_firsts v (e ∷ es) l =
    let r = greatest v es in let m = stamped_firsts v es l.1 in
    let new : (c : ℕ) → 0 < is_marked v c e → weigh (is_marked v c) es ≡ 0 = λ c some.
    let p = mark_parts v c e some in let is : e.mark ≡ counted (nat_lt (greatest e.vertex es) e.number) = ap (λ (x : Entry). x.mark) l.0 in
    let lt : r < c = subst (λ (y : ℕ × ℕ). greatest y.0 es < y.1) (λ i. (p.0 i, p.1 i)) (lowered_mark _ _ (sym is ∙ p.2)) in
    ⊎_elim (λ (x : 0 < weigh (is_marked v c) es). absurd (omega (arith, greatest_over v c es (omega (arith, marks_at v c es))))) (λ x. omega arith) (cases_lt 0 (weigh (is_marked v c) es)) in
    let once : (c : ℕ) → weigh (is_marked v c) (e ∷ es) ≤ 1 = λ c. ⊎_elim (λ (x : 0 < is_marked v c e). omega (arith, mark_le_one v c e, new c x)) (λ (x : is_marked v c e ≤ 0). omega (arith, m.once c)) (cases_lt 0 (is_marked v c e)) in
    record { once = once; reached = λ some. let n = greatest v (e ∷ es) in omega (arith, once n, reached v n e es l m refl some) }

-- the marks depend only on which entries a log has
pub firsts_same : (v : ℕ) (log all : List Entry) → HasSameEntries log all → Firsts v all → Firsts v log
firsts_same v log all same m = let n = greatest_same v log all same in record {
  once = λ c. omega (arith, same (is_marked v c), m.once c);
  reached = λ some. same (is_marked v (greatest v log)) ∙ subst (λ k. 0 < k → weigh (is_marked v k) all ≡ 1) n m.reached some;
}

pub settles : (h : Home) (words : List ℕ) (history log : List Entry) → IsGreatest h words history → HasSameEntries log history → AllFirsts h log
settles h words history log r same v near = firsts_same v log history same (stamped_firsts v history r.legal)
