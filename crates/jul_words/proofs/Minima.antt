-- The least number of a log depends only on which entries it has, and a history of lowerings has the marks that it should.
use Rattle.std.proofs.Common.{◌≡◌, ℕ, ◌<◌, ◌≤◌, ◌≢◌, ◌⊎◌, List, [], ◌∷◌, length, min, eqb, eq-eqb, ne_eqb, sym, refl, ap, ◌∙◌, subst, ⊎_elim, inl, inr, arith, le_refl}
use Rattle.std.specs.Prelude.{nat_lt}
use Rattle.std.proofs.lemmas.Bool.{cases_eq, cases_lt, lt-ltb, cond-true, cond-false}
use Rattle.jul_base.specs.Logs.{Entry, Home}
use Rattle.jul_words.specs.Weights.{weigh, counted, HasSameEntries}
use Rattle.jul_words.specs.Seats.{start_of, floor_of}
use Rattle.jul_words.specs.Marks.{is_at, is_marked}
use Rattle.jul_words.specs.Least.{least, word_by, AreLowerings, Marks, IsSettled, IsLeast}
use Rattle.jul_words.proofs.Marking.{at_here, at_parts, mark_parts, mark_here, marks_at, mark_le_one, lowered_mark}

-- the first step, by the vertex of the newest entry
pub least_here : (v start : ℕ) (e : Entry) (es : List Entry) → e.vertex ≡ v → least v start (e ∷ es) ≡ min e.number (least v start es)
least_here v start e es q = cond-true (eqb e.vertex v) _ _ (eq-eqb e.vertex v q)

pub least_else : (v start : ℕ) (e : Entry) (es : List Entry) → e.vertex ≢ v → least v start (e ∷ es) ≡ least v start es
least_else v start e es q = cond-false (eqb e.vertex v) _ _ (ne_eqb e.vertex v q)

pub least_le : (v start : ℕ) (log : List Entry) → least v start log ≤ start
least_le v start [] = le_refl start
least_le v start (e ∷ es) = let r = least_le v start es in ⊎_elim (λ q. omega (arith, least_here v start e es q)) (λ q. omega (arith, least_else v start e es q)) (cases_eq e.vertex v)

-- an entry of the log is no less
pub least_under : (v start c : ℕ) (log : List Entry) → 0 < weigh (is_at v c) log → least v start log ≤ c
least_under v start c [] h = absurd (omega arith)
least_under v start c (e ∷ es) h = ⊎_elim
    (λ (here : 0 < is_at v c e). let p = at_parts v c e here in omega (arith, least_here v start e es p.0, p.1))
    (λ (no : is_at v c e ≤ 0). let r = least_under v start c es (omega arith) in ⊎_elim (λ q. omega (arith, least_here v start e es q)) (λ q. omega (arith, least_else v start e es q)) (cases_eq e.vertex v))
    (cases_lt 0 (is_at v c e))

-- and it is the start, or an entry has it
pub least_found : (v start n : ℕ) (log : List Entry) → least v start log ≡ n → (n ≡ start) ⊎ (0 < weigh (is_at v n) log)
least_found v start n [] q = inl (sym q)
least_found v start n (e ∷ es) q =
    let r = least v start es in
    let older : r ≡ n → (n ≡ start) ⊎ (0 < weigh (is_at v n) (e ∷ es)) = λ z. ⊎_elim (λ (x : n ≡ start). inl x) (λ (x : 0 < weigh (is_at v n) es). inr (omega arith)) (least_found v start n es z) in
    ⊎_elim
    (λ (here : e.vertex ≡ v). let is = least_here v start e es here in ⊎_elim
    (λ (x : e.number < r). let m : e.number ≡ n = omega arith in inr (omega (arith, at_here v n e here m)))
    (λ (x : r ≤ e.number). older (omega arith))
    (cases_lt e.number r))
    (λ (other : e.vertex ≢ v). older (sym (least_else v start e es other) ∙ q))
    (cases_eq e.vertex v)

-- a log with more entries has a least number that is no greater
pub least_more : (v start : ℕ) (some all : List Entry) → ((f : Entry → ℕ) → weigh f some ≤ weigh f all) → least v start all ≤ least v start some
least_more v start some all more = let n = least v start some in ⊎_elim
    (λ (x : n ≡ start). omega (arith, least_le v start all))
    (λ (x : 0 < weigh (is_at v n) some). least_under v start n all (omega (arith, more (is_at v n))))
    (least_found v start n some refl)

-- the order of the entries does not matter
pub least_same : (v start : ℕ) (log all : List Entry) → HasSameEntries log all → least v start all ≡ least v start log
least_same v start log all same = let a = least_more v start log all (λ f. omega (arith, same f)) in let b = least_more v start all log (λ f. omega (arith, same f)) in omega arith

pub lowers_floor : (h : Home) (v : ℕ) (history : List Entry) → floor_of h v ≤ start_of h v → AreLowerings h history → floor_of h v ≤ word_by h history v
lowers_floor h v [] low l = low
lowers_floor h v (e ∷ es) low l = let r = lowers_floor h v es low l.2 in ⊎_elim
    (λ (q : e.vertex ≡ v). let f : floor_of h v ≤ e.number = subst (λ (k : ℕ). floor_of h k ≤ e.number) q l.1 in omega (arith, least_here v (start_of h v) e es q))
    (λ q. omega (arith, least_else v (start_of h v) e es q)) (cases_eq e.vertex v)

reached : (h : Home) (v n : ℕ) (e : Entry) (es : List Entry) → AreLowerings h (e ∷ es) → Marks (start_of h v) v es → least v (start_of h v) (e ∷ es) ≡ n → n < start_of h v → 0 < weigh (is_marked v n) (e ∷ es)
reached h v n e es l m q low =
    let r = least v (start_of h v) es in
    let older : r ≡ n → 0 < weigh (is_marked v n) (e ∷ es) = λ z. let old : weigh (is_marked v n) es ≡ 1 = subst (λ k. weigh (is_marked v k) es ≡ 1) z (m.reached (omega arith)) in omega arith in
    ⊎_elim
    (λ (here : e.vertex ≡ v). let is = least_here v (start_of h v) e es here in ⊎_elim
    (λ (x : e.number < r).
    let at : e.number < word_by h es e.vertex = subst (λ k. e.number < word_by h es k) (sym here) x in
    let mark : e.mark ≡ 1 = ap (λ (y : Entry). y.mark) l.0 ∙ ap counted (lt-ltb e.number _ at) in
    let m : e.number ≡ n = omega arith in omega (arith, mark_here v n e here m mark))
    (λ (x : r ≤ e.number). older (omega arith))
    (cases_lt e.number r))
    (λ (other : e.vertex ≢ v). older (sym (least_else v (start_of h v) e es other) ∙ q))
    (cases_eq e.vertex v)

pub lowers_marks : (h : Home) (v : ℕ) (history : List Entry) → AreLowerings h history → Marks (start_of h v) v history
lowers_marks h v [] l = record { once = λ c. omega arith; below = λ c some. absurd (omega arith); reached = λ lower. absurd (omega arith) }
lowers_marks h v (e ∷ es) l =
    let start = start_of h v in let r = least v start es in let m = lowers_marks h v es l.2 in
    -- a mark of the newest entry is of a number below all older ones
    let new : (c : ℕ) → 0 < is_marked v c e → (c < r) × (weigh (is_marked v c) es ≡ 0) × (e.vertex ≡ v) = λ c some.
    let p = mark_parts v c e some in let is : e.mark ≡ counted (nat_lt e.number (word_by h es e.vertex)) = ap (λ (x : Entry). x.mark) l.0 in
    let lt : c < r = subst (λ (y : ℕ × ℕ). y.1 < least y.0 (start_of h y.0) es) (λ i. (p.0 i, p.1 i)) (lowered_mark _ _ (sym is ∙ p.2)) in
    (lt, ⊎_elim (λ (x : 0 < weigh (is_marked v c) es). absurd (omega (arith, marks_at v c es, least_under v start c es (omega (arith, marks_at v c es))))) (λ x. omega arith) (cases_lt 0 (weigh (is_marked v c) es)), p.0) in
    let once : (c : ℕ) → weigh (is_marked v c) (e ∷ es) ≤ 1 = λ c. ⊎_elim (λ (x : 0 < is_marked v c e). omega (arith, mark_le_one v c e, (new c x).1)) (λ (x : is_marked v c e ≤ 0). omega (arith, m.once c)) (cases_lt 0 (is_marked v c e)) in
    record {
      once = once;
      below = λ c some. ⊎_elim (λ (x : 0 < is_marked v c e). omega (arith, (new c x).0, least_le v start es)) (λ (x : is_marked v c e ≤ 0). m.below c (omega arith)) (cases_lt 0 (is_marked v c e));
      reached = λ low. let n = least v start (e ∷ es) in omega (arith, once n, reached h v n e es l m refl low);
    }

-- the marks depend only on which entries a log has
pub marks_same : (start v : ℕ) (log all : List Entry) → HasSameEntries log all → Marks start v all → Marks start v log
marks_same start v log all same m = let n = least_same v start log all same in record {
  once = λ c. omega (arith, same (is_marked v c), m.once c);
  below = λ c some. m.below c (omega (arith, same (is_marked v c)));
  reached = λ low. same (is_marked v (least v start log)) ∙ subst (λ k. k < start → weigh (is_marked v k) all ≡ 1) n m.reached low;
}

pub settles_log : (h : Home) (log history : List Entry) → HasSameEntries log history → ((v : ℕ) → v < length h.starts → floor_of h v ≤ start_of h v) → AreLowerings h history → IsSettled h log
settles_log h log history same floors l v near = (
  subst (λ k. floor_of h v ≤ k) (least_same v (start_of h v) log history same) (lowers_floor h v history (floors v near) l),
  marks_same (start_of h v) v log history same (lowers_marks h v history l),
)

pub settles : (h : Home) (words : List ℕ) (history log : List Entry) → IsLeast h words history → HasSameEntries log history → IsSettled h log
settles h words history log r same = settles_log h log history same r.floors r.legal
