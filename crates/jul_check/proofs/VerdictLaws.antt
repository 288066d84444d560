-- What a verdict says of each vertex, and how it is found by one pass over the vertices.
use Rattle.std.proofs.Common.{◌≡◌, ℕ, zero, suc, ◌+◌, ◌-◌, ◌<◌, ◌≤◌, Bool, false, List, [], ◌∷◌, Option, Some, None, sym, ◌∙◌, ap, refl, arith, inl, inr}
use Rattle.std.specs.List.{filter_map, find, range_with_len, cons_option}
use Rattle.std.proofs.lemmas.Bool.{cases_eq}
use Rattle.jul_check.specs.declared.verdicts.Reason.{Reason}
use Rattle.jul_check.specs.declared.verdicts.Verdict.{Verdict}
use Rattle.jul_check.specs.declared.verdicts.Verdict.TheVariants.{Yes, No}
use Rattle.jul_check.specs.Verdicts.{refusal, first_or_yes, verdict_by, verdict_from}

-- ---- the vertices that are left decide

range_more : (n v : ℕ) → v < n → range_with_len v (n - v) ≡ v ∷ range_with_len (v + 1) (n - (v + 1))
range_more n v lt = let e : n - v ≡ suc (n - (v + 1)) = omega arith in ap (range_with_len v) e

range_end : (n v : ℕ) → n ≤ v → range_with_len v (n - v) ≡ []
range_end n v le = let e : n - v ≡ 0 = omega arith in ap (range_with_len v) e

-- the verdict of v and those after it, where the first reason that v fails is known
from_more : (n : ℕ) (order : List Reason) (fails : ℕ → Reason → Bool) (v : ℕ) (o : Option Reason) → v < n → find (fails v) order ≡ o →
    verdict_from n order fails v
    ≡ first_or_yes (cons_option (refusal v o) (filter_map (λ u. refusal u (find (fails u) order)) (range_with_len (v + 1) (n - (v + 1)))))
from_more n order fails v o lt e =
    ap (λ vs. first_or_yes (filter_map (λ u. refusal u (find (fails u) order)) vs)) (range_more n v lt)
    ∙ ap (λ r. first_or_yes (cons_option (refusal v r) (filter_map (λ u. refusal u (find (fails u) order)) (range_with_len (v + 1) (n - (v + 1)))))) e

pub verdict_from-zero : (n : ℕ) (order : List Reason) (fails : ℕ → Reason → Bool) → verdict_from n order fails 0 ≡ verdict_by n order fails
verdict_from-zero n order fails =
    let e : n - 0 ≡ n = omega arith in
    ap (λ k. first_or_yes (filter_map (λ u. refusal u (find (fails u) order)) (range_with_len 0 k))) e

pub verdict_from-passes : (n : ℕ) (order : List Reason) (fails : ℕ → Reason → Bool) (v : ℕ) → v < n → find (fails v) order ≡ None →
    verdict_from n order fails v ≡ verdict_from n order fails (v + 1)
verdict_from-passes n order fails v lt e = from_more n order fails v None lt e

pub verdict_from-fails : (n : ℕ) (order : List Reason) (fails : ℕ → Reason → Bool) (v : ℕ) (r : Reason) → v < n → find (fails v) order ≡ Some r →
    verdict_from n order fails v ≡ No v r
verdict_from-fails n order fails v r lt e = from_more n order fails v (Some r) lt e

pub verdict_from-end : (n : ℕ) (order : List Reason) (fails : ℕ → Reason → Bool) (v : ℕ) → n ≤ v → verdict_from n order fails v ≡ Yes
verdict_from-end n order fails v le = ap (λ vs. first_or_yes (filter_map (λ u. refusal u (find (fails u) order)) vs)) (range_end n v le)

-- ---- a yes: no vertex fails a reason

found_none : (v : ℕ) (o : Option Reason) (rest : List Verdict) → first_or_yes (cons_option (refusal v o) rest) ≡ Yes →
    (o ≡ None) × (first_or_yes rest ≡ Yes)
found_none v None rest e = (refl, e)
found_none v (Some r) rest e = absurd (cc)

yes_from : (order : List Reason) (fails : ℕ → Reason → Bool) (n a : ℕ) →
    first_or_yes (filter_map (λ u. refusal u (find (fails u) order)) (range_with_len a n)) ≡ Yes →
    (v : ℕ) → a ≤ v → v < a + n → find (fails v) order ≡ None
yes_from order fails zero a e v low high = absurd (omega arith)
yes_from order fails (suc n) a e v low high =
    let rest : List Verdict = filter_map (λ u. refusal u (find (fails u) order)) (range_with_len (a + 1) n) in
    let here : (find (fails a) order ≡ None) × (first_or_yes rest ≡ Yes) = found_none a (find (fails a) order) rest e in
    elim (cases_eq v a) [
      | inl same ↦ ap (λ k. find (fails k) order) same ∙ here.0
      | inr other ↦ yes_from order fails n (a + 1) here.1 v (omega arith) (omega arith)
    ]

-- where the verdict is yes, no vertex fails a reason
pub yes_all : (n : ℕ) (order : List Reason) (fails : ℕ → Reason → Bool) → verdict_by n order fails ≡ Yes →
    (v : ℕ) → v < n → find (fails v) order ≡ None
yes_all n order fails e v lt = yes_from order fails n 0 e v (omega arith) (omega arith)

-- what is found nowhere fails at the first and at the rest
pub find_none : (p : Reason → Bool) (x : Reason) (xs : List Reason) → find p (x ∷ xs) ≡ None → (p x ≡ false) × (find p xs ≡ None)
find_none p x xs e = grind arith

-- ---- where no vertex fails a reason

-- a reason that isn't failed is passed over
pub find_past : (f : Reason → Bool) (r : Reason) (rs : List Reason) → f r ≡ false → find f rs ≡ None → find f (r ∷ rs) ≡ None
find_past f r rs h none = grind arith

yes_onwards : (n : ℕ) (order : List Reason) (fails : ℕ → Reason → Bool) → ((v : ℕ) → v < n → find (fails v) order ≡ None) → (k v : ℕ) → v + k ≡ n → verdict_from n order fails v ≡ Yes
yes_onwards n order fails all zero v e = verdict_from-end n order fails v (omega arith)
yes_onwards n order fails all (suc k) v e =
    let lt : v < n = omega arith in
    let next : v + 1 + k ≡ n = omega arith in
    verdict_from-passes n order fails v lt (all v lt) ∙ yes_onwards n order fails all k (v + 1) next

-- where no vertex fails a reason, the verdict is yes
pub all_yes : (n : ℕ) (order : List Reason) (fails : ℕ → Reason → Bool) → ((v : ℕ) → v < n → find (fails v) order ≡ None) → verdict_by n order fails ≡ Yes
all_yes n order fails all =
    let whole : 0 + n ≡ n = omega arith in
    sym (verdict_from-zero n order fails) ∙ yes_onwards n order fails all n 0 whole
