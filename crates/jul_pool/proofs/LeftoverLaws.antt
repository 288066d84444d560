-- Which chunks have a result, and which are left.
use Rattle.std.proofs.Common.{zero, suc, ◌≡◌, ◌≢◌, ◌⊎◌, ℕ, ◌+◌, ◌<◌, ◌≤◌, Bool, true, false, List, [], ◌∷◌, ◌++◌, length, map, set, get_or, nat_lt, refl, ap, sym, ◌∙◌, subst, ⊎_elim, inl, inr, arith, All}
use Rattle.std.proofs.lemmas.List.{get_or-set_same, get_or-set_other}
use Rattle.std.proofs.lemmas.Bool.{cases_eq}
use Rattle.std.proofs.lemmas.Bool.Decides.{nat_tests}
use Rattle.jul_base.specs.Logs.{Log}
use Rattle.jul_base.specs.Times.{times}
use Rattle.jul_pool.specs.Runs.{Run, Did}
use Rattle.jul_base.proofs.TimesLaws.{times-append, times_here, times_other}

-- the list is marked up to one place more
pub marks_more : (marks : List Bool) (before after : List ℕ) (n slot : ℕ) → length marks ≡ n → slot < n → after ≡ before ++ slot ∷ [] → ((x : ℕ) → x < n → get_or marks x false ≡ nat_lt 0 (times x before)) → (x : ℕ) → x < n → get_or (set marks slot true) x false ≡ nat_lt 0 (times x after)
marks_more marks before after n slot len small e was x h =
    let t : times x after ≡ times x before + times x (slot ∷ []) = ap (times x) e ∙ times-append x before (slot ∷ []) in
    ⊎_elim
    (λ (q : slot ≡ x). let here : times x (slot ∷ []) ≡ 1 = times_here x slot (sym q) in let m : get_or (set marks slot true) x false ≡ true = subst (λ k. get_or (set marks slot true) k false ≡ true) q (get_or-set_same marks slot true false (omega arith)) in m ∙ some (times x after) (omega arith))
    (λ (ne : slot ≡ x → ⊥). let none : times x (slot ∷ []) ≡ 0 = times_other x slot (λ q. ne (sym q)) in get_or-set_other marks slot x true false (λ q. ne (sym q)) ∙ (was x h ∙ ap (nat_lt 0) {x = times x before} {y = times x after} (omega arith)))
    (cases_eq slot x)
  where
    some : (n : ℕ) → 0 < n → true ≡ nat_lt 0 n
    some n h = grind (arith, nat_tests)

pub none_there : (n : ℕ) → false ≡ nat_lt 0 n → n ≡ 0
none_there n e = grind (arith, nat_tests)

pub some_there : (n : ℕ) → true ≡ nat_lt 0 n → 0 < n
some_there n e = grind (arith, nat_tests)

pub firsts_small : {Out : Type 0} (chunks : ℕ) (done : List (ℕ × Out)) → All (λ (p : ℕ × Out). p.0 < chunks) done → All (λ x. x < chunks) (map (λ p. p.0) done)
firsts_small chunks [] a k d h = absurd (omega arith)
firsts_small chunks (p ∷ done) a zero d h = a 0 p (omega arith)
firsts_small chunks (p ∷ done) a (suc k) d h = firsts_small chunks done (λ j e i. a (suc j) e (omega arith)) k d (omega arith)

module _ {Out : Type 0} (gives : ℕ → Out → Log → Type 0) where
  runs_small : (chunks : ℕ) (runs : List (Run Out)) → All (λ (r : Run Out). (r.chunk < chunks) × gives r.chunk r.out r.added) runs → All (λ (p : ℕ × Out). p.0 < chunks) (map (λ (r : Run Out). (r.chunk, r.out)) runs)
  runs_small chunks [] a k d h = absurd (omega arith)
  runs_small chunks (r ∷ runs) a zero d h = (a 0 r (omega arith)).0
  runs_small chunks (r ∷ runs) a (suc k) d h = runs_small chunks runs (λ j e i. a (suc j) e (omega arith)) k d (omega arith)

  -- each chunk that was done is one of the chunks
  pub did_small : (chunks : ℕ) (start new : Log) (done : List (ℕ × Out)) → Did gives chunks start new done → All (λ (p : ℕ × Out). p.0 < chunks) done
  did_small chunks start new done d = subst (All (λ (p : ℕ × Out). p.0 < chunks)) d.done_is (runs_small chunks d.runs d.each)

-- all chunks below this one were taken, and those from it on are as they were
pub record LeftFrom (chunk : ℕ) (start now : List ℕ) : Type 0 where
  pub below : (x : ℕ) → x < chunk → 0 < times x now
  pub above : (x : ℕ) → chunk ≤ x → times x now ≡ times x start

pub left_none : (list : List ℕ) → LeftFrom 0 list list
left_none list = record { below = λ x h. absurd (omega arith); above = λ x h. refl }

pub left_had : (chunk : ℕ) (start now : List ℕ) → LeftFrom chunk start now → 0 < times chunk start → LeftFrom (chunk + 1) start now
left_had chunk start now l had = record {
  below = λ x h. elim (below_or x chunk h) [ inl less ↦ l.below x less | inr same ↦ subst (λ k. 0 < times k now) (sym same) (omega (arith, l.above chunk (omega arith))) ];
  above = λ x h. l.above x (omega arith);
}
  where
    below_or : (x n : ℕ) → x < n + 1 → (x < n) ⊎ (x ≡ n)
    below_or x n h = grind arith

pub left_took : (chunk : ℕ) (start now new : List ℕ) → LeftFrom chunk start now → 0 < times chunk new → ((x : ℕ) → x ≢ chunk → times x new ≡ times x now) → LeftFrom (chunk + 1) start new
left_took chunk start now new l own others = record {
  below = λ x h. elim (below_or x chunk h) [ inl less ↦ omega (arith, l.below x less, others x (λ q. absurd (omega arith))) | inr same ↦ subst (λ k. 0 < times k new) (sym same) own ];
  above = λ x h. others x (λ q. absurd (omega arith)) ∙ l.above x (omega arith);
}
  where
    below_or : (x n : ℕ) → x < n + 1 → (x < n) ⊎ (x ≡ n)
    below_or x n h = grind arith
