-- The first token that has a fault decides.
use Rattle.std.proofs.Common.{◌≡◌, ℕ, zero, suc, ◌+◌, ◌-◌, ◌<◌, ◌≤◌, Bool, List, [], ◌∷◌, length, Some, None, Ok, Err, ◌∙◌, refl, ap, arith, inl, inr}
use Rattle.std.specs.List.{filter_map, range_with_len, cons_option}
use Rattle.std.proofs.lemmas.Bool.{cases_eq, lt-ltb, le-ltb, cond-true, cond-false}
use Rattle.jul_text.specs.Tokens.{Word}
use Rattle.jul_text.specs.Scanning.{word_at}
use Rattle.jul_base.specs.declared.graphs.RawGraph.{RawGraph}
use Rattle.jul_adj.specs.declared.faults.Fault.{Fault}
use Rattle.jul_adj.specs.declared.faults.FaultKind.{FaultKind}
use Rattle.jul_adj.specs.declared.faults.FaultKind.TheVariants.{Truncated, Trailing}
use Rattle.jul_adj.specs.Roles.{all_tokens}
use Rattle.jul_adj.specs.Faults.{kind_at, fault_in, fault_at, with_place, faults, NoneBefore}
use Rattle.jul_adj.specs.Reading.{graph_of, decided, read_tokens}
use Rattle.jul_adj.proofs.RoleLaws.{role_extra}

pub none_more : (ws : List Word) (j : ℕ) → NoneBefore ws j → kind_at ws j ≡ None → NoneBefore ws (j + 1)
none_more ws j before here k lt = elim (cases_eq k j) [ inl e ↦ ap (kind_at ws) e ∙ here | inr ne ↦ before k (omega arith) ]

-- the faults of n tokens from a on
abbrev faults_in : List Word → ℕ → ℕ → List Fault
faults_in ws a n = filter_map (fault_at ws) (range_with_len a n)

no_fault : (ws : List Word) (a : ℕ) → kind_at ws a ≡ None → fault_at ws a ≡ None
no_fault ws a h = ap (with_place ws a) h

-- tokens without a fault at the front add none
passed : (ws : List Word) (n a m t : ℕ) → t ≡ n + m → ((k : ℕ) → a ≤ k → k < a + n → kind_at ws k ≡ None) → faults_in ws a t ≡ faults_in ws (a + n) m
passed ws zero a m t e none =
    let e' : t ≡ m = omega arith in
    let a' : a ≡ a + 0 = omega arith in
    ap (faults_in ws a) e' ∙ ap (λ k. faults_in ws k m) a'
passed ws (suc n) a m t e none =
    let e' : t ≡ suc (n + m) = omega arith in
    let a' : (a + 1) + n ≡ a + suc n = omega arith in
    ap (faults_in ws a) e'
    ∙ ap (λ o. cons_option o (faults_in ws (a + 1) (n + m))) (no_fault ws a (none a (omega arith) (omega arith)))
    ∙ passed ws n (a + 1) m (n + m) refl (λ k low high. none k (omega arith) (omega arith))
    ∙ ap (λ k. faults_in ws k m) a'

pub faults_none : (ws : List Word) → NoneBefore ws (length ws) → faults ws ≡ []
faults_none ws none = passed ws (length ws) 0 0 (length ws) (omega arith) (λ k low high. none k (omega arith))

pub faults_first : (ws : List Word) (j : ℕ) (kind : FaultKind) → NoneBefore ws j → j < length ws → kind_at ws j ≡ Some kind →
    faults ws ≡ record { kind = kind; token = j; at = (word_at ws j).start } ∷ faults_in ws (j + 1) (length ws - j - 1)
faults_first ws j kind none lt here =
    let j' : 0 + j ≡ j = omega arith in
    passed ws j 0 (suc (length ws - j - 1)) (length ws) (omega arith) (λ k low high. none k (omega arith))
    ∙ ap (λ k. faults_in ws k (suc (length ws - j - 1))) j'
    ∙ ap (λ o. cons_option o (faults_in ws (j + 1) (length ws - j - 1))) (ap (with_place ws j) here)

pub reads_fault : (ws : List Word) (len j : ℕ) (kind : FaultKind) → NoneBefore ws j → j < length ws → kind_at ws j ≡ Some kind →
    read_tokens ws len ≡ Err (record { kind = kind; token = j; at = (word_at ws j).start })
reads_fault ws len j kind none lt here = ap (decided ws len) (faults_first ws j kind none lt here)

pub reads_truncated : (ws : List Word) (len : ℕ) → NoneBefore ws (length ws) → length ws < all_tokens ws →
    read_tokens ws len ≡ Err (record { kind = Truncated; token = length ws; at = len })
reads_truncated ws len none lt = ap (decided ws len) (faults_none ws none) ∙ cond-true _ _ _ (lt-ltb (length ws) (all_tokens ws) lt)

pub reads_graph : (ws : List Word) (len : ℕ) → NoneBefore ws (length ws) → length ws ≡ all_tokens ws → read_tokens ws len ≡ Ok (graph_of ws)
reads_graph ws len none e = ap (decided ws len) (faults_none ws none) ∙ cond-false _ _ _ (le-ltb (length ws) (all_tokens ws) (omega arith))

-- a token behind the last one is a fault
pub kind_extra : (ws : List Word) (j : ℕ) → j ≡ all_tokens ws → kind_at ws j ≡ Some Trailing
kind_extra ws j e = ap (fault_in ws j) (role_extra ws j (omega (arith, e)))

-- graphs of the same parts
pub made : (w w' : Bool) (os os' ts ts' xs xs' : List ℕ) → w ≡ w' → os ≡ os' → ts ≡ ts' → xs ≡ xs' →
    ◌≡◌ {A = RawGraph} (record { weighted = w; offsets = os; targets = ts; weights = xs }) (record { weighted = w'; offsets = os'; targets = ts'; weights = xs' })
made w w' os os' ts ts' xs xs' a b c d = cc
