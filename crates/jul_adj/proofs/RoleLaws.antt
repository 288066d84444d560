-- What a token stands for, by the range in which its number lies.
use Rattle.std.proofs.Common.{◌≡◌, ℕ, ◌<◌, ◌≤◌, List, ◌∙◌, arith}
use Rattle.std.proofs.lemmas.Bool.{ne_eqb, lt-ltb, le-ltb, cond-true, cond-false}
use Rattle.jul_text.specs.Tokens.{Word}
use Rattle.jul_adj.specs.Roles.{offset, target, weight, extra, first_target, first_weight, all_tokens, role_at}

pub role_offset : (ws : List Word) (j : ℕ) → 3 ≤ j → j < first_target ws → role_at ws j ≡ offset
role_offset ws j low high =
    cond-false _ _ _ (ne_eqb j 0 (λ e. absurd (omega (arith, e))))
    ∙ cond-false _ _ _ (ne_eqb j 1 (λ e. absurd (omega (arith, e))))
    ∙ cond-false _ _ _ (ne_eqb j 2 (λ e. absurd (omega (arith, e))))
    ∙ cond-true _ _ _ (lt-ltb j (first_target ws) high)

pub role_target : (ws : List Word) (j : ℕ) → first_target ws ≤ j → j < first_weight ws → role_at ws j ≡ target
role_target ws j low high =
    cond-false _ _ _ (ne_eqb j 0 (λ e. absurd (omega (arith, e))))
    ∙ cond-false _ _ _ (ne_eqb j 1 (λ e. absurd (omega (arith, e))))
    ∙ cond-false _ _ _ (ne_eqb j 2 (λ e. absurd (omega (arith, e))))
    ∙ cond-false _ _ _ (le-ltb j (first_target ws) low)
    ∙ cond-true _ _ _ (lt-ltb j (first_weight ws) high)

pub role_weight : (ws : List Word) (j : ℕ) → first_weight ws ≤ j → j < all_tokens ws → role_at ws j ≡ weight
role_weight ws j low high =
    cond-false _ _ _ (ne_eqb j 0 (λ e. absurd (omega (arith, e))))
    ∙ cond-false _ _ _ (ne_eqb j 1 (λ e. absurd (omega (arith, e))))
    ∙ cond-false _ _ _ (ne_eqb j 2 (λ e. absurd (omega (arith, e))))
    ∙ cond-false _ _ _ (le-ltb j (first_target ws) (omega arith))
    ∙ cond-false _ _ _ (le-ltb j (first_weight ws) low)
    ∙ cond-true _ _ _ (lt-ltb j (all_tokens ws) high)

pub role_extra : (ws : List Word) (j : ℕ) → all_tokens ws ≤ j → role_at ws j ≡ extra
role_extra ws j low =
    cond-false _ _ _ (ne_eqb j 0 (λ e. absurd (omega (arith, e))))
    ∙ cond-false _ _ _ (ne_eqb j 1 (λ e. absurd (omega (arith, e))))
    ∙ cond-false _ _ _ (ne_eqb j 2 (λ e. absurd (omega (arith, e))))
    ∙ cond-false _ _ _ (le-ltb j (first_target ws) (omega arith))
    ∙ cond-false _ _ _ (le-ltb j (first_weight ws) (omega arith))
    ∙ cond-false _ _ _ (le-ltb j (all_tokens ws) low)
