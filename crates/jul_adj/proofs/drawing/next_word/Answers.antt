use Rattle.std.proofs.Common.{ℕ, ap}
use Rattle.jul_adj.specs.Generated.{word, next_state}
use Rattle.jul_adj.proofs.drawing.next_word.Goals as goal

pub returns-clause-word : goal.returns-clause-word
unfolding word
returns-clause-word c = ap (λ (p : ℕ × ℕ). p.0) c.next_word.ensures

pub returns-clause-state : goal.returns-clause-state
unfolding next_state
returns-clause-state c = ap (λ (p : ℕ × ℕ). p.1) c.next_word.ensures
