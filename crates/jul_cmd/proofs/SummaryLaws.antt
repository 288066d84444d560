-- The lines that sum results up.
use Rattle.std.proofs.Common.{◌≡◌, ℕ, List, ◌∙◌, ap}
use Rattle.std.specs.Prelude.{codes}
use Rattle.jul_witness.specs.Summaries.{greatest, times_in, numbers_of, number_count, summary_line, distances_summary, cores_summary, cover_summary}

pub distances_line : (task : List ℕ) (n m : ℕ) (dist : List ℕ) (line : List ℕ) (reached most : ℕ) → line ≡ summary_line task n m (codes "reached") reached (codes "max") most →
    reached ≡ number_count dist → most ≡ greatest (numbers_of dist) → line ≡ distances_summary task n m dist
unfolding distances_summary
distances_line task n m dist line reached most is a b =
    is ∙ ap (λ x. summary_line task n m (codes "reached") x (codes "max") most) a ∙ ap (λ x. summary_line task n m (codes "reached") (number_count dist) (codes "max") x) b

pub cores_line : (task : List ℕ) (n m : ℕ) (core : List ℕ) (line : List ℕ) (most top : ℕ) → line ≡ summary_line task n m (codes "max") most (codes "top") top →
    most ≡ greatest core → top ≡ times_in core most → line ≡ cores_summary task n m core
unfolding cores_summary
cores_line task n m core line most top is a b =
    is ∙ ap (λ x. summary_line task n m (codes "max") most (codes "top") x) b ∙ ap (λ x. summary_line task n m (codes "max") x (codes "top") (times_in core x)) a

pub cover_line : (task : List ℕ) (n m : ℕ) (round by : List ℕ) (line : List ℕ) (chosen covered : ℕ) → line ≡ summary_line task n m (codes "chosen") chosen (codes "covered") covered →
    chosen ≡ number_count round → covered ≡ number_count by → line ≡ cover_summary task n m round by
unfolding cover_summary
cover_line task n m round by line chosen covered is a b =
    is ∙ ap (λ x. summary_line task n m (codes "chosen") x (codes "covered") covered) a ∙ ap (λ x. summary_line task n m (codes "chosen") (number_count round) (codes "covered") x) b
