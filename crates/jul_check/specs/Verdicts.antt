-- The verdict on columns: the least vertex that fails a reason, and its first one.
use Rattle.std.specs.Prelude.{ℕ, ◌-◌, Bool, List, [], ◌∷◌, Option, Some, None, find, ◌==◌}
use Rattle.std.specs.List.{filter_map, range_with_len}
use Rattle.jul_base.specs.declared.limits.TheConstants.{NONE}
use Rattle.jul_base.specs.Numbers.{below}
use Rattle.jul_check.specs.declared.verdicts.Reason.{Reason}
use Rattle.jul_check.specs.declared.verdicts.Verdict.{Verdict}
use Rattle.jul_check.specs.declared.verdicts.Verdict.TheVariants.{Yes, No}

abbrev pub is_none : ℕ → Bool
is_none x = x == NONE

abbrev pub refusal : ℕ → Option Reason → Option Verdict
refusal v (Some r) = Some (No v r)
refusal v None = None

abbrev pub first_or_yes : List Verdict → Verdict
first_or_yes (x ∷ xs) = x
first_or_yes [] = Yes

-- of the vertices below n, the least that fails a reason, and the first one of this order that it fails
abbrev pub verdict_by : ℕ → List Reason → (ℕ → Reason → Bool) → Verdict
verdict_by n order fails = first_or_yes (filter_map (λ v. refusal v (find (fails v) order)) (below n))

-- the same of the vertices below n from v on
abbrev pub verdict_from : ℕ → List Reason → (ℕ → Reason → Bool) → ℕ → Verdict
verdict_from n order fails v = first_or_yes (filter_map (λ u. refusal u (find (fails u) order)) (range_with_len v (n - v)))
