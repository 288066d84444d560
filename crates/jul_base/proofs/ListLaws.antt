-- Lists that are written back over the vectors that hold them.
use Rattle.std.proofs.Common.{◌≡◌, ℕ, ◌++◌, List, length, take, drop, ap, sym, ◌∙◌}
use Rattle.std.proofs.Math.Seq.{take-append_seam}

-- what a write through a slice of a whole vector leaves of it
pub written : {A : Type 0} → (after before : List A) (len : ℕ) → length after ≡ len → take len (after ++ drop (length after) before) ≡ after
written after before len e = ap (λ n. take n (after ++ drop (length after) before)) (sym e) ∙ take-append_seam after (drop (length after) before)
