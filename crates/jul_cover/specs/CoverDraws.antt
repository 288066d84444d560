-- The draws of the rounds: a bucket and its sets for each round, in order, maybe with others between them.
use Rattle.std.specs.Prelude.{◌≡◌, ℕ, zero, suc, ◌<◌, IsTrue, List, [], length, take, Contains}
use Rattle.std.specs.List.{slice_index_or}
use Rattle.jul_base.specs.CoverRounds.{bucket as bucket_of, is_active, covered_before}
use Rattle.jul_bucket.specs.declared.draws.Draw.{Draw}

-- draw number k
abbrev pub draw_at : List Draw → ℕ → Draw
draw_at draws k = slice_index_or draws k (record { bucket = 0; ids = [] })

-- a draw is of the bucket b of round t, and has its active sets
pub record IsDrawOf (sets : List (List ℕ)) (t : ℕ) (draw : Draw) : Type 0 where
  pub bucket_is : draw.bucket ≡ bucket_of sets (covered_before sets t)
  pub active : (s : ℕ) → s < length sets → IsTrue (is_active sets (covered_before sets t) s) → Contains draw.ids s

-- for each round before t, in order, there is a draw
abbrev pub HaveDraws : List (List ℕ) → List Draw → ℕ → Type 0
HaveDraws sets draws zero = Unit {0}
HaveDraws sets draws (suc t) = (k : ℕ) × (k < length draws) × HaveDraws sets (take k draws) t × IsDrawOf sets t (draw_at draws k)
