-- What is said of the draws of buckets.
use Rattle.std.specs.Prelude.{◌≡◌, ℕ, ◌≤◌, List, ◌∷◌, ◌++◌, All, Contains}
use Rattle.std.specs.List.{AllPairs}
use Rattle.jul_bucket.specs.declared.draws.Draw.{Draw}

-- no draw is of a lesser bucket than one before it
abbrev pub NeverFall : List Draw → Type 0
NeverFall draws = AllPairs (λ (earlier later : Draw). earlier.bucket ≤ later.bucket) draws

-- the last draw that holds v is of bucket b
pub record IsLastDraw (draws : List Draw) (v b : ℕ) : Type 0 where
  pub before : List Draw
  pub draw : Draw
  pub after : List Draw
  pub draws_are : draws ≡ before ++ draw ∷ after
  pub holds : Contains draw.ids v
  pub bucket_is : draw.bucket ≡ b
  pub last : All (λ (d : Draw). Contains d.ids v → ⊥) after
