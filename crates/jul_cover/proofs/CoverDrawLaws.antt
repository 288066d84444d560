-- What a draw of the greatest stored bucket has: the active sets, where some set drawn is still large enough.
use Rattle.std.proofs.Common.{◌≡◌, ℕ, zero, suc, ◌^◌, ◌<◌, ◌≤◌, true, List, [], ◌∷◌, ◌++◌, length, take, get_or, sym, subst, arith}
use Rattle.jul_base.proofs.PeelLaws.{IsWithin}
use Rattle.jul_base.specs.CoverRounds.{size, greatest_size, floor_log2, bucket, is_active}
use Rattle.jul_base.proofs.PowerLaws.{le-floor_log2, floor_log2-le}
use Rattle.jul_base.proofs.CoverRoundLaws.{size-le, size-le-greatest, greatest_is, is_active-size, active-positive}
use Rattle.std.proofs.Math.Seq.{take-append_seam, get_or-append_seam}
use Rattle.std.proofs.lemmas.List.{take-append-le, get_or_append_left, length-append}
use Rattle.jul_bucket.specs.declared.draws.Draw.{Draw}
use Rattle.jul_cover.specs.CoverDraws.{IsDrawOf, HaveDraws}

-- a bucket is stored for each set that has a size: at least the logarithm of the size, and at most b
pub record AreStored (sets : List (List ℕ)) (c : List ℕ) (stored : ℕ → ℕ) (b : ℕ) : Type 0 where
  pub high : (s : ℕ) → s < length sets → 0 < size sets c s → floor_log2 (size sets c s) ≤ stored s
  pub most : (s : ℕ) → s < length sets → 0 < size sets c s → stored s ≤ b

-- they serve for later rounds too
pub AreStored-later : (sets : List (List ℕ)) (c d : List ℕ) (stored : ℕ → ℕ) (b : ℕ) → IsWithin c d → AreStored sets c stored b → AreStored sets d stored b
AreStored-later sets c d stored b within are = record {
  high = λ s lt positive.
      let smaller : size sets d s ≤ size sets c s = size-le sets c d s within in
      omega (arith, are.high s lt (omega arith), floor_log2-le (size sets d s) (size sets c s) smaller);
  most = λ s lt positive. are.most s lt (omega (arith, size-le sets c d s within));
}

-- the b of the round is at most the greatest stored bucket
pub bucket-le-stored : (sets : List (List ℕ)) (c : List ℕ) (stored : ℕ → ℕ) (b : ℕ) → AreStored sets c stored b → 0 < greatest_size sets c → bucket sets c ≤ b
bucket-le-stored sets c stored b are positive =
    let (s, lt, is) = greatest_is sets c positive in
    let log : bucket sets c ≤ floor_log2 (size sets c s) = floor_log2-le (greatest_size sets c) (size sets c s) (omega (arith, is)) in
    omega (arith, log, are.high s lt (omega (arith, is)), are.most s lt (omega (arith, is)))

-- and is that bucket, where some set still has 2 ^ b elements
pub bucket-stored : (sets : List (List ℕ)) (c : List ℕ) (stored : ℕ → ℕ) (b : ℕ) → AreStored sets c stored b →
    (s : ℕ) → s < length sets → 0 < size sets c s → 2 ^ b ≤ size sets c s → bucket sets c ≡ b
bucket-stored sets c stored b are s lt positive large =
    let within : size sets c s ≤ greatest_size sets c = size-le-greatest sets c s lt in
    let low : b ≤ bucket sets c = le-floor_log2 (greatest_size sets c) b (omega arith) in
    omega (arith, bucket-le-stored sets c stored b are (omega arith))

-- then each active set is stored in it
pub active-stored : (sets : List (List ℕ)) (c : List ℕ) (stored : ℕ → ℕ) (b : ℕ) → AreStored sets c stored b → bucket sets c ≡ b →
    (s : ℕ) → s < length sets → is_active sets c s ≡ true → stored s ≡ b
active-stored sets c stored b are same s lt active =
    let positive : 0 < size sets c s = active-positive sets c s active in
    let log : bucket sets c ≤ floor_log2 (size sets c s) = le-floor_log2 (size sets c s) (bucket sets c) (is_active-size sets c s active) in
    omega (arith, log, are.high s lt positive, are.most s lt positive)

-- ---- the draws of the rounds so far

-- later draws take nothing away
pub HaveDraws-append : (sets : List (List ℕ)) (draws more : List Draw) (t : ℕ) → HaveDraws sets draws t → HaveDraws sets (draws ++ more) t
HaveDraws-append sets draws more zero have = tt
HaveDraws-append sets draws more (suc t) (k, lt, before, is) =
    let front : take k (draws ++ more) ≡ take k draws = take-append-le k draws more (omega arith) in
    let same : get_or (draws ++ more) k (record { bucket = 0; ids = [] }) ≡ get_or draws k (record { bucket = 0; ids = [] }) = get_or_append_left draws more (record { bucket = 0; ids = [] }) k lt in (
      k,
      omega (arith, length-append draws more),
      subst (λ ds. HaveDraws sets ds t) (sym front) before,
      subst (λ d. IsDrawOf sets t d) (sym same) is,
    )

-- the draw of round t comes behind those of the rounds before
pub HaveDraws-push : (sets : List (List ℕ)) (draws : List Draw) (draw : Draw) (t : ℕ) → HaveDraws sets draws t → IsDrawOf sets t draw →
    HaveDraws sets (draws ++ draw ∷ []) (suc t)
HaveDraws-push sets draws draw t have is =
    let front : take (length draws) (draws ++ draw ∷ []) ≡ draws = take-append_seam draws (draw ∷ []) in
    let last : get_or (draws ++ draw ∷ []) (length draws) (record { bucket = 0; ids = [] }) ≡ draw = get_or-append_seam draws draw [] (record { bucket = 0; ids = [] }) in (
      length draws,
      omega (arith, length-append draws (draw ∷ [])),
      subst (λ ds. HaveDraws sets ds t) (sym front) have,
      subst (λ d. IsDrawOf sets t d) (sym last) is,
    )
