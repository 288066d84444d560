-- Bids that were read decide as the words do.
use Rattle.std.proofs.Common.{◌≡◌, ℕ, suc, ◌+◌, ◌*◌, ◌<◌, ◌^◌, List, [], ◌∷◌, get_or, leb, eqb, cond, refl, ap, ◌∙◌, arith}
use Rattle.std.specs.List.{All, filter}
use Rattle.std.proofs.lemmas.List.Elements.{All-contains}
use Rattle.jul_base.proofs.CountLaws.{sum_by-same_in}
use Rattle.jul_base.proofs.SetLaws.{Contains-from_has}
use Rattle.jul_cover.specs.Choosing.{held_by, holds_half, chosen_of}

module _ (n : ℕ) (bids : List ℕ) (word : ℕ → ℕ) (same : (e : ℕ) → e < n → get_or bids e 0 ≡ word e) where
  abbrev pub told : ℕ → ℕ
  told e = get_or bids e 0

  held_same : (bid : ℕ) (es : List ℕ) → All (λ e. e < n) es → held_by told bid es ≡ held_by word bid es
  held_same bid es all =
      sum_by-same_in (λ e. cond (eqb (told e) bid) 1 0) (λ e. cond (eqb (word e) bid) 1 0) es (λ e held.
      ap (λ w. cond (eqb w bid) 1 0) (same e (All-contains (λ x. x < n) es e all (Contains-from_has es e held))))

  -- the sets that hold half by the bids that were read are those that do by the words
  pub chosen_same : (pack : ℕ → List ℕ) (base bucket : ℕ) (xs : List ℕ) → ((s : ℕ) → s < n → All (λ e. e < n) (pack s)) → All (λ s. s < n) xs →
      filter (holds_half pack told base bucket) xs ≡ chosen_of pack word base bucket xs
  chosen_same pack base bucket [] within all = refl
  chosen_same pack base bucket (x ∷ xs) within all =
      let test = ap (λ k. leb (2 ^ bucket) (2 * k)) (held_same (base + x) (pack x) (within x (all 0 x (omega arith)))) in
      let rest = chosen_same pack base bucket xs within (λ k d lt. all (suc k) d (omega (arith, lt))) in
      ap (λ b. cond b (x ∷ filter (holds_half pack told base bucket) xs) (filter (holds_half pack told base bucket) xs)) test
      ∙ ap (λ l. cond (holds_half pack word base bucket x) (x ∷ l) l) rest
