-- Powers of two by the integer logarithm.
use Rattle.std.proofs.Common.{◌≡◌, ℕ, ◌*◌, ◌^◌, ◌<◌, ◌≤◌, leb, sym, ◌∙◌, arith, inl, inr}
use Rattle.std.proofs.Math.Nat.{pow-le-pow_right}
use Rattle.std.proofs.lemmas.Bool.{cases_lt, cond-false, ne_eqb, le-leb, leb-true, false_from_ne_true}
use Rattle.jul_base.proofs.PowerLaws.{floor_log2_is, power-double}
use Rattle.jul_cover.specs.CoverMoves.{place_for}

pub place_is : (size b : ℕ) → (size ≡ 0 → ⊥) → 2 ^ b ≤ size → size < 2 * 2 ^ b → b ≡ place_for size
place_is size b some low high = sym (floor_log2_is size b low high) ∙ sym (cond-false _ _ _ (ne_eqb size 0 some))

pub reaches_is : (x b power : ℕ) → 2 ^ b ≤ x → x < 2 * 2 ^ b → leb power b ≡ leb (2 ^ power) x
reaches_is x b power low high =
    elim (cases_lt b power) [
      | inl lt ↦
          false_from_ne_true _ (λ t. absurd (omega (arith, leb-true power b t)))
          ∙ sym (false_from_ne_true _ (λ t. absurd (omega (arith, leb-true (2 ^ power) x t, power-double b power lt))))
      | inr le ↦
          let positive : 0 < 2 = omega arith in
          let grows : 2 ^ power ≤ 2 ^ b = pow-le-pow_right positive le in
          le-leb power b le ∙ sym (le-leb (2 ^ power) x (omega arith))
    ]
