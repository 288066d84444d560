-- The count after one more word.
use Rattle.std.proofs.Common.{◌≡◌, ◌∙◌, ◌<◌, ◌≤◌, ◌+◌, ℕ, Bool, true, false, cond, suc, List, [], ◌∷◌, length, map, drop, codes, refl, sym, ap, ap₂, arith, drop-cons, drop_of_length-le}
use Rattle.std.specs.List.{slice_index_or}
use Rattle.std.specs.Str.{bytes_eq}
use Rattle.jul_query.specs.Counting.{times, counts, is_option}

times_none : (name : List ℕ) (s : Bool) → times name s [] ≡ 0
unfolding times
times_none name s = refl

times_skipped : (name word : List ℕ) (words : List (List ℕ)) → times name true (word ∷ words) ≡ times name false words
unfolding times
times_skipped name word words = refl

times_end : (name word : List ℕ) (words : List (List ℕ)) → bytes_eq word (codes "--") ≡ true → times name false (word ∷ words) ≡ 0
unfolding times
times_end name word words e = rw e refl

times_more : (name word : List ℕ) (words : List (List ℕ)) → bytes_eq word (codes "--") ≡ false
    → times name false (word ∷ words) ≡ cond (counts name word) 1 0 + times name (is_option word) words
unfolding times
times_more name word words e = rw e refl

module _ {X : Type 0} (f : X → List ℕ) (name : List ℕ) (words : List X) where
  abbrev pub behind : ℕ → List (List ℕ)
  behind i = map f (drop i words)

  pub at_last : (i whole count : ℕ) (s : Bool) → length words ≤ i → count + times name s (behind i) ≡ whole → count ≡ whole
  at_last i whole count s past h =
      let none : times name s (behind i) ≡ 0 = ap (λ (xs : List X). times name s (map f xs)) (drop_of_length-le words past) ∙ times_none name s in
      omega (arith, none, h)

  module _ (i : ℕ) (x : X) (w : List ℕ) (lt : i < length words) (at : x ≡ slice_index_or words i x) (is : w ≡ f x) where
    behind_next : behind i ≡ w ∷ behind (i + 1)
    behind_next =
        let next : i + 1 ≡ suc i = omega arith in
        ap (map f) (drop-cons words i x lt) ∙ ap₂ (λ (y : List ℕ) (k : ℕ). y ∷ behind k) (sym (is ∙ ap f at)) (sym next)

    pub at_end : (whole count : ℕ) (s : Bool) → s ≡ false → bytes_eq w (codes "--") ≡ true → count + times name s (behind i) ≡ whole → count ≡ whole
    at_end whole count s off e h =
        let none : times name s (behind i) ≡ 0 = ap₂ (times name) off behind_next ∙ times_end name w (behind (i + 1)) e in
        omega (arith, none, h)

    -- what is said after the word, of the count and the state that the code has then
    abbrev Kept : ℕ → ℕ → Bool → Type 0
    Kept whole count s = count + times name s (behind (i + 1)) ≡ whole

    pub at_skipped : (whole count after : ℕ) (s next : Bool) → s ≡ true → next ≡ false → after ≡ count → count + times name s (behind i) ≡ whole → Kept whole after next
    at_skipped whole count after s next on off stays h =
        let same : times name s (behind i) ≡ times name next (behind (i + 1)) =
        ap₂ (times name) on behind_next ∙ times_skipped name w (behind (i + 1)) ∙ ap (λ (b : Bool). times name b (behind (i + 1))) (sym off) in
        omega (arith, same, stays, h)

    pub at_word : (whole count after : ℕ) (s next : Bool) → s ≡ false → bytes_eq w (codes "--") ≡ false → next ≡ is_option w → after ≡ count + cond (counts name w) 1 0
        → count + times name s (behind i) ≡ whole → Kept whole after next
    at_word whole count after s next off e skips more h =
        let same : times name s (behind i) ≡ cond (counts name w) 1 0 + times name next (behind (i + 1)) =
        ap₂ (times name) off behind_next ∙ times_more name w (behind (i + 1)) e ∙ ap (λ (b : Bool). cond (counts name w) 1 0 + times name b (behind (i + 1))) (sym skips) in
        omega (arith, same, more, h)
