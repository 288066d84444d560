-- A text that is read number by number.
use Rattle.std.proofs.Common.{◌≡◌, ℕ, ◌+◌, ◌<◌, ◌≤◌, List, [], ◌∷◌, ◌++◌, map, length, get_or, slice_range, true, sym, ◌∙◌, ap, append_assoc, append-nil}
use Rattle.std.specs.List.{All}
use Rattle.std.proofs.lemmas.List.{map_push}
use Rattle.std.proofs.lemmas.List.Elements.{All-push}
use Rattle.jul_text.specs.declared.tokens.Token.{Token}
use Rattle.jul_text.specs.declared.shapes.Shape.TheVariants.{Digits}
use Rattle.jul_text.specs.Tokens.{is_white, Word, word_of, tokens_from, IsNextToken}
use Rattle.jul_text.specs.Shapes.{shape}
use Rattle.jul_text.specs.Numbers.{shapes_from, AreNumbers}
use Rattle.jul_text.proofs.TokenLaws.{tokens_from-next, tokens_from-end, step_white}

-- the tokens before a place are numbers with these values
pub record AreRead (bytes : List ℕ) (bound at : ℕ) (values : List ℕ) : Type 0 where
  pub shapes : map (λ v. Digits v) values ++ shapes_from bytes at ≡ shapes_from bytes 0
  pub bounded : All (λ v. v ≤ bound) values

-- one more number, and the white byte behind it
pub number_read : (bytes : List ℕ) (bound at end v : ℕ) (values : List ℕ) → AreRead bytes bound at values → IsNextToken bytes at (record { start = at; end = end }) → end < length bytes →
    Digits v ≡ shape (slice_range bytes at end) → v ≤ bound → AreRead bytes bound (end + 1) (values ++ v ∷ [])
number_read bytes bound at end v values h token there is small =
    let t : Token = record { start = at; end = end } in
    let next : tokens_from bytes at ≡ word_of bytes t ∷ tokens_from bytes (end + 1) =
    tokens_from-next bytes at t token ∙ ap (λ ws. word_of bytes t ∷ ws) (step_white bytes end there (token.maximal there)) in
    let here : Digits v ∷ shapes_from bytes (end + 1) ≡ shapes_from bytes at =
    ap (λ s. s ∷ shapes_from bytes (end + 1)) is ∙ sym (ap (map (λ (w : Word). shape w.text)) next) in
    record {
      shapes =
          ap (λ ss. ss ++ shapes_from bytes (end + 1)) (map_push (λ (n : ℕ). Digits n) values v)
          ∙ append_assoc (map (λ (n : ℕ). Digits n) values) (Digits v ∷ []) (shapes_from bytes (end + 1))
          ∙ ap (λ ss. map (λ (n : ℕ). Digits n) values ++ ss) here
          ∙ h.shapes;
      bounded = All-push (λ n. n ≤ bound) values v h.bounded small;
    }

-- a white byte
pub white_read : (bytes : List ℕ) (bound at : ℕ) (values : List ℕ) → AreRead bytes bound at values → at < length bytes → is_white (get_or bytes at 0) ≡ true → AreRead bytes bound (at + 1) values
white_read bytes bound at values h there white = record {
  shapes = ap (λ ws. map (λ (n : ℕ). Digits n) values ++ map (λ (w : Word). shape w.text) ws) (sym (step_white bytes at there white)) ∙ h.shapes;
  bounded = h.bounded;
}

-- the whole text
pub all_read : (bytes : List ℕ) (bound at : ℕ) (values : List ℕ) → AreRead bytes bound at values → length bytes ≤ at → AreNumbers bytes bound values
all_read bytes bound at values h end = record {
  shapes = sym (append-nil (map (λ (n : ℕ). Digits n) values)) ∙ ap (λ ws. map (λ (n : ℕ). Digits n) values ++ map (λ (w : Word). shape w.text) ws) (sym (tokens_from-end bytes at end)) ∙ h.shapes;
  bounded = h.bounded;
}
