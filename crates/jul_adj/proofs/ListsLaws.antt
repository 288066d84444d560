-- Lists that grow by the values of further tokens.
use Rattle.std.proofs.Common.{◌≡◌, ℕ, ◌+◌, ◌-◌, ◌<◌, ◌≤◌, min, List, [], ◌∷◌, ◌++◌, map, length, get_or, take, drop, sym, ◌∙◌, ap, arith, Vec, Global}
use Rattle.std.specs.Prelude.{Result, Ok, Err, IfOk}
use Rattle.std.specs.Str.Parse.{digits_value}
use Rattle.std.proofs.lemmas.List.{map-append, map_push, drop-drop, length-drop, take_more, get_or-drop}
use Rattle.std.proofs.Math.Seq.{take-add}
use Rattle.jul_text.specs.Tokens.{Word}
use Rattle.jul_text.specs.Scanning.{no_word, word_at}
use Rattle.jul_adj.specs.declared.lists.Lists.{Lists}
use Rattle.jul_adj.specs.Roles.{value_at, first_target, first_weight, all_tokens}
use Rattle.jul_adj.specs.Reading.{values_between}
use Rattle.jul_adj.specs.Storing.{AreStored}
use Rattle.jul_adj.specs.Readings.{values_before, AreLists}

-- two clauses on what a call gave
pub if_ok : {Y E : Type 0} (r : Result Y E) (P Q R : Y → Type 0) → ((y : Y) → P y → Q y → R y) → IfOk r P → IfOk r Q → IfOk r R
if_ok (Ok y) P Q R f p q = f y p q
if_ok (Err e) P Q R f p q = tt

abbrev values_for : List Word → ℕ → ℕ → List ℕ
values_for ws from n = map (λ (w : Word). digits_value 10 w.text) (take n (drop from ws))

pub values_split : (ws : List Word) (a b c : ℕ) → a ≤ b → b ≤ c → values_between ws a c ≡ values_between ws a b ++ values_between ws b c
values_split ws a b c low high =
    let size : c - a ≡ (b - a) + (c - b) = omega arith in
    let place : a + (b - a) ≡ b = omega arith in
    ap (values_for ws a) size
    ∙ ap (map (λ (w : Word). digits_value 10 w.text)) (take-add (b - a) (c - b) (drop a ws))
    ∙ map-append (λ (w : Word). digits_value 10 w.text) (take (b - a) (drop a ws)) (take (c - b) (drop (b - a) (drop a ws)))
    ∙ ap (λ xs. values_for ws a (b - a) ++ map (λ (w : Word). digits_value 10 w.text) (take (c - b) xs)) (drop-drop (b - a) a ws ∙ ap (λ k. drop k ws) {x = a + (b - a)} {y = b} place)

-- one more value of a range of tokens
pub values_push : (ws : List Word) (from j : ℕ) → from ≤ j → j < length ws → values_between ws from (j + 1) ≡ values_between ws from j ++ value_at ws j ∷ []
values_push ws from j low lt =
    let size : j + 1 - from ≡ (j - from) + 1 = omega arith in
    let more : take ((j - from) + 1) (drop from ws) ≡ take (j - from) (drop from ws) ++ get_or (drop from ws) (j - from) no_word ∷ [] =
    take_more (drop from ws) (j - from) no_word (omega (arith, length-drop from ws)) in
    let place : from + (j - from) ≡ j = omega arith in
    let last : get_or (drop from ws) (j - from) no_word ≡ word_at ws j = get_or-drop from ws (j - from) no_word ∙ ap (λ k. get_or ws k no_word) place in
    ap (λ k. map (λ (w : Word). digits_value 10 w.text) (take k (drop from ws))) size
    ∙ ap (map (λ (w : Word). digits_value 10 w.text)) (more ∙ ap (λ w. take (j - from) (drop from ws) ++ w ∷ []) last)
    ∙ map_push (λ (w : Word). digits_value 10 w.text) (take (j - from) (drop from ws)) (word_at ws j)

before_none : (ws : List Word) (token from to : ℕ) → token ≤ from → values_before ws token from to ≡ []
before_none ws token from to low = ap (values_for ws from) {x = min token to - from} {y = 0} (omega arith)

before_low : (ws : List Word) (token token' from to : ℕ) → token ≤ from → token' ≤ from → values_before ws token from to ≡ values_before ws token' from to
before_low ws token token' from to low low' = before_none ws token from to low ∙ sym (before_none ws token' from to low')

before_all : (ws : List Word) (token token' from to : ℕ) → to ≤ token → to ≤ token' → values_before ws token from to ≡ values_before ws token' from to
before_all ws token token' from to high high' = ap (values_between ws from) {x = min token to} {y = min token' to} (omega arith)

before_more : (ws : List Word) (token n from to : ℕ) → from ≤ token → token + n ≤ to → values_before ws (token + n) from to ≡ values_before ws token from to ++ values_between ws token (token + n)
before_more ws token n from to low high =
    ap (values_between ws from) {x = min (token + n) to} {y = token + n} (omega arith)
    ∙ values_split ws from token (token + n) low (omega arith)
    ∙ ap (λ k. values_between ws from k ++ values_between ws token (token + n)) {x = token} {y = min token to} (omega arith)

grown : (ws : List Word) (token n from to : ℕ) (old new : List ℕ) → from ≤ token → token + n ≤ to → old ≡ values_before ws token from to → AreStored ws token n old new → new ≡ values_before ws (token + n) from to
grown ws token n from to old new low high is s = s.values ∙ ap (λ xs. xs ++ values_between ws token (token + n)) is ∙ sym (before_more ws token n from to low high)

module _ (ws : List Word) (token n : ℕ) (l : Lists) (v : Vec ℕ Global) (are : AreLists ws token l) where
  pub offsets_grown : 3 ≤ token → token + n ≤ first_target ws → AreStored ws token n l.offsets.items v.items → AreLists ws (token + n) (record { offsets = v; targets = l.targets; weights = l.weights })
  offsets_grown low high s = record {
    offsets = grown ws token n 3 (first_target ws) l.offsets.items v.items low high are.offsets s;
    targets = are.targets ∙ before_low ws token (token + n) (first_target ws) (first_weight ws) (omega arith) (omega arith);
    weights = are.weights ∙ before_low ws token (token + n) (first_weight ws) (all_tokens ws) (omega arith) (omega arith);
  }

  pub targets_grown : first_target ws ≤ token → token + n ≤ first_weight ws → AreStored ws token n l.targets.items v.items → AreLists ws (token + n) (record { offsets = l.offsets; targets = v; weights = l.weights })
  targets_grown low high s = record {
    offsets = are.offsets ∙ before_all ws token (token + n) 3 (first_target ws) (omega arith) (omega arith);
    targets = grown ws token n (first_target ws) (first_weight ws) l.targets.items v.items low high are.targets s;
    weights = are.weights ∙ before_low ws token (token + n) (first_weight ws) (all_tokens ws) (omega arith) (omega arith);
  }

  pub weights_grown : first_weight ws ≤ token → token + n ≤ all_tokens ws → AreStored ws token n l.weights.items v.items → AreLists ws (token + n) (record { offsets = l.offsets; targets = l.targets; weights = v })
  weights_grown low high s = record {
    offsets = are.offsets ∙ before_all ws token (token + n) 3 (first_target ws) (omega arith) (omega arith);
    targets = are.targets ∙ before_all ws token (token + n) (first_target ws) (first_weight ws) (omega arith) (omega arith);
    weights = grown ws token n (first_weight ws) (all_tokens ws) l.weights.items v.items low high are.weights s;
  }

-- the same lists before other tokens, of which none has a value
pub lists_same : (ws : List Word) (token token' : ℕ) (l : Lists) → token ≤ 3 → token' ≤ 3 → AreLists ws token l → AreLists ws token' l
lists_same ws token token' l low low' are = record {
  offsets = are.offsets ∙ before_low ws token token' 3 (first_target ws) low low';
  targets = are.targets ∙ before_low ws token token' (first_target ws) (first_weight ws) (omega arith) (omega arith);
  weights = are.weights ∙ before_low ws token token' (first_weight ws) (all_tokens ws) (omega arith) (omega arith);
}
