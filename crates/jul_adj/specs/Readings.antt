-- A reader that is given the marks of a file's tokens, some at a time.
use Rattle.std.specs.Prelude.{◌≡◌, ℕ, ◌<◌, ◌≤◌, min, List, length, MatchOption, Err}
use Rattle.jul_text.specs.Tokens.{Word}
use Rattle.jul_adj.specs.declared.rules.Rule.{Rule}
use Rattle.jul_adj.specs.declared.rules.Rule.TheVariants.{Count, Offset, Target, Weight}
use Rattle.jul_adj.specs.declared.sizes.Sizes.{Sizes}
use Rattle.jul_adj.specs.declared.lists.Lists.{Lists}
use Rattle.jul_adj.specs.declared.readings.Reading.{Reading}
use Rattle.jul_adj.specs.Faults.{NoneBefore}
use Rattle.jul_adj.specs.Roles.{said_vertices, said_places, is_weighted, first_target, first_weight, all_tokens}
use Rattle.jul_adj.specs.Reading.{values_between, read_tokens}

-- the sizes are those that the tokens before a number say
pub record AreSizes (ws : List Word) (token : ℕ) (s : Sizes) : Type 0 where
  pub weighted : 0 < token → is_weighted ws ≡ s.weighted
  pub vertices : 1 < token → said_vertices ws ≡ s.vertices
  pub places : 2 < token → said_places ws ≡ s.places

-- the values of the tokens of a range that come before a number
abbrev pub values_before : List Word → ℕ → ℕ → ℕ → List ℕ
values_before ws token from to = values_between ws from (min token to)

-- the lists have the values of the tokens before a number
pub record AreLists (ws : List Word) (token : ℕ) (l : Lists) : Type 0 where
  pub offsets : l.offsets.items ≡ values_before ws token 3 (first_target ws)
  pub targets : l.targets.items ≡ values_before ws token (first_target ws) (first_weight ws)
  pub weights : l.weights.items ≡ values_before ws token (first_weight ws) (all_tokens ws)

-- the tokens before a number were read, and none of them has a fault
pub record IsClear (ws : List Word) (token : ℕ) (s : Sizes) (l : Lists) : Type 0 where
  pub within : token ≤ length ws
  pub none : NoneBefore ws token
  pub sizes : AreSizes ws token s
  pub lists : AreLists ws token l

-- the tokens before a number were read: none of them has a fault, or this is the first fault of the file
abbrev pub HasRead : List Word → ℕ → Reading → Type 0
HasRead ws token r = MatchOption r.fault ((r.token ≡ token) × IsClear ws token r.sizes r.lists) (λ f. (len : ℕ) → read_tokens ws len ≡ Err f)

-- the tokens from a number to another stand in the part of the file that a rule is for
abbrev pub IsPart : List Word → Rule → ℕ → ℕ → Type 0
IsPart ws (Count bound above) from to = (3 ≤ from) × (to ≤ first_target ws)
IsPart ws (Offset before places) from to = (3 ≤ from) × (to ≤ first_target ws)
IsPart ws (Target vertices) from to = (first_target ws ≤ from) × (to ≤ first_weight ws)
IsPart ws Weight from to = (first_weight ws ≤ from) × (to ≤ all_tokens ws)
