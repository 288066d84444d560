-- What each token of a graph file stands for, by its number.
use Rattle.std.specs.Prelude.{ℕ, ◌+◌, Bool, List, codes, nat_lt, ◌==◌, if◌then◌else◌}
use Rattle.std.specs.Str.{bytes_eq}
use Rattle.std.specs.Str.Parse.{digits_value}
use Rattle.jul_text.specs.Tokens.{Word}
use Rattle.jul_text.specs.Scanning.{text_at}

-- the decimal value of its digits
abbrev pub value_at : List Word → ℕ → ℕ
value_at ws j = digits_value 10 (text_at ws j)

-- the two words of which one is the first token
abbrev pub plain_word : List ℕ
plain_word = codes "AdjacencyGraph"

abbrev pub weighted_word : List ℕ
weighted_word = codes "WeightedAdjacencyGraph"

-- what the header and the two numbers behind it say
abbrev pub is_weighted : List Word → Bool
is_weighted ws = bytes_eq (text_at ws 0) weighted_word

abbrev pub said_vertices : List Word → ℕ
said_vertices ws = value_at ws 1

abbrev pub said_places : List Word → ℕ
said_places ws = value_at ws 2

-- the numbers of the first target and of the first weight, and how many tokens the graph has
abbrev pub first_target : List Word → ℕ
first_target ws = 3 + said_vertices ws

abbrev pub first_weight : List Word → ℕ
first_weight ws = first_target ws + said_places ws

abbrev pub all_tokens : List Word → ℕ
all_tokens ws = first_weight ws + (if is_weighted ws then said_places ws else 0)

pub data Role : Type 0 where
  header vertex_count place_count offset target weight extra : Role

-- what a token stands for, by its number
abbrev pub role_at : List Word → ℕ → Role
role_at ws j =
    if j == 0 then header
    else if j == 1 then vertex_count
    else if j == 2 then place_count
    else if nat_lt j (first_target ws) then offset
    else if nat_lt j (first_weight ws) then target
    else if nat_lt j (all_tokens ws) then weight
    else extra
