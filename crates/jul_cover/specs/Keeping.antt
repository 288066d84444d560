-- Turns that keep sets packed: who holds an element, which of its holders wins it, and what such a turn does.
use Rattle.std.specs.Prelude.{◌≡◌, ℕ, ◌<◌, ◌≤◌, ◌*◌, ◌^◌, Bool, ◌&&◌, List, [], ◌∷◌, length, All, Option, Some, None, Contains, slice_index, count_by, nat_le, if◌then◌else◌}
use Rattle.std.specs.List.{filter, flat_map, find, slice_index_or}
use Rattle.jul_base.specs.declared.graphs.RawGraph.{RawGraph}
use Rattle.jul_base.specs.declared.limits.TheConstants.{MAX_M}
use Rattle.jul_base.specs.Numbers.{below}
use Rattle.jul_base.specs.InRows.{InEdges}
use Rattle.jul_base.specs.CoverRounds.{set_at, is_same}

-- the sets that hold e
abbrev pub holders_at : InEdges → ℕ → List ℕ
holders_at edges e = slice_index_or edges.sources e []

-- a list of holders for each of n elements, all of them among n sets
pub record AreWithin (n : ℕ) (edges : InEdges) : Type 0 where
  pub size : length edges.places ≡ n
  pub each : (e : ℕ) → e < n → All (λ s. s < n) (holders_at edges e)

-- the holders of each element are the sets that it stands in, none behind a greater one
pub record AreHolders (sets : List (List ℕ)) (edges : InEdges) : Type 0 where
  pub within : AreWithin (length sets) edges
  pub only : (e s : ℕ) → e < length sets → Contains (holders_at edges e) s → Contains (set_at sets s) e
  pub all : (e s : ℕ) → e < length sets → s < length sets → Contains (set_at sets s) e → Contains (holders_at edges e) s
  pub rising : (e j k : ℕ) → e < length sets → j ≤ k → k < length (holders_at edges e) → slice_index (holders_at edges e) j ≤ slice_index (holders_at edges e) k

-- whether 2 ^ b elements are left of a set
abbrev pub is_large : (ℕ → List ℕ) → ℕ → ℕ → Bool
is_large pack bucket s = nat_le (2 ^ bucket) (length (pack s))

-- the first holder of e that is large
abbrev pub winner_in : (ℕ → List ℕ) → InEdges → ℕ → ℕ → Option ℕ
winner_in pack edges bucket e = find (is_large pack bucket) (holders_at edges e)

-- a list of one, or of none
abbrev pub listed : Option ℕ → List ℕ
listed (Some s) = s ∷ []
listed None = []

-- the winners of all that is left of these sets
abbrev pub winners_of : (ℕ → List ℕ) → InEdges → ℕ → List ℕ → List ℕ
winners_of pack edges bucket sets = flat_map (λ s. flat_map (λ e. listed (winner_in pack edges bucket e)) (pack s)) sets

-- the holders of all that is left of these sets
abbrev pub holders_of : (ℕ → List ℕ) → InEdges → List ℕ → List ℕ
holders_of pack edges sets = flat_map (λ s. flat_map (holders_at edges) (pack s)) sets

-- how many of these elements a set wins
abbrev pub won_by : (ℕ → List ℕ) → InEdges → ℕ → ℕ → List ℕ → ℕ
won_by pack edges bucket s elements = count_by (λ e. is_same (winner_in pack edges bucket e) s) elements

-- whether a set is large and wins half of 2 ^ b elements
abbrev pub is_winning : (ℕ → List ℕ) → InEdges → ℕ → ℕ → Bool
is_winning pack edges bucket s = is_large pack bucket s && nat_le (2 ^ bucket) (2 * won_by pack edges bucket s (pack s))

-- those of the candidates that win half
abbrev pub winning_of : (ℕ → List ℕ) → InEdges → ℕ → List ℕ → List ℕ
winning_of pack edges bucket candidates = filter (is_winning pack edges bucket) candidates

-- a place, which is at most the greatest count of places
abbrev pub capped : ℕ → ℕ
capped place = if nat_le place MAX_M then place else MAX_M

-- the first m sets stand one behind another, and each has its start
pub record AreLaid (sets : List (List ℕ)) (m : ℕ) (offsets targets : List ℕ) : Type 0 where
  pub size : length offsets ≡ m
  pub targets_are : targets ≡ flat_map (set_at sets) (below m)
  pub starts : (s : ℕ) → s < m → slice_index offsets s ≡ capped (length (flat_map (set_at sets) (below s)))

-- a graph whose rows are the sets, unless it has too many places
abbrev pub AreRowsOf : List (List ℕ) → RawGraph → Type 0
AreRowsOf sets g = AreLaid sets (length sets) g.offsets g.targets
