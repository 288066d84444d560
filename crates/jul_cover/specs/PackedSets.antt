-- Sets that are kept packed: of each set the elements that weren't covered when it was packed last.
use Rattle.std.specs.Prelude.{◌≡◌, ℕ, ◌+◌, ◌<◌, ◌≤◌, ◌==◌, Bool, false, List, length, take, drop, All, Contains, slice_index}
use Rattle.std.specs.List.{filter, slice_index_or}
use Rattle.jul_base.specs.declared.limits.TheConstants.{NONE, MAX_N}
use Rattle.jul_base.specs.CoverRounds.{set_at}
use Rattle.jul_cover.specs.declared.packed_sets.PackedSets.{PackedSets}

-- what is left of set s
abbrev pub pack_at : PackedSets → ℕ → List ℕ
pack_at p s = take (slice_index p.lens.items s) (drop (slice_index p.starts.items s) p.items.items)

-- a set for each of n vertices; they stand one behind another, maybe with room between them
pub record ArePacked (p : PackedSets) : Type 0 where
  pub few : p.n ≤ MAX_N
  pub starts_size : length p.starts.items ≡ p.n
  pub lens_size : length p.lens.items ≡ p.n
  pub inside : (s : ℕ) → s < p.n → slice_index p.starts.items s + slice_index p.lens.items s ≤ length p.items.items
  pub apart : (r s : ℕ) → r < s → s < p.n → slice_index p.starts.items r + slice_index p.lens.items r ≤ slice_index p.starts.items s
  pub within : (s : ℕ) → s < p.n → All (λ e. e < p.n) (pack_at p s)

-- nothing covers e
abbrev pub is_open : List ℕ → ℕ → Bool
is_open by e = slice_index by e == NONE

-- a mark for each vertex, set where nothing covers it
pub record AreOpen (open' : List Bool) (by : List ℕ) : Type 0 where
  pub size : length open' ≡ length by
  pub each : (e : ℕ) → e < length by → slice_index_or open' e false ≡ is_open by e

-- the listed sets were packed down to the elements that nothing covers, and the others are as they were
pub record HasPacked (by listed : List ℕ) (old new : PackedSets) : Type 0 where
  pub n : new.n ≡ old.n
  pub packed : ArePacked new
  pub here : (s : ℕ) → s < old.n → Contains listed s → pack_at new s ≡ filter (is_open by) (pack_at old s)
  pub other : (s : ℕ) → s < old.n → (Contains listed s → ⊥) → pack_at new s ≡ pack_at old s

-- the first m sets stand one behind another, as they are
pub record AreFilled (sets : List (List ℕ)) (m : ℕ) (starts lens items : List ℕ) : Type 0 where
  pub starts_size : length starts ≡ m
  pub lens_size : length lens ≡ m
  pub inside : (s : ℕ) → s < m → slice_index starts s + slice_index lens s ≤ length items
  pub apart : (r s : ℕ) → r < s → s < m → slice_index starts r + slice_index lens r ≤ slice_index starts s
  pub each : (s : ℕ) → s < m → take (slice_index lens s) (drop (slice_index starts s) items) ≡ set_at sets s
