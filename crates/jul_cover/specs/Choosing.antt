-- Which of the drawn sets are active, and which of these are chosen.
use Rattle.std.specs.Prelude.{ℕ, ◌+◌, ◌*◌, ◌^◌, ◌==◌, Bool, List, length, count_by, nat_le}
use Rattle.std.specs.List.{filter}

-- those of the drawn sets that still have 2 ^ b elements
abbrev pub active_of : (ℕ → List ℕ) → ℕ → List ℕ → List ℕ
active_of pack bucket drawn = filter (λ s. nat_le (2 ^ bucket) (length (pack s))) drawn

-- how many of the elements have this bid in their words
abbrev pub held_by : (ℕ → ℕ) → ℕ → List ℕ → ℕ
held_by word bid elements = count_by (λ e. word e == bid) elements

-- whether the bid of a set is in the words of half of 2 ^ b elements
abbrev pub holds_half : (ℕ → List ℕ) → (ℕ → ℕ) → ℕ → ℕ → ℕ → Bool
holds_half pack word base bucket s = nat_le (2 ^ bucket) (2 * held_by word (base + s) (pack s))

-- the active sets whose bids are in the words of half of 2 ^ b elements
abbrev pub chosen_of : (ℕ → List ℕ) → (ℕ → ℕ) → ℕ → ℕ → List ℕ → List ℕ
chosen_of pack word base bucket active = filter (holds_half pack word base bucket) active
