-- The bids of sets for elements: what a word has to which each active set lowers it, round after round.
use Rattle.std.specs.Prelude.{◌≡◌, ◌≢◌, ℕ, ◌+◌, ◌-◌, ◌*◌, ◌^◌, ◌<◌, IsTrue, List, length, Contains}
use Rattle.jul_base.specs.declared.limits.TheConstants.{NONE}
use Rattle.jul_base.specs.Numbers.{IsGreatest, IsLeastOrNone}
use Rattle.jul_base.specs.CoverRounds.{set_at, is_active, wins, covered_before}

-- the bid of set 0 in round t: later rounds bid less
abbrev pub bid_base : ℕ → ℕ
bid_base t = (2 ^ 32 - 1 - t) * 2 ^ 32

-- the bid of set s in round t
abbrev pub bid : ℕ → ℕ → ℕ
bid t s = bid_base t + s

-- set s bids for e in round t: it is active and holds e, which isn't covered
pub record Bids (sets : List (List ℕ)) (e t s : ℕ) : Type 0 where
  pub in_range : s < length sets
  pub active : IsTrue (is_active sets (covered_before sets t) s)
  pub held : Contains (set_at sets s) e
  pub open' : Contains (covered_before sets t) e → ⊥

-- x is the bid of a set that bids for e in a round before t
abbrev pub IsBidBefore : List (List ℕ) → ℕ → ℕ → ℕ → Type 0
IsBidBefore sets e t x = (u : ℕ) × (s : ℕ) × (u < t) × Bids sets e u s × (x ≡ bid u s)

-- a word for e before round t: NONE or the bid of a set that bid for e, and the least such bid once e is covered
pub record IsBidWord (sets : List (List ℕ)) (e t x : ℕ) : Type 0 where
  pub held : x ≢ NONE → IsBidBefore sets e t x
  pub least : Contains (covered_before sets t) e → IsLeastOrNone (IsBidBefore sets e t) x

-- s is the winner of e in round t
abbrev pub IsWinner : List (List ℕ) → ℕ → ℕ → ℕ → Type 0
IsWinner sets e t s = IsTrue (wins sets (covered_before sets t) s e)

-- the bid of the winner of e in the last round in which it had one, NONE where it never had one
pub record IsLastBid (sets : List (List ℕ)) (e x : ℕ) : Type 0 where
  pub last : x ≢ NONE → (t : ℕ) × (s : ℕ) × IsGreatest (λ u. (r : ℕ) × IsWinner sets e u r) t × IsWinner sets e t s × (x ≡ bid t s)
  pub none : x ≡ NONE → (t s : ℕ) → IsWinner sets e t s → ⊥
