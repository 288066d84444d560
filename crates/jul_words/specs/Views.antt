-- What a table keeps of its seats. A view is that of a seat, or is spent; no seat reads another's.
use Rattle.std.specs.Prelude.{◌≡◌, ℕ, ◌+◌, List, [], ◌∷◌, Bool, true, false, cond}
use mathlib.Core.Option.{some}
use lib.ListN.{get_elem?}
use Rattle.jul_base.specs.Logs.{Entry, Home}
use Rattle.jul_words.specs.Weights.{counted, weigh}
use Rattle.jul_words.specs.Seats.{Seat, home, named}

-- that of a live seat, in which the table has no name, or what is left of a seat that was joined
pub record View : Type 0 where
  pub live : Bool
  pub seat : Seat

abbrev pub lives : Seat → View
lives s = record { live = true; seat = s }

abbrev pub spent : View
spent = record { live = false; seat = record { home = home [] [] []; root = false; out = 0; log = [] } }

abbrev pub total : (View → ℕ) → List View → ℕ
total f [] = 0
total f (v ∷ vs) = f v + total f vs

abbrev pub present : View → ℕ
present v = counted v.live

-- 1 for the view of a root
abbrev pub heads : View → ℕ
heads v = counted v.seat.root

-- the live ones, as seats of the table with this name
abbrev pub live_seats : List ℕ → List View → List Seat
live_seats table [] = []
live_seats table (v ∷ vs) = cond v.live (named table v.seat ∷ live_seats table vs) (live_seats table vs)

-- what holds of the view of the seat j, where so many are live
pub record Stands (h : Home) (count j : ℕ) (v : View) : Type 0 where
  pub at_home : v.live ≡ true → v.seat.home ≡ h
  pub is_spent : v.live ≡ false → (v.seat.root ≡ false) × (v.seat.log ≡ [])
  pub is_root : v.seat.root ≡ true → (j ≡ 0) × (count ≡ v.seat.out + 1)

-- the live views have one home, the one root counts the others, and all logs together are the history
pub record Kin (h : Home) (views : List View) (history : List Entry) : Type 0 where
  pub stands : (j : ℕ) (v : View) → get_elem? views j ≡ some v → Stands h (total present views) j v
  pub one_root : total heads views ≡ 1
  pub logged : (f : Entry → ℕ) → total (λ v. weigh f v.seat.log) views ≡ weigh f history
