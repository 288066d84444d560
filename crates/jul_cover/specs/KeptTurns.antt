-- What a turn over packed sets does, and what goes on from turn to turn.
use Rattle.std.specs.Prelude.{◌≡◌, ◌↔◌, ℕ, ◌-◌, ◌<◌, ◌==◌, ◌&&◌, not, List, [], ◌∷◌, length, Contains, slice_index, if◌then◌else◌}
use Rattle.std.specs.List.{filter, flat_map}
use Rattle.jul_base.specs.InRows.{InEdges}
use Rattle.jul_base.specs.CoverRounds.{bucket as bucket_of, covered_before, chosen_in}
use Rattle.jul_words.specs.Seats.{Seat}
use Rattle.jul_bucket.specs.declared.draws.Draw.{Draw}
use Rattle.jul_bucket.specs.States.{State}
use Rattle.jul_cover.specs.declared.packed_sets.PackedSets.{PackedSets}
use Rattle.jul_cover.specs.PackedSets.{pack_at, is_open, HasPacked}
use Rattle.jul_cover.specs.CoverBids.{bid_base}
use Rattle.jul_cover.specs.CoverDraws.{draw_at}
use Rattle.jul_cover.specs.CoverMoves.{next_place}
use Rattle.jul_cover.specs.Offers.{HasOffered}
use Rattle.jul_cover.specs.Choosing.{active_of}
use Rattle.jul_cover.specs.CoverWork.{At, HasGiven, next_round, packed}
use Rattle.jul_cover.specs.Keeping.{winners_of, holders_of, winning_of}

-- no set has an element that something covers
abbrev pub AreAllOpen : List ℕ → PackedSets → Type 0
AreAllOpen by p = (x : ℕ) → x < p.n → filter (is_open by) (pack_at p x) ≡ pack_at p x

-- each set of the bucket that isn't listed belongs there
abbrev pub AreRight : List ℕ → ℕ → (ℕ → List ℕ) → List ℕ → List ℕ → Type 0
AreRight places bucket pack round listed = (x : ℕ) → x < length places → slice_index places x ≡ bucket → (Contains listed x → ⊥) → next_place pack round x ≡ bucket

-- the move of a set of the bucket to where it belongs, or none
abbrev pub leave_of : (ℕ → List ℕ) → List ℕ → List ℕ → ℕ → ℕ → List (ℕ × ℕ)
leave_of pack round places bucket s =
    if (slice_index places s == bucket) && not (next_place pack round s == bucket) then (s, next_place pack round s) ∷ [] else []

-- the moves of the listed sets that leave the bucket, in order
abbrev pub leaving_of : (ℕ → List ℕ) → List ℕ → List ℕ → ℕ → List ℕ → List (ℕ × ℕ)
leaving_of pack round places bucket listed = flat_map (leave_of pack round places bucket) listed

-- the sets of the last draw
abbrev pub last_drawn : List Draw → List ℕ
last_drawn draws = (draw_at draws (length draws - 1)).ids

-- the sets that a draw has to look at: those that are known where its bucket is that of the turn before, else all that were drawn
abbrev pub sets_for : ℕ → ℕ → List ℕ → List ℕ → List ℕ
sets_for last bucket known drawn = if last == bucket then known else drawn

-- the winners of all that is left of the chosen sets bid for all that is left of their own
pub record HasBid (pack : ℕ → List ℕ) (edges : InEdges) (bucket : ℕ) (chosen : List ℕ) (base : ℕ) (old new : Seat) : Type 0 where
  pub bidders : List ℕ
  pub bidders_are : (x : ℕ) → Contains bidders x ↔ Contains (winners_of pack edges bucket chosen) x
  pub bid : HasOffered bidders pack base old new

-- what a turn did: those candidates that win half were given their elements, the winners of these bid for them, the sets that
-- lost elements were packed again, and the winners of what is left of those that had been large are the next candidates
pub record HasKept (edges : InEdges) (bucket : ℕ) (drawn candidates : List ℕ) (p p' : PackedSets) (round by round' by' : List ℕ) (at at' : At) (s s' : State) (next : List ℕ) : Type 0 where
  pub chosen : List ℕ
  pub chosen_are : chosen ≡ winning_of (pack_at p) edges bucket candidates
  pub bid : HasBid (pack_at p) edges bucket chosen (bid_base at.round) at.bids at'.bids
  pub given : HasGiven drawn chosen (pack_at p) round by round' by' at at' s s'
  pub round_is : at'.round ≡ next_round at.round chosen
  pub touched : List ℕ
  pub touched_are : (x : ℕ) → Contains touched x ↔ Contains (holders_of (pack_at p) edges chosen) x
  pub packed : HasPacked by' touched p p'
  pub next_are : (x : ℕ) → Contains next x ↔ Contains (winners_of (pack_at p') edges bucket (active_of (pack_at p) bucket touched)) x

-- before round t each set is packed down to what isn't covered, and who may be chosen in a round of the bucket is a candidate
pub record IsKeeping (sets : List (List ℕ)) (t bucket : ℕ) (p : PackedSets) (candidates : List ℕ) : Type 0 where
  pub exact : (x : ℕ) → x < length sets → pack_at p x ≡ packed sets (covered_before sets t) x
  pub complete : bucket_of sets (covered_before sets t) ≡ bucket → (x : ℕ) → Contains (chosen_in sets t) x → Contains candidates x
