-- A turn in which each active set bids: what the loop carries holds after it, and its measure falls.
use Rattle.std.proofs.Common.{ℕ, ◌<◌, ◌≤◌, List, length}
use Rattle.jul_base.specs.declared.limits.TheConstants.{MAX_N}
use Rattle.jul_base.specs.Logs.{Home}
use Rattle.jul_base.specs.Sets.{AreSets}
use Rattle.jul_bucket.specs.States.{State, IsDrawn}
use Rattle.jul_cover.specs.declared.packed_sets.PackedSets.{PackedSets}
use Rattle.jul_cover.specs.PackedSets.{pack_at}
use Rattle.jul_cover.specs.Choosing.{active_of}
use Rattle.jul_cover.specs.CoverWork.{At, IsCovering, HasTurned, HasGiven, remaining}
use Rattle.jul_cover.proofs.TurnLaws.{IsSettled, settled_by_bids, still_covering, fewer}

module _ (sets : List (List ℕ)) (are : AreSets sets) (few : length sets ≤ MAX_N) (bid_table owner_table : List ℕ) (bid_home owner_home : Home) (p : PackedSets) (round by : List ℕ) (at : At) (s : State)
    (h : IsCovering sets bid_table owner_table bid_home owner_home p round by at s) (bucket : ℕ) (drawn : List ℕ) (mid : State) (d : IsDrawn s bucket drawn mid)
    (p' : PackedSets) (round' by' : List ℕ) (at' : At) (s' : State) (r : HasTurned bucket drawn p p' round by round' by' at at' mid s') where
  given : HasGiven drawn r.chosen (pack_at p') round by round' by' at at' mid s'
  given = record { owned = r.owned; rounds = r.rounds; by_are = r.by_are; moved = r.moved }

  settled : IsSettled sets (active_of (pack_at p') bucket drawn) r.chosen at at'
  settled = settled_by_bids sets are few bid_table owner_table bid_home owner_home p round by at s h bucket drawn mid d p' r.packed at' r.chosen r.bid r.chosen_are r.round_is

  pub turned_covering : IsCovering sets bid_table owner_table bid_home owner_home p' round' by' at' s'
  turned_covering = still_covering sets are few bid_table owner_table bid_home owner_home p round by at s h bucket drawn mid d p' r.packed round' by' at' s' r.chosen given settled

  pub turned_fewer : remaining s'.places < remaining s.places
  turned_fewer = fewer sets are few bid_table owner_table bid_home owner_home p round by at s h bucket drawn mid d p' r.packed round' by' at' s' r.chosen given settled
