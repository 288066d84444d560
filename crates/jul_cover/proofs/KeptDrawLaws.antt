-- A draw in place in the loop of turns over packed sets: what its turn asks for holds, and what the loop carries holds after it.
use Rattle.std.proofs.Common.{◌≡◌, ℕ, ◌<◌, ◌≤◌, ◌∙◌, List, length, ap, sym, subst}
use Rattle.std.specs.List.{All}
use Rattle.std.specs.List.Sorted.{IsStrictlyIncreasing}
use Rattle.jul_base.specs.declared.limits.TheConstants.{MAX_N}
use Rattle.jul_base.specs.InRows.{InEdges}
use Rattle.jul_base.specs.Logs.{Home}
use Rattle.jul_base.specs.Sets.{AreSets}
use Rattle.jul_bucket.specs.Places.{ids_at}
use Rattle.jul_bucket.specs.States.{State, IsDrawn, IsDrawnInPlace, with_emptied}
use Rattle.jul_bucket.proofs.IdLaws.{drawn_in_place}
use Rattle.jul_cover.specs.declared.packed_sets.PackedSets.{PackedSets}
use Rattle.jul_cover.specs.PackedSets.{pack_at}
use Rattle.jul_cover.specs.CoverWork.{At, CanTurn, IsCovering, remaining}
use Rattle.jul_cover.specs.Keeping.{AreHolders}
use Rattle.jul_cover.specs.KeptTurns.{AreRight, HasKept, IsKeeping, last_drawn, sets_for}
use Rattle.jul_cover.proofs.KeptTurnLaws.{kept_covering, kept_fewer, still_keeping, candidates_meet}
use Rattle.jul_cover.proofs.LeavingLaws.{held_last, right_for}
use Rattle.jul_cover.proofs.TurnLaws.{can_turn}

module _ (sets : List (List ℕ)) (are : AreSets sets) (few : length sets ≤ MAX_N) (bid_table owner_table : List ℕ) (bid_home owner_home : Home) (p : PackedSets) (round by : List ℕ) (at : At) (s : State)
    (h : IsCovering sets bid_table owner_table bid_home owner_home p round by at s) (bucket : ℕ) (mid : State) (held : IsDrawnInPlace s bucket mid) where
  abbrev drawn : List ℕ
  drawn = ids_at mid.places bucket

  emptied : IsDrawn s bucket drawn (with_emptied mid bucket)
  emptied = drawn_in_place s mid bucket held

  pub held_can : CanTurn bid_table owner_table bucket drawn p round by at (with_emptied mid bucket)
  held_can = can_turn sets are few bid_table owner_table bid_home owner_home p round by at s h bucket drawn (with_emptied mid bucket) emptied

  module _ (last : ℕ) (known now : List ℕ) (now_is : now ≡ sets_for last bucket known (last_drawn mid.draws)) where
    now_drawn : now ≡ sets_for last bucket known drawn
    now_drawn = now_is ∙ ap (sets_for last bucket known) (held_last s mid bucket held)

    pub held_rises : IsStrictlyIncreasing known → IsStrictlyIncreasing now
    held_rises rises = candidates_meet IsStrictlyIncreasing last bucket known drawn now now_drawn rises held_can.increasing

    pub held_in : All (λ x. x < p.n) known → All (λ x. x < p.n) now
    held_in known_in = candidates_meet (All (λ x. x < p.n)) last bucket known drawn now now_drawn known_in held_can.in_range

    pub held_right : AreRight s.places last (pack_at p) round known → AreRight mid.places bucket (pack_at p) round now
    held_right right =
        right_for (pack_at p) round mid.places last bucket known (last_drawn mid.draws) now now_is (held_last s mid bucket held)
        (subst (λ l. AreRight l last (pack_at p) round known) (sym (ap (λ (t : State). t.places) held.after)) right)

    module _ (known_in : All (λ x. x < p.n) known) (edges : InEdges) (holders : AreHolders sets edges) (q : IsKeeping sets at.round last p known)
        (p' : PackedSets) (round' by' : List ℕ) (at' : At) (s' : State) (next : List ℕ) (r : HasKept edges bucket drawn now p p' round by round' by' at at' (with_emptied mid bucket) s' next) where
      pub held_covering : IsCovering sets bid_table owner_table bid_home owner_home p' round' by' at' s'
      held_covering =
          kept_covering sets are few bid_table owner_table bid_home owner_home p round by at s h edges holders last known q bucket drawn (with_emptied mid bucket) emptied
          now now_drawn (held_in known_in) p' round' by' at' s' next r

      pub held_fewer : remaining s'.places < remaining s.places
      held_fewer =
          kept_fewer sets are few bid_table owner_table bid_home owner_home p round by at s h edges holders last known q bucket drawn (with_emptied mid bucket) emptied
          now now_drawn (held_in known_in) p' round' by' at' s' next r

      pub held_keeping : IsKeeping sets at'.round bucket p' next
      held_keeping =
          still_keeping sets are few bid_table owner_table bid_home owner_home p round by at s h edges holders last known q bucket drawn (with_emptied mid bucket) emptied
          now now_drawn (held_in known_in) p' round' by' at' s' next r
