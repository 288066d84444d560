use Rattle.std.proofs.Common.{◌≡◌, refl, ap}
use Rattle.std.proofs.lemmas.Option.{MatchOption-at_some, MatchOption-at_none}
use Rattle.jul_bucket.specs.declared.gathering.Held.{Held}
use Rattle.jul_bucket.specs.Places.{AllNone}
use Rattle.jul_bucket.specs.Ranks.{Ranked, IsHeld}
use Rattle.jul_bucket.specs.QueueViews.{ranked_of}
use Rattle.jul_bucket.proofs.TurnLaws.{IsDrawnInPlace-turned, AreDraws-reached, none_drawn}
use Rattle.jul_bucket.proofs.buckets.Buckets.next_bucket_in_place.Goals as goal

pub invariant_of-self-in-Some : goal.invariant_of-self-in-Some
invariant_of-self-in-Some c =
    let s = c.self.inside in
    let old = ranked_of c.self.inside.queue in
    let new = ranked_of c.hold.new.self in
    let held = MatchOption-at_some (AllNone old.ranks × (new ≡ old)) (λ (h : Held). IsHeld old h new) c.in-Some.held c.in-Some.is c.in_ok-hold.ensures.held in
    record {
      queue = c.in_ok-hold.ensures.queue;
      draws = AreDraws-reached s.order old new s.draws.items c.reserve.new.self.items c.push.new.self.items c.turned-bucket.result c.from_vec-ids.result c.in-Some.held.ids.items c.self.invariant.queue.ranked
          c.reserve.ensures.items c.from_vec-ids.ensures c.in_ok-push-in-Some.ensures.items c.in-Some.held.rank held.first c.turned-bucket.ensures.is (ap (λ (l : Ranked). l.front) held.after) c.self.invariant.draws;
    }

pub returns-in-None-clause-drawn : goal.returns-in-None-clause-drawn
returns-in-None-clause-drawn c =
    let s = c.self.inside in
    let old = ranked_of c.self.inside.queue in
    let new = ranked_of c.hold.new.self in
    none_drawn s.order old new s.draws.items c.reserve.new.self.items _ c.self.invariant.queue.ranked c.self.view_is
    (MatchOption-at_none (AllNone old.ranks × (new ≡ old)) (λ (h : Held). IsHeld old h new) c.in-None.is c.in_ok-hold.ensures.held) c.reserve.ensures.items

pub returns-in_ok-push-in-Some-clause-drawn : goal.returns-in_ok-push-in-Some-clause-drawn
returns-in_ok-push-in-Some-clause-drawn c =
    let s = c.self.inside in
    let old = ranked_of c.self.inside.queue in
    let new = ranked_of c.hold.new.self in
    let held = MatchOption-at_some (AllNone old.ranks × (new ≡ old)) (λ (h : Held). IsHeld old h new) c.in-Some.held c.in-Some.is c.in_ok-hold.ensures.held in
    IsDrawnInPlace-turned s.order old new s.draws.items c.reserve.new.self.items c.push.new.self.items c.turned-bucket.result c.from_vec-ids.result c.in-Some.held.ids.items c.self.invariant.queue.ranked
    c.reserve.ensures.items c.from_vec-ids.ensures c.in_ok-push-in-Some.ensures.items c.in-Some.held _ held refl c.turned-bucket.ensures.is c.self.view_is
