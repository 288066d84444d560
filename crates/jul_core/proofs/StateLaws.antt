-- A turn over buckets: what jul_bucket's clauses and the counts make of what the loop carries.
use Rattle.std.proofs.Common.{◌≡◌, ℕ, List, [], ◌∷◌, ◌++◌, sym, ◌∙◌, ap, subst}
use Rattle.jul_base.specs.declared.graphs.RawGraph.{RawGraph}
use Rattle.jul_base.specs.Logs.{Entry}
use Rattle.jul_bucket.specs.declared.orders.Order.{Order}
use Rattle.jul_bucket.specs.declared.orders.Order.TheVariants.{Increasing}
use Rattle.jul_bucket.specs.declared.draws.Draw.{Draw}
use Rattle.jul_bucket.specs.Places.{IsFirstHeld, emptied, set_places, ids_at}
use Rattle.jul_bucket.specs.States.{State, IsDrawn}
use Rattle.jul_count.specs.Adds.{HasAddsFrom}
use Rattle.jul_core.specs.PeelMoves.{moves_of}
use Rattle.jul_count.specs.Counts.{AreNotedCounts}
use Rattle.jul_core.specs.PeelWork.{GoesOn, work_of}

-- next_bucket, the counts, update_buckets
pub turn : (g : RawGraph) (bucket : ℕ) (ids : List ℕ) (counts : List (ℕ × ℕ)) (gained log log' : List Entry) (old mid new : State) →
    old.order ≡ Increasing → IsDrawn old bucket ids mid →
    AreNotedCounts g ids counts → HasAddsFrom g ids gained → log' ≡ log ++ gained →
    new ≡ record mid { places = set_places mid.places (moves_of mid.places bucket counts) } →
    GoesOn g bucket ids counts gained (work_of old log) (work_of new log')
turn g bucket ids counts gained log log' old mid new increasing drawn counts_are gained_are log_is new_is =
    let places : mid.places ≡ emptied old.places bucket = ap (λ (s : State). s.places) drawn.after in
    let draws : mid.draws ≡ old.draws ++ record { bucket = bucket; ids = ids_at old.places bucket } ∷ [] = ap (λ (s : State). s.draws) drawn.after in
    record {
      first = subst (λ (o : Order). IsFirstHeld o old.places bucket) increasing drawn.first;
      ids_are = drawn.ids_are;
      draws_are =
          ap (λ (s : State). s.draws) new_is
          ∙ draws
          ∙ sym (ap (λ l. old.draws ++ (let d : Draw = record { bucket = bucket; ids = l } in d) ∷ []) drawn.ids_are);
      counts_are = counts_are;
      gained_are = gained_are;
      log_is = log_is;
      places_are = ap (λ (s : State). s.places) new_is ∙ ap (λ l. set_places l (moves_of l bucket counts)) places;
    }
