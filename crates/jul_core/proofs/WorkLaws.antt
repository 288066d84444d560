-- The loop of a peeling: all that it carries, from one turn to the next.
use Rattle.std.proofs.Common.{◌≡◌, ℕ, ◌+◌, [], ◌∷◌, ◌++◌, length, length-append, sym, ap, subst, arith}
use Rattle.jul_core.specs.Peels.{IsPeeled}
use Rattle.jul_bucket.specs.declared.draws.Draw.{Draw}
use Rattle.jul_core.specs.PeelPlaces.{HasAddsOf}
use Rattle.jul_core.proofs.PeelStatements.{WorkStarts, WorkGoesOn, WorkEnds}
use Rattle.jul_core.proofs.PeelStatementLaws.{degrees_start, each_is_drawn_once, columns_are_right}
use Rattle.jul_core.proofs.AddLaws.{adds_start, adds_keep, adds_are_all}
use Rattle.jul_core.proofs.WholeLaws.{whole_rounds_keep}

pub work_starts : WorkStarts
work_starts g w lawful start =
    let none : [] ≡ w.draws = sym start.no_draws in
    let empty : [] ≡ w.log = sym start.no_entries in
    let adds : HasAddsOf g [] w.log = subst (λ log. HasAddsOf g [] log) empty (adds_start g) in
    record {
      peeled = subst (λ l. IsPeeled g (length l) w.places l) none (degrees_start g w.places lawful start.degrees);
      adds = subst (λ l. HasAddsOf g l w.log) none adds;
    }

pub work_goes_on : WorkGoesOn
work_goes_on g bucket ids counts gained old new lawful symmetric under_way goes =
    let t : ℕ = length old.draws in
    let peeled : IsPeeled g t old.places old.draws = under_way.peeled in
    let draw : Draw = record { bucket = bucket; ids = ids } in
    let peeled' : IsPeeled g (t + 1) new.places new.draws =
    whole_rounds_keep g t bucket old.places new.places ids old.draws new.draws counts lawful symmetric peeled goes.first goes.ids_are goes.counts_are
    goes.places_are goes.draws_are in
    let size : t + 1 ≡ length new.draws = omega (arith, ap length goes.draws_are, length-append old.draws (draw ∷ [])) in
    let adds : HasAddsOf g (old.draws ++ draw ∷ []) (old.log ++ gained) = adds_keep g old.draws draw old.log gained under_way.adds goes.gained_are in
    let adds' : HasAddsOf g new.draws (old.log ++ gained) = subst (λ l. HasAddsOf g l (old.log ++ gained)) (sym goes.draws_are) adds in
    record {
      peeled = subst (λ k. IsPeeled g k new.places new.draws) size peeled';
      adds = subst (λ log. HasAddsOf g new.draws log) (sym goes.log_is) adds';
    }

pub work_ends : WorkEnds
work_ends g w lawful under_way none =
    let t : ℕ = length w.draws in
    record {
      columns = λ cores cored. columns_are_right g t w.places w.draws cores lawful under_way.peeled none cored;
      levels = under_way.peeled.draws_are;
      once = each_is_drawn_once g t w.places w.draws lawful under_way.peeled none;
      adds = adds_are_all g t w.places w.draws w.log lawful under_way.peeled none under_way.adds;
    }
