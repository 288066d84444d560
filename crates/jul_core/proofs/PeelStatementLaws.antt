-- The statements, from the laws.
use Rattle.std.proofs.Common.{◌≡◌, ℕ, suc, ◌+◌, ◌<◌, true, false, cond, List, [], ◌∷◌, ◌++◌, length, sym, ◌∙◌, ap, subst, refl, arith}
use Rattle.std.specs.List.{sum_by, count_by, Contains}
use Rattle.std.proofs.lemmas.Bool.{cond-true, both_ways, false_from_ne_true}
use Rattle.std.proofs.lemmas.List.{get_or_default}
use Rattle.std.proofs.lemmas.List.Sums.{sum_by-cons}
use Rattle.jul_base.specs.declared.graphs.RawGraph.{RawGraph}
use Rattle.jul_base.specs.Numbers.{below}
use Rattle.jul_base.specs.Graph.{vertices, row, row_start, IsLawful}
use Rattle.jul_base.specs.Sets.{has}
use Rattle.jul_base.specs.Coreness.{inner_degree, IsCoreness}
use Rattle.jul_base.specs.Levels.{Peeling, next_bound, taken, peeling, IsLevel}
use Rattle.jul_base.proofs.GraphLaws.{place_in_range, target_in_range}
use Rattle.jul_base.proofs.RowLaws.{row-at, IsPlaceOf-at}
use Rattle.jul_base.proofs.SetLaws.{has-from_Contains, Contains-from_has}
use Rattle.jul_base.proofs.PeelLaws.{has_below, level_bound}
use Rattle.jul_core.specs.Peels.{draw_in, draws_before, draw_at, ArePlaces, IsLowered, IsDrawnAt, place_in}
use Rattle.jul_bucket.specs.declared.draws.Draw.{Draw}
use Rattle.jul_bucket.specs.Places.{ids_at, AllNone}
use Rattle.jul_count.specs.Adds.{places_of}
use Rattle.jul_core.proofs.PeelStatements.{DegreesStart, RoundsKeep, RoundsAreFew, EachIsDrawnOnce, ColumnsAreRight, PlacesAreCountedOnce}
use Rattle.jul_base.proofs.CountLaws.{has_here, has_later}
use Rattle.jul_core.proofs.StageLaws.{IsStage, IsStage-at}
use Rattle.jul_core.proofs.RoundLaws.{place-left, place-small, left-from_place, first-is_bound, ids-are_taken, places-next}
use Rattle.jul_core.proofs.DrawLaws.{drawn_before, taken_once, length-draws, draw_at-is, draws-more, draws_sum, rounds-few}
use Rattle.jul_core.proofs.PlaceSumLaws.{all_rows}

-- ---- the start

count-all : (xs ys : List ℕ) → ((x : ℕ) → has xs x ≡ true → has ys x ≡ true) → count_by (has ys) xs ≡ length xs
count-all [] ys pass = refl
count-all (x ∷ xs) ys pass =
    let here : cond {A = ℕ} (has ys x) 1 0 ≡ 1 = cond-true _ _ _ (pass x (has_here x xs)) in
    omega (arith, sum_by-cons (λ z. cond (has ys z) 1 0) x xs, count-all xs ys (λ y h. pass y (has_later x xs y h)))

row_within : (g : RawGraph) → IsLawful g → (v w : ℕ) → v < vertices g → has (row g v) w ≡ true → w < vertices g
row_within g lawful v w v_lt h =
    let (k, lt, at) = Contains-from_has (row g v) w h in
    let place : row_start g v + k < length g.targets = place_in_range g lawful v (row_start g v + k) (IsPlaceOf-at g lawful v k v_lt lt) in
    omega (arith, target_in_range g lawful (row_start g v + k) place, row-at g lawful v k lt, get_or_default (row g v) k 0 w lt, at)

pub degrees_start : DegreesStart
degrees_start g places lawful degrees = record {
  places_are = record {
    size = degrees.size;
    each = λ v v_lt.
        let all : inner_degree g (below (vertices g)) v ≡ length (row g v) =
        count-all (row g v) (below (vertices g)) (λ w h. has_below (vertices g) w (row_within g lawful v w v_lt h)) in
        omega (arith, degrees.each v v_lt, place-left g (peeling g 0) v (has_below (vertices g) v v_lt));
  };
  draws_are = refl;
}

-- ---- a round

pub rounds_keep : RoundsKeep
rounds_keep g t bucket old new draws lawful symmetric peeled first lowered =
    let p : Peeling = peeling g t in
    let stage : IsStage g p = IsStage-at g lawful t in
    let next : suc t ≡ t + 1 = omega arith in
    let is : bucket ≡ next_bound g p = first-is_bound g lawful p stage old bucket peeled.places_are first in
    let lowered' : IsLowered g old (next_bound g p) new = subst (λ b. IsLowered g old b new) is lowered in
    let places' : ArePlaces g (peeling g (suc t)) new = places-next g lawful symmetric p stage old new peeled.places_are lowered' in
    let drawn : Draw = record { bucket = bucket; ids = ids_at old bucket } in
    let same : drawn ≡ draw_in g p =
    ap (λ b. let d : Draw = record { bucket = b; ids = ids_at old b } in d) is
    ∙ ap (λ ids. let d : Draw = record { bucket = next_bound g p; ids = ids } in d) (ids-are_taken g lawful p stage old peeled.places_are) in
    record {
      places_are = subst (λ k. ArePlaces g (peeling g k) new) next places';
      draws_are = ap (λ l. l ++ drawn ∷ []) peeled.draws_are ∙ ap (λ d. draws_before g t ++ d ∷ []) same ∙ sym (draws-more g t);
    }

pub rounds_are_few : RoundsAreFew
rounds_are_few g t bucket places draws lawful peeled first =
    let (v, v_lt, at) = first.held in
    let are : ArePlaces g (peeling g t) places = peeled.places_are in
    let here : place_in g (peeling g t) v ≡ bucket = sym (are.each v (omega (arith, are.size))) ∙ get_or_default places v 0 bucket v_lt ∙ at in
    rounds-few g t v (left-from_place g (peeling g t) v bucket here first.is_bucket)

-- ---- the end

none_left : (g : RawGraph) → IsLawful g → (t : ℕ) (places : List ℕ) → ArePlaces g (peeling g t) places → AllNone places → (v : ℕ) → v < vertices g →
    has (peeling g t).left v ≡ false
none_left g lawful t places are none v v_lt =
    false_from_ne_true _ (λ h. absurd (omega (
      arith,
      place-small g lawful (peeling g t) (IsStage-at g lawful t) v h,
      are.each v v_lt,
      none v 0 (omega (arith, are.size)),
    )))

drawn_at : (g : RawGraph) (t v i : ℕ) → i < t → has (taken g (peeling g i)) v ≡ true → IsDrawnAt g (draws_before g t) v i
drawn_at g t v i lt is =
    let at : draw_at (draws_before g t) i ≡ draw_in g (peeling g i) = draw_at-is g t i lt in
    let level : IsLevel g v i = Contains-from_has (taken g (peeling g i)) v is in
    record {
      early = omega (arith, length-draws g t);
      held = subst (λ (d : Draw). Contains d.ids v) (sym at) level;
      once = λ u u_lt held.
          let u_in : u < t = omega (arith, length-draws g t) in
          let there : Contains (taken g (peeling g u)) v = subst (λ (d : Draw). Contains d.ids v) (draw_at-is g t u u_in) held in
          taken_once g v u i (has-from_Contains (taken g (peeling g u)) v there) is;
      level = level;
      core = subst (λ (d : Draw). IsCoreness g v d.bucket) (sym at) (level_bound g v i level);
    }

pub each_is_drawn_once : EachIsDrawnOnce
each_is_drawn_once g t places draws lawful peeled none v v_lt =
    let (i, lt, is) = drawn_before g v t v_lt (none_left g lawful t places peeled.places_are none v v_lt) in
    (i, subst (λ l. IsDrawnAt g l v i) (sym peeled.draws_are) (drawn_at g t v i lt is))

pub columns_are_right : ColumnsAreRight
columns_are_right g t places draws columns lawful peeled none cored = record {
  core_size = cored.core_size;
  level_size = cored.level_size;
  levels = λ v v_lt.
      let (i, at) = each_is_drawn_once g t places draws lawful peeled none v v_lt in
      subst (λ k. IsLevel g v k) (sym (cored.levels v i v_lt at.early at.held)) at.level;
  cores = λ v v_lt.
      let (i, at) = each_is_drawn_once g t places draws lawful peeled none v v_lt in
      subst (λ k. IsCoreness g v k) (sym (cored.cores v i v_lt at.early at.held)) at.core;
}

empty_list : (xs : List ℕ) → ((x : ℕ) → has xs x ≡ true → ⊥) → xs ≡ []
empty_list [] none = refl
empty_list (x ∷ xs) none = absurd (none x (has_here x xs))

pub places_are_counted_once : PlacesAreCountedOnce
places_are_counted_once g t places draws lawful peeled none weight =
    let f : ℕ → ℕ = λ v. sum_by weight (places_of g v) in
    let empty : (peeling g t).left ≡ [] =
    empty_list (peeling g t).left (λ v h. both_ways _ (none_left g lawful t places peeled.places_are none v ((IsStage-at g lawful t).within v h)) h) in
    omega (
      arith,
      ap (sum_by (λ (d : Draw). sum_by f d.ids)) peeled.draws_are,
      draws_sum g f t,
      ap (sum_by f) empty,
      all_rows g lawful weight,
    )
