use Rattle.std.proofs.Common.{refl, eqb, [], ◌∷◌}
use Rattle.std.specs.List.{IsDistinct}
use Rattle.jul_count.proofs.tests.sets_are_packed_in_the_order_of_the_list.Goals as goal

apart : IsDistinct eqb (1 ∷ 0 ∷ [])
unfolding IsDistinct
apart = ((refl, tt), (tt, tt))

pub pack-requires-clause-distinct : goal.pack-requires-clause-distinct
pack-requires-clause-distinct c κs within = apart
