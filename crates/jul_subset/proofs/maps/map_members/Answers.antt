use Rattle.std.proofs.Common.{◌*◌, ◌<◌, ◌≤◌, ◌∙◌, sym, ap, subst, arith, length, rules}
use Rattle.std.specs.Prelude.{All}
use Rattle.std.specs.List.Sorted.{IsStrictlyIncreasing}
use Rattle.std.proofs.lemmas.Grind.{div_ceil_times}
use Rattle.jul_subset.specs.Applications.{AppliedOnce}
use Rattle.jul_subset.proofs.IncreasingLaws.{length_below}
use Rattle.jul_subset.proofs.PickingLaws.{mapped_increasing, mapped_within, mapped_once}
use Rattle.jul_subset.proofs.maps.map_members.Goals as goal

pub overflow_cast-chunks : goal.overflow_cast-chunks
overflow_cast-chunks g c =
    let few = length_below c.args.members.now c.args.n c.requires.members.increasing c.requires.members.within in
    let small : length c.args.members.now ≤ 16777216 = omega (arith, few, c.requires.members.few) in
    search rules

pub from_increasing-requires-clause-increasing : goal.from_increasing-requires-clause-increasing
from_increasing-requires-clause-increasing g c =
    subst IsStrictlyIncreasing (sym c.in_ok-hit.ensures)
    (mapped_increasing (g.F.VertexFn.gives c.args.f.now) c.args.members.now c.args.team.now.chunk c.div_ceil-chunks.result _ _ _ _ c.in_ok-done.ensures.each_once c.requires.members.increasing)

pub from_increasing-requires-clause-within : goal.from_increasing-requires-clause-within
from_increasing-requires-clause-within g c =
    subst (All (λ v. v < c.args.n)) (sym c.in_ok-hit.ensures)
    (mapped_within (g.F.VertexFn.gives c.args.f.now) c.args.members.now c.args.team.now.chunk (λ v. v < c.args.n) c.div_ceil-chunks.result _ _ _ _ c.in_ok-done.ensures.each_once c.requires.members.within)

pub returns-clause-applied : goal.returns-clause-applied
returns-clause-applied g c =
    let laws = g.met.F.Token.Share g.world.𝓛 g.world.𝓜 g.world.𝓡 ((λ s x. x), (λ x. x), (λ x. x), λ x. x) in
    let gives = g.F.VertexFn.gives c.args.f.now in
    let old = g.F.Token.Share.log c.args.token in
    let new = g.F.Token.Share.log c.in_ok-done.done.token in
    let enough : length c.args.members.now ≤ c.div_ceil-chunks.result * c.args.team.now.chunk = rw c.div_ceil-chunks.ensures (div_ceil_times (length c.args.members.now) c.args.team.now.chunk c.args.team.now.some_members).0 in
    subst (AppliedOnce gives (λ v. v) c.args.members.now old new) (sym (ap (λ s. s.members) c.from_increasing.ensures.subset ∙ c.in_ok-hit.ensures))
    (mapped_once gives c.args.members.now c.args.team.now.chunk c.div_ceil-chunks.result old new _ _ c.in_ok-done.ensures.each_once enough _ (laws.log_has_parts _) (laws.log_has_parts _))
