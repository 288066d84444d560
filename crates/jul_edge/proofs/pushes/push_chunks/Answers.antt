use Rattle.std.proofs.Common.{◌≤◌, ◌*◌, length}
use Rattle.std.proofs.lemmas.Grind.{div_ceil_times}
use Rattle.jul_edge.proofs.PushedLaws.{pushed_all}
use Rattle.jul_edge.proofs.pushes.push_chunks.Goals as goal

pub returns-clause-pushed : goal.returns-clause-pushed
returns-clause-pushed g c =
    let laws = g.met.F.Token.Share g.world.𝓛 g.world.𝓜 g.world.𝓡 ((λ s x. x), (λ x. x), (λ x. x), λ x. x) in
    let may = c.requires.may in
    let enough : length c.args.members.now ≤ c.div_ceil-chunks.result * c.args.team.now.chunk = rw c.div_ceil-chunks.ensures (div_ceil_times (length c.args.members.now) c.args.team.now.chunk c.args.team.now.some_members).0 in
    pushed_all (g.F.EdgeFn.gives c.args.visit.f.now) c.args.visit.rows.now c.args.visit.round g.F.Token.Share.parts c.args.members.now (g.F.EdgeFn.wanted c.args.visit.f.now) may.lawful may.members_in c.requires.increasing c.args.team.now.chunk c.div_ceil-chunks.result _ _ _ _ _ _ _ c.in_ok-ran.ensures.each_once enough (laws.log_has_parts _) (laws.log_has_parts _) c.in_ok-noted.ensures
