use Rattle.jul_subset.proofs.ApplicationLaws.{done_parts}
use Rattle.jul_edge.proofs.NotingLaws.{noted_together}
use Rattle.jul_edge.proofs.noting.note_chunks.Goals as goal

pub returns : goal.returns
returns g c =
    let laws = g.met.F.Token.Share g.world.𝓛 g.world.𝓜 g.world.𝓡 ((λ s x. x), (λ x. x), (λ x. x), λ x. x) in
    let may = c.requires.may in
    let mapped = noted_together (g.F.EdgeFn.gives c.args.visit.f.now) c.args.visit.rows.now may.lawful c.args.members.now may.members_in c.requires.members.increasing (g.F.EdgeFn.wanted c.args.visit.f.now) c.args.team.now.chunk c.args.chunks c.requires.chunks.0 _ _ _ _ _ c.in_ok-ran.ensures.each_once c.in_ok-noted.ensures in record {
      made = record {
        mapped = mapped;
        parts = done_parts _ _ _ (laws.log_has_parts _) (laws.log_has_parts _) mapped.done mapped.applied.log_is;
        root = c.in_ok-ran.ensures.root;
        none_out = c.in_ok-ran.ensures.none_out;
        home = c.in_ok-ran.ensures.home;
      };
    }
