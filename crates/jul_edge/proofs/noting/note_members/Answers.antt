use Rattle.std.proofs.Common.{◌∙◌}
use Rattle.jul_subset.proofs.ApplicationLaws.{done_parts}
use Rattle.jul_edge.proofs.NotingLaws.{noted_alone}
use Rattle.jul_edge.proofs.noting.note_members.Goals as goal

pub returns : goal.returns
returns g c =
    let laws = g.met.F.Token.Share g.world.𝓛 g.world.𝓜 g.world.𝓡 ((λ s x. x), (λ x. x), (λ x. x), λ x. x) in
    let may = c.requires.may in
    let mapped = noted_alone (g.F.EdgeFn.gives c.args.visit.now.f.now) c.args.visit.now.rows.now may.lawful c.args.members.now may.members_in c.requires.members.increasing (g.F.EdgeFn.wanted c.args.visit.now.f.now) g.F.Token.Share.log c.args.token c.push_members.new.state c.clear.new.self.items c.push_members.new.noted.items c.in_ok-push_members.ensures.pushed c.clear.ensures.items in record {
      made = record {
        mapped = mapped;
        parts = done_parts _ _ _ (laws.log_has_parts _) (laws.log_has_parts _) mapped.done mapped.applied.log_is;
        root = c.in_ok-push_members.ensures.same.root_is ∙ c.requires.root;
        none_out = c.in_ok-push_members.ensures.same.out_is ∙ c.requires.none_out;
        home = c.in_ok-push_members.ensures.same.home_is;
      };
    }
