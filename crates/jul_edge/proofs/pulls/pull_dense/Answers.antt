use Rattle.std.proofs.Common.{◌≤◌, ◌<◌, ◌*◌, ◌∙◌, sym, subst, ap}
use Rattle.std.specs.Prelude.{All}
use Rattle.std.proofs.lemmas.Grind.{div_ceil_times}
use Rattle.jul_subset.specs.Subsets.{Subset}
use Rattle.jul_subset.proofs.ApplicationLaws.{done_parts}
use Rattle.jul_edge.proofs.PullLaws.{pull_increasing, pull_within, pulled_all}
use Rattle.jul_edge.proofs.pulls.pull_dense.Goals as goal

pub from_increasing-subset-requires-clause-increasing : goal.from_increasing-subset-requires-clause-increasing
from_increasing-subset-requires-clause-increasing g c =
    pull_increasing (g.F.EdgeFn.gives c.args.f.now) c.args.rows.now c.n-n.ensures.lawful c.args.in_rows.now c.requires.flip c.args.from.now.members (g.F.EdgeFn.wanted c.args.f.now) c.args.team.now.chunk c.div_ceil-chunks.result _ _ _ _ _ c.in_ok-ran.ensures.each_once c.in_ok-noted.ensures

pub from_increasing-subset-requires-clause-within : goal.from_increasing-subset-requires-clause-within
from_increasing-subset-requires-clause-within g c =
    subst (λ k. All (λ v. v < k) c.in_ok-noted.noted.items) (sym c.n-n.ensures.count)
    (pull_within (g.F.EdgeFn.gives c.args.f.now) c.args.rows.now c.n-n.ensures.lawful c.args.in_rows.now c.requires.flip c.args.from.now.members (g.F.EdgeFn.wanted c.args.f.now) c.args.team.now.chunk c.div_ceil-chunks.result _ _ _ _ _ c.in_ok-ran.ensures.each_once c.in_ok-noted.ensures)

pub returns : goal.returns
returns g c =
    let laws = g.met.F.Token.Share g.world.𝓛 g.world.𝓜 g.world.𝓡 ((λ s x. x), (λ x. x), (λ x. x), λ x. x) in
    let enough : c.n-n.result ≤ c.div_ceil-chunks.result * c.args.team.now.chunk = rw c.div_ceil-chunks.ensures (div_ceil_times c.n-n.result c.args.team.now.chunk c.args.team.now.some_members).0 in
    let is = c.in_ok-to_dense.ensures.ok in
    let made = c.from_increasing-subset.ensures.subset in
    let mapped = pulled_all (g.F.EdgeFn.gives c.args.f.now) c.args.rows.now c.n-n.ensures.lawful c.args.in_rows.now c.requires.flip c.args.from.now.members (g.F.EdgeFn.wanted c.args.f.now) c.args.team.now.chunk c.div_ceil-chunks.result _ _ _ _ _ c.in_ok-ran.ensures.each_once c.in_ok-noted.ensures
    (subst (λ k. k ≤ c.div_ceil-chunks.result * c.args.team.now.chunk) c.n-n.ensures.count enough) c.to_dense.new.self
    (ap (λ (s : Subset). s.n) is ∙ ap (λ (s : Subset). s.n) made ∙ c.n-n.ensures.count) (ap (λ (s : Subset). s.dense) is) (ap (λ (s : Subset). s.members) is ∙ ap (λ (s : Subset). s.members) made) in record {
      made = record {
        mapped = mapped;
        parts = done_parts _ _ _ (laws.log_has_parts _) (laws.log_has_parts _) mapped.done mapped.applied.log_is;
        root = c.in_ok-ran.ensures.root;
        none_out = c.in_ok-ran.ensures.none_out;
        home = c.in_ok-ran.ensures.home;
      };
    }
