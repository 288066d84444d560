use Rattle.std.proofs.Common.{◌≡◌, ℕ, List, take}
use Rattle.jul_subset.specs.Applications.{Done, AppliedInOrder, answered_true}
use Rattle.jul_subset.proofs.maps.MapJobJob.run.Given as goal

abbrev pub invariant-loop-v : goal.invariant-loop-v
invariant-loop-v g l = record {
  applied : (done : List (Done ℕ)) × AppliedInOrder (g.F.VertexFn.gives l.self.f.now) (take l.v-index l.v-items) (g.F.Token.Share.log l.fn.token) (g.F.Token.Share.log l.token) done × (l.hit.items ≡ answered_true (λ v. v) done);
  home : g.F.Token.Share.home l.token ≡ g.F.Token.Share.home l.fn.token;
  root : g.F.Token.Share.is_root l.token ≡ g.F.Token.Share.is_root l.fn.token;
  out : g.F.Token.Share.out l.token ≡ g.F.Token.Share.out l.fn.token;
}
