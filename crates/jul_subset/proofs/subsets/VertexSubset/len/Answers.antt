use Rattle.std.proofs.Common.{◌≡◌, ap, arith, length}
use Rattle.jul_subset.specs.Views.{members_of}
use Rattle.jul_subset.proofs.IncreasingLaws.{length_below}
use Rattle.jul_subset.proofs.subsets.VertexSubset.len.Goals as goal

pub overflow_cast-result : goal.overflow_cast-result
overflow_cast-result c =
    let valid = c.self.invariant.0 in
    let few = length_below (members_of c.self.inside.kept) c.self.inside.n valid.increasing valid.within in
    let kept : length (members_of c.self.inside.kept) ≡ length c.in-Sparse.ids.items = ap (λ k. length (members_of k)) c.in-Sparse.is in
    omega (arith, c.len.ensures, few, kept, valid.few, c.in-Sparse.ids.ok)
