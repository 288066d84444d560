use Rattle.std.proofs.Common.{◌≡◌, ◌∙◌, sym, ap, subst}
use Rattle.std.specs.List.Sorted.{IsStrictlyIncreasing}
use Rattle.std.proofs.lemmas.Result.{IfOk-weaker}
use Rattle.jul_subset.specs.Views.{members_of}
use Rattle.jul_subset.specs.Marks.{marked}
use Rattle.jul_subset.proofs.MarkLaws.{SetFor, marked_again}
use Rattle.jul_subset.proofs.subsets.VertexSubset.member_marks.Goals as goal

pub returns-in-Sparse-clause-set : goal.returns-in-Sparse-clause-set
returns-in-Sparse-clause-set c =
    let ids = c.in-Sparse.ids.items in
    let up : IsStrictlyIncreasing c.in-Sparse.ids.items = subst IsStrictlyIncreasing (ap members_of c.in-Sparse.is) c.self.invariant.0.increasing in
    let kept = ap (λ s. s.members) (sym c.self.view_is) ∙ ap members_of c.in-Sparse.is in
    IfOk-weaker c.marks_at.result _ (λ marks. marked marks.items ≡ c.args.self.now.members)
    (λ marks set. marked_again marks.items ids (subst (SetFor marks.items) c.as_slice.ensures.value set) up ∙ sym kept) c.marks_at.ensures.set
