use Rattle.std.proofs.Common.{◌≡◌, ◌∙◌, sym, ap, arith, length, subst, true}
use Rattle.std.specs.List.Sorted.{IsStrictlyIncreasing}
use Rattle.jul_subset.specs.Views.{members_of}
use Rattle.jul_subset.specs.Marks.{marked}
use Rattle.jul_subset.proofs.IncreasingLaws.{length_below}
use Rattle.jul_subset.proofs.MarkLaws.{SetFor, marked_again, IsStrictlyIncreasing-marked, All-marked}
use Rattle.jul_subset.proofs.ViewLaws.{same_parts}
use Rattle.jul_subset.proofs.subsets.VertexSubset.to_dense.Goals as goal
use Rattle.jul_subset.proofs.subsets.VertexSubset.to_dense.Goals.{in-Sparse-1, in-Dense-1}

pub overflow_cast-len : goal.overflow_cast-len
overflow_cast-len c =
    let valid = c.self.invariant.0 in
    let few = length_below (members_of c.self.inside.kept) c.self.inside.n valid.increasing valid.within in
    let kept : length (members_of c.self.inside.kept) ≡ length c.in-Sparse.ids.items = ap (λ k. length (members_of k)) c.in-Sparse.is in
    omega (arith, c.len-len.ensures, few, kept, valid.few, c.in-Sparse.ids.ok)

pub invariant_of-self : goal.invariant_of-self
invariant_of-self c =
    let valid = c.self.invariant.0 in
    let marks = c.in_ok-marks.marks.items in
    let ids = c.in-Sparse.ids.items in
    let up : IsStrictlyIncreasing c.in-Sparse.ids.items = subst IsStrictlyIncreasing (ap members_of c.in-Sparse.is) valid.increasing in
    let set : SetFor c.in_ok-marks.marks.items c.in-Sparse.ids.items = subst (SetFor c.in_ok-marks.marks.items) c.as_slice.ensures.value c.in_ok-marks.ensures.set in
    let again : marked c.in_ok-marks.marks.items ≡ c.in-Sparse.ids.items = marked_again marks ids set up in (
      record { few = valid.few; increasing = IsStrictlyIncreasing-marked marks; within = All-marked marks c.self.inside.n c.in_ok-marks.ensures.len },
      (c.in_ok-marks.ensures.len, omega (arith, c.len-len.ensures, ap length again, c.in-Sparse.ids.ok)),
    )

pub returns-in_ok-marks-clause-ok : goal.returns-in_ok-marks-clause-ok
returns-in_ok-marks-clause-ok c =
    let up : IsStrictlyIncreasing c.in-Sparse.ids.items = subst IsStrictlyIncreasing (ap members_of c.in-Sparse.is) c.self.invariant.0.increasing in
    let set : SetFor c.in_ok-marks.marks.items c.in-Sparse.ids.items = subst (SetFor c.in_ok-marks.marks.items) c.as_slice.ensures.value c.in_ok-marks.ensures.set in
    let again : marked c.in_ok-marks.marks.items ≡ c.in-Sparse.ids.items = marked_again c.in_ok-marks.marks.items c.in-Sparse.ids.items set up in
    let n_is = ap (λ s. s.n) c.self.view_is in
    let members_are = again ∙ sym (ap members_of c.in-Sparse.is) ∙ ap (λ s. s.members) c.self.view_is in
    elim c.match-self-2.branch [
      | in-Sparse-1 w ↦ same_parts c.match-self-2.self _ _ _ _ true w.self-is n_is members_are
      | in-Dense-1 w ↦ same_parts c.match-self-2.self _ _ _ _ true w.self-is n_is members_are
    ]
