use Rattle.std.proofs.Common.{◌≡◌, ℕ, ◌<◌, ◌∙◌, List, subst, sym, ap}
use Rattle.std.specs.Prelude.{Contains, All}
use Rattle.std.specs.List.Sorted.{IsStrictlyIncreasing}
use Rattle.jul_subset.specs.Marks.{marked}
use Rattle.jul_subset.proofs.ListLaws.{All-from_Contains}
use Rattle.jul_subset.proofs.MarkLaws.{IsStrictlyIncreasing-marked, All-marked, Contains-set_for, SetFor}
use Rattle.jul_subset.proofs.subsets.VertexSubset.from_unordered.Goals as goal

pub from_increasing-requires-clause-within : goal.from_increasing-requires-clause-within
from_increasing-requires-clause-within c =
    All-from_Contains (λ v. v < c.args.n) c.in_order.result.items c.args.ids.items (λ v h. (c.in_order.ensures.same v).0 h) c.requires.within

pub returns-then-len-n-clause-members : goal.returns-then-len-n-clause-members
returns-then-len-n-clause-members c = λ v.
    let P : List ℕ → Type 0 = λ l. Contains l v in
    let members = ap (λ s. s.members) c.from_increasing.ensures.subset in (
      (λ h. (c.in_order.ensures.same v).0 (subst P members h)),
      (λ h. subst P (sym members) ((c.in_order.ensures.same v).1 h)),
    )

pub from_increasing-requires-2-clause-increasing : goal.from_increasing-requires-2-clause-increasing
from_increasing-requires-2-clause-increasing c =
    let is : c.in_ok-members.members.items ≡ marked c.in_ok-marks.marks.items = c.in_ok-members.ensures ∙ ap marked c.as_slice-2.ensures.value in
    subst IsStrictlyIncreasing (sym is) (IsStrictlyIncreasing-marked c.in_ok-marks.marks.items)

pub from_increasing-requires-2-clause-within : goal.from_increasing-requires-2-clause-within
from_increasing-requires-2-clause-within c =
    let is : c.in_ok-members.members.items ≡ marked c.in_ok-marks.marks.items = c.in_ok-members.ensures ∙ ap marked c.as_slice-2.ensures.value in
    subst (All (λ v. v < c.args.n)) (sym is) (All-marked c.in_ok-marks.marks.items c.args.n c.in_ok-marks.ensures.len)

pub returns-clause-members : goal.returns-clause-members
returns-clause-members c = λ v.
    let P : List ℕ → Type 0 = λ l. Contains l v in
    let members = ap (λ s. s.members) c.from_increasing-2.ensures.subset ∙ c.in_ok-members.ensures ∙ ap marked c.as_slice-2.ensures.value in
    let set : SetFor c.in_ok-marks.marks.items c.args.ids.items = subst (SetFor c.in_ok-marks.marks.items) c.as_slice.ensures.value c.in_ok-marks.ensures.set in
    let same = Contains-set_for c.in_ok-marks.marks.items c.args.ids.items set v in (
      (λ h. same.0 (subst P members h)),
      (λ h. subst P (sym members) (same.1 h)),
    )
